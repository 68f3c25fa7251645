-- The bytes that the read gave follow the input that was read before. Assumes nothing.
use Rattle.std.proofs.Common.{rules}
use Rattle.ccpack.proofs.Inputs.{steps_kept, steps_past}
use Rattle.ccpack.proofs.step.Goals as goal

pub returns-then-have-lt-MOST_KEPT-clause-steps : goal.returns-then-have-lt-MOST_KEPT-clause-steps
returns-then-have-lt-MOST_KEPT-clause-steps c = (steps_kept {s = c.args.s} c.if-have-lt-MOST_KEPT.true (search rules) c.in_ok-n.ensures.ok c.read_on.ensures c.requires.over_bound).0

pub returns-then-have-lt-MOST_KEPT-clause-have_le_most_kept_2 : goal.returns-then-have-lt-MOST_KEPT-clause-have_le_most_kept_2
returns-then-have-lt-MOST_KEPT-clause-have_le_most_kept_2 c = (steps_kept {s = c.args.s} c.if-have-lt-MOST_KEPT.true (search rules) c.in_ok-n.ensures.ok c.read_on.ensures c.requires.over_bound).1

pub returns-clause-steps : goal.returns-clause-steps
returns-clause-steps c = (steps_past {s = c.args.s} {buf = c.args.buf.now} c.if-have-lt-MOST_KEPT.false c.in_ok-n-2.ensures.ok c.read_on-2.ensures c.requires.have_le_most_kept).0

pub returns-clause-have_le_most_kept_2 : goal.returns-clause-have_le_most_kept_2
returns-clause-have_le_most_kept_2 c = (steps_past {s = c.args.s} {buf = c.args.buf.now} c.if-have-lt-MOST_KEPT.false c.in_ok-n-2.ensures.ok c.read_on-2.ensures c.requires.have_le_most_kept).1
