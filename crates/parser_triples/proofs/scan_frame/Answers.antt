-- `parser_triples::scan_frame` meets its contract: one law of `Scans` for each way out. Assumes nothing.
use mathlib.Core.Path.{sym, ◌∙◌}
use native.Mathlib.Omega.{arith}
use Rattle.parser_triples.proofs.Scans.{part_done, part_again, part_ends}
use Rattle.parser_triples.proofs.scan_frame.Goals as goal

pub returns-then-ends : goal.returns-then-ends
returns-then-ends c = c.scan_after.ensures ∙ sym (part_ends _ c.args.frame.now _ c.loop-i.invariant.1 c.loop-i-test.true (c.if-ends.true))

pub loop-i-preserved : goal.loop-i-preserved
loop-i-preserved c = (omega arith, part_again _ c.args.frame.now _ c.loop-i.invariant.1 c.loop-i-test.true (omega arith))

pub returns : goal.returns
returns c = part_done _ c.args.frame.now _ c.loop-i.invariant.1 (omega arith)
