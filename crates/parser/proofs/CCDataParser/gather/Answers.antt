-- `parser::CCDataParser::gather` meets its contract: where there are places for all that a frame could deliver none is over. Assumes nothing.
use mathlib.Core.Path.{◌≡◌}
use mathlib.Core.Bool.{false}
use native.Mathlib.Omega.{arith}
use borrow.Author.Rules.{rules}
use borrow.Author.Tests.{le-ltb}
use Rattle.parser_triples.proofs.Plans.{packets_short}
use Rattle.parser.specs.Means.{Shaped}
use Rattle.parser.specs.Push.{over}
use Rattle.parser.proofs.Calls.{length_mapped}
use Rattle.parser.proofs.Told.{few_left}
use Rattle.parser.proofs.Valids.{valid_fine}
use Rattle.parser.proofs.CCDataParser.gather.Goals as goal
use Rattle.parser.proofs.CCDataParser.gather.Goals.{Start}

-- the arrays have their lengths
shaped : (s : Start) → Shaped s.args.self.now
shaped s = record { pairs = search rules; pending = search rules; waiting = search (rules, length_mapped, s.well_formed) }

pub overflow_mul-self : goal.overflow_mul-self
overflow_mul-self c = omega (arith, (valid_fine _ c.requires.limits).ring.count)

pub overflow_add-self : goal.overflow_add-self
overflow_add-self c = omega (arith, (valid_fine _ c.requires.limits).ring.count, packets_short _ c.requires.planned)

-- no more than 32 wait
fits : (c : goal.After-gather_here) → over c.args.self.now c.args.frame.now ≡ false
fits c =
    le-ltb _ _ (few_left _ (valid_fine _ c.requires.limits) (shaped (goal.at.returns-then-self-frame-clause-answer c).Start) _ c.requires.planned c.if-self-frame.true)

pub returns-then-self-frame-clause-answer : goal.returns-then-self-frame-clause-answer
returns-then-self-frame-clause-answer c = rw (fits c)

pub returns-then-self-frame-clause-places : goal.returns-then-self-frame-clause-places
returns-then-self-frame-clause-places c = rw (fits c) c.gather_here.ensures
