-- `parser_draws::shift_pairs` meets its contract: what was moved so far is the list slid so far. Assumes nothing.
use borrow.Author.Rules.{rules}
use Rattle.parser_draws.proofs.Draws.{slid_again, slid_none}
use native.Mathlib.Omega.{arith}
use Rattle.parser_draws.proofs.shift_pairs.Goals as goal

pub loop-i-init : goal.loop-i-init
loop-i-init c = (omega arith, slid_none 3 _)

pub loop-i-preserved : goal.loop-i-preserved
loop-i-preserved c = (omega arith, slid_again 3 _ 0 _ _ _ 93 c.loop-i-test.true (omega arith) (search rules) c.loop-i.invariant.1)
