-- The pieces that are counted and those that are left are all pieces. Assumes nothing.
use native.Mathlib.Omega.{arith}
use Rattle.packing_bytes.proofs.Numbers.{counted_more, counted_all}
use borrow.Author.Rules.{rules}
use Rattle.packing_bytes.proofs.count_pieces.Goals as goal

pub loop-o-preserved : goal.loop-o-preserved
loop-o-preserved c = (omega arith, omega arith, search (rules, counted_more))

pub returns : goal.returns
returns c = counted_all _ c.loop-o.o c.loop-o.count _ c.loop-o.invariant.2 c.loop-o-test.false
