-- The sum so far and the bytes of the runs that are left are all bytes. Assumes nothing.
use native.Mathlib.Omega.{arith}
use Rattle.packing_bytes.proofs.Walks.{length_first, length_more, length_done}
use borrow.Author.Rules.{rules}
use Rattle.packing_bytes.proofs.count_bytes.Goals as goal

pub loop-run-init : goal.loop-run-init
loop-run-init c = (omega arith, search (rules, length_first))

pub loop-run-preserved : goal.loop-run-preserved
loop-run-preserved c = (omega arith, search (rules, length_more))

pub returns : goal.returns
returns c = (search (rules, length_done), omega arith)
