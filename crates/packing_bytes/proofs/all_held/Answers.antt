-- What is left of the bytes decides. Assumes nothing.
use native.Mathlib.Omega.{arith}
use Rattle.packing_bytes.proofs.Walks.{every_first, every_next, every_done}
use borrow.Author.Rules.{rules}
use Rattle.packing_bytes.proofs.all_held.Goals as goal

pub loop-run-init : goal.loop-run-init
loop-run-init c = (omega arith, omega arith, search (rules, every_first))

pub loop-run-preserved-then-number_at-byte : goal.loop-run-preserved-then-number_at-byte
loop-run-preserved-then-number_at-byte c = (omega arith, omega arith, search (rules, every_next))

pub returns : goal.returns
returns c = search (rules, every_done)
