-- From the last piece to the first, the table tells the holders of those that were met. Assumes nothing.
use mathlib.Core.Bool.{false≢true}
use native.Mathlib.Omega.{arith}
use Rattle.packing_bytes.proofs.Holding.{tells_first, fill_outside, fill_twice, fill_more}
use borrow.Author.Rules.{rules}
use Rattle.packing_bytes.proofs.fill_table.Goals as goal

pub loop-place-init : goal.loop-place-init
loop-place-init c = (omega arith, search (rules, tells_first))

pub returns-then-not-is_inside : goal.returns-then-not-is_inside
returns-then-not-is_inside c = record { tells = λ h. absurd (false≢true h); uncovered = λ h. search (rules, fill_outside) }

pub returns-then-not-fill_piece : goal.returns-then-not-fill_piece
returns-then-not-fill_piece c = record { tells = λ h. absurd (false≢true h); uncovered = λ h. search (rules, fill_twice) }

pub loop-place-preserved : goal.loop-place-preserved
loop-place-preserved c = (omega arith, search (rules, fill_more))
