-- The tests of a packet's bytes, one after the other. Assumes nothing.
use mathlib.Core.Path.{◌≡◌, refl, sym, ◌∙◌}
use mathlib.Core.Bool.{Bool, false, not, and-false}
use mathlib.Core.List.{List, [], ◌∷◌}
use Prim.Native.Nat.{ℕ, ◌≤◌, ◌<◌}
use native.Mathlib.Omega.{arith}
use lib.Dec.{eqb}
use lib.ListN.{length}
use borrow.Author.Tests.{not-false}
use Rattle.model.specs.Distribution.{has_mark, sections_in_order}
use Rattle.model.proofs.Distribution.{passes_ordered}

-- fewer than two bytes
pub short_unmarked : (s : List ℕ) → length s < 2 → false ≡ has_mark s
unfolding has_mark
short_unmarked [] h = refl
short_unmarked (b ∷ []) h = sym (and-false (eqb b 0x96))
short_unmarked (b ∷ c ∷ s) h = absurd (omega arith)

-- bytes that are in order are enough to look at all that a packet has
pub enough : (s : List ℕ) (r : Bool) → r ≡ sections_in_order s → not r ≡ false → 13 ≤ length s
enough s r e n = (passes_ordered s (sym e ∙ not-false r n)).enough
