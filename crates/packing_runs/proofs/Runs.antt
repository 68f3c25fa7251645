-- The tests of a run, way out by way out. Assumes nothing.
use mathlib.Core.Path.{◌≡◌, refl, ◌∙◌}
use mathlib.Core.Bool.{Bool, false}
use mathlib.Core.List.{List, [], ◌∷◌}
use Prim.Native.Nat.{ℕ, zero, suc, ◌≤◌, ◌<◌}
use native.Mathlib.Omega.{arith}
use lib.Dec.{leb}
use lib.ListN.{length, get_or, length-replicate}
use borrow.Author.Tests.{le-leb, lt-leb}
use Rattle.model.specs.Packet.{carriable}
use Rattle.model_packing.specs.Proposals.{run_fits}

-- behind the end there is 0
pub past_end : (l : List ℕ) (i : ℕ) → length l ≤ i → 0 ≡ get_or l i 0
past_end [] i h = refl
past_end (x ∷ l) zero h = absurd (omega arith)
past_end (x ∷ l) (suc i) h = past_end l i (omega arith)

-- a run of service s and n bytes
module _ (services lengths : List ℕ) (i s n : ℕ) (es : s ≡ get_or services i 0) (en : n ≡ get_or lengths i 0) where
  -- 0 is no service
  pub fits_unnamed : s < 1 → false ≡ run_fits services lengths i
  unfolding run_fits carriable
  fits_unnamed h = simp (← es, lt-leb 1 s h)

  -- and none is above 63
  pub fits_unknown : 1 ≤ s → 63 < s → false ≡ run_fits services lengths i
  unfolding run_fits carriable
  fits_unknown g h = simp (← es, le-leb 1 s g, lt-leb s 63 h)

  -- a run without bytes
  pub fits_empty : 1 ≤ s → s ≤ 63 → n < 1 → false ≡ run_fits services lengths i
  unfolding run_fits carriable
  fits_empty g h k = simp (← es, ← en, le-leb 1 s g, le-leb s 63 h, length-replicate {A = ℕ} n 0, lt-leb 1 n k)

  -- and one with bytes
  pub fits_some : (r : Bool) → 1 ≤ s → s ≤ 63 → 1 ≤ n → r ≡ leb n 31 → r ≡ run_fits services lengths i
  unfolding run_fits carriable
  fits_some r g h k e = e ∙ simp (← es, ← en, le-leb 1 s g, le-leb s 63 h, length-replicate {A = ℕ} n 0, le-leb 1 n k)
