-- A line is laid behind those that wait where it is short enough, and else nothing is. Assumes nothing.
use mathlib.Core.Path.{◌≡◌, refl, ◌∙◌}
use mathlib.Core.Bool.{cond}
use mathlib.Core.List.{List, [], ◌∷◌, ◌++◌, append-nil}
use Prim.Native.Nat.{ℕ, suc, ◌+◌, ◌≤◌, ◌<◌}
use native.Mathlib.Omega.{arith}
use lib.Dec.{ltb}
use lib.ListN.{length, take, set}
use lib.Seq.{sets, take-set-le}
use borrow.Author.Tests.{lt-ltb, le-ltb}
use Rattle.program_text.specs.Laid.{Laid}
use Rattle.program_text.proofs.Layings.{laid_whole, whole_taken}

-- what stands before a place stays
take_sets : (vs l : List ℕ) (n i : ℕ) → n ≤ i → take n (sets l i vs) ≡ take n l
take_sets [] l n i h = refl
take_sets (v ∷ vs) l n i h = take_sets vs (set l i v) n (suc i) (omega arith) ∙ take-set-le n l i v h

module _ (line : List ℕ) {out after : List ℕ} {at r : ℕ} (w : Laid line out at r after) (room : at + 600 ≤ length out) where
  pub short_line : r < at + 600 → take r after ≡ take at out ++ cond (ltb (length line) 600) line []
  short_line h =
      let k : length line < 600 = omega (arith, w.place) in
      rw (lt-ltb _ _ k) (whole_taken (laid_whole w (omega arith)) (omega arith))

  pub long_line : at + 600 ≤ r → take at after ≡ take at out ++ cond (ltb (length line) 600) line []
  long_line h =
      let k : 600 ≤ length line = omega (arith, w.place) in
      let same : at ≤ at = omega arith in
      rw (le-ltb _ _ k, append-nil, w.bytes) (take_sets line out at at same)
