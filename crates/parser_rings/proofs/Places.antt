-- Bytes laid over places, from the first place on. Assumes nothing.
use mathlib.Core.Path.{◌≡◌, refl, ◌∙◌}
use mathlib.Core.List.{List, [], ◌∷◌, ◌++◌}
use Prim.Native.Nat.{ℕ, suc, ◌+◌, ◌≤◌}
use native.Mathlib.Omega.{arith}
use lib.ListN.{length, take, drop, set, replicate, length-replicate, take-append-drop}
use lib.Seq.{sets, sets-eq, take_at, length-take-le}

-- one part behind the other
pub sets_append : {A : Type 0} (l : List A) (i : ℕ) (vs ws : List A) → sets l i (vs ++ ws) ≡ sets (sets l i vs) (i + length vs) ws
sets_append l i [] ws = let z : i + 0 ≡ i = omega arith in rw z
sets_append l i (v ∷ vs) ws = let z : i + suc (length vs) ≡ suc i + length vs = omega arith in rw z (sets_append (set l i v) (suc i) vs ws)

module _ {A : Type 0} (l vs : List A) (room : length vs ≤ length l) where
  -- they stand first, and what is behind them stays
  pub sets_first : sets l 0 vs ≡ vs ++ drop (length vs) l
  sets_first = let z : 0 + length vs ≡ length vs = omega arith in rw z at (sets-eq vs l 0 (omega arith))

  -- so that they are found again
  pub take_sets : take (length vs) (sets l 0 vs) ≡ vs
  take_sets = rw sets_first (take_at vs (drop (length vs) l) (length vs) refl)

-- the first places laid over themselves
pub sets_same : {A : Type 0} (l : List A) (n : ℕ) → n ≤ length l → sets l 0 (take n l) ≡ l
sets_same l n h =
    let z : length (take n l) ≡ n = length-take-le n l h in
    sets_first l (take n l) (omega arith) ∙ rw z (take-append-drop n l)

-- the places of a packet
pub zeros : length (replicate {A = ℕ} 128 0) ≡ 128
zeros = length-replicate {A = ℕ} 128 0
