-- Numbers in fives, from a place on: the piece there and the pieces behind it. Assumes nothing.
use mathlib.Core.Path.{◌≡◌, refl}
use mathlib.Core.List.{List, [], ◌∷◌}
use Prim.Native.Nat.{ℕ, zero, suc, ◌+◌, ◌-◌, ◌%◌, ◌≤◌, ◌<◌}
use native.Mathlib.Omega.{arith}
use lib.Dec.{ltb}
use lib.ListN.{length, drop, length-drop}
use lib.Seq.{get_or-drop, drop-drop}
use borrow.Author.Tests.{ltb-true, ltb-false}
use Rattle.model.proofs.Cases.{by_test}
use Rattle.model_packing.specs.Pieces.{Piece, pieces_of}
use Rattle.packing_limits.specs.Tables.{piece_at}

-- five numbers or more begin with a piece,
five_some : (l : List ℕ) → 5 ≤ length l → pieces_of l ≡ piece_at l 0 ∷ pieces_of (drop 5 l)
unfolding pieces_of
five_some [] h = absurd (omega arith)
five_some (r ∷ []) h = absurd (omega arith)
five_some (r ∷ f ∷ []) h = absurd (omega arith)
five_some (r ∷ f ∷ n ∷ []) h = absurd (omega arith)
five_some (r ∷ f ∷ n ∷ p ∷ []) h = absurd (omega arith)
five_some (r ∷ f ∷ n ∷ p ∷ b ∷ l) h = refl

-- and fewer make none
five_none : (l : List ℕ) → length l < 5 → pieces_of l ≡ []
unfolding pieces_of
five_none [] h = refl
five_none (r ∷ []) h = refl
five_none (r ∷ f ∷ []) h = refl
five_none (r ∷ f ∷ n ∷ []) h = refl
five_none (r ∷ f ∷ n ∷ p ∷ []) h = refl
five_none (r ∷ f ∷ n ∷ p ∷ b ∷ l) h = absurd (omega arith)

-- no place further
plus_zero : (o : ℕ) → o + 0 ≡ o
plus_zero o = omega arith

module _ (l : List ℕ) (o : ℕ) where
  -- the piece at a place is the first from there on
  from_there : piece_at (drop o l) 0 ≡ piece_at l o
  from_there = simp (get_or-drop, plus_zero)

  -- from a place on, where five numbers are left
  pub piece_first : o + 5 ≤ length l → pieces_of (drop o l) ≡ piece_at l o ∷ pieces_of (drop (o + 5) l)
  piece_first h = rw (five_some (drop o l) (simp length-drop (omega arith)), from_there, drop-drop)

  -- and where fewer are
  pub piece_none : length l < o + 5 → pieces_of (drop o l) ≡ []
  piece_none h = five_none (drop o l) (simp length-drop (omega arith))

-- what holds of all pieces and, with more, of fewer, holds of those from a place on that is a multiple of five; k bounds that place
pub piece_left : (P : List Piece → Type 0) → ((q : Piece) (qs : List Piece) → P (q ∷ qs) → P qs)
    → (k : ℕ) (l : List ℕ) (o : ℕ) → o ≤ k → o % 5 ≡ 0 → o ≤ length l → P (pieces_of l) → P (pieces_of (drop o l))
piece_left P fewer zero l o few five there all = let z : o ≡ 0 = omega arith in rw z all
piece_left P fewer (suc k) l o few five there all =
    by_test (ltb o 5)
    (λ t. let z : o ≡ 0 = omega (arith, ltb-true o 5 t) in rw z all)
    (λ f.
    let w : 5 ≤ o = ltb-false o 5 f in
    let z : o ≡ 5 + (o - 5) = omega arith in
    let e = five_some l (omega arith) in
    let m = piece_left P fewer k (drop 5 l) (o - 5) (omega arith) (omega arith) (simp length-drop (omega arith)) (fewer (piece_at l 0) (pieces_of (drop 5 l)) (rw e at all)) in
    rw z (rw drop-drop at m))
