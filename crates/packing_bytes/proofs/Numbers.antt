-- Pieces and the five numbers of each. Assumes nothing.
use mathlib.Core.Path.{◌≡◌, refl, sym, ◌∙◌}
use mathlib.Core.List.{List, [], ◌∷◌}
use Prim.Native.Nat.{ℕ, zero, suc, ◌+◌, ◌-◌, ◌*◌, ◌≤◌, ◌<◌}
use native.Mathlib.Omega.{arith}
use lib.ListN.{length, get_or, drop, length-drop}
use lib.Seq.{get_or-drop, drop-drop}
use Rattle.model_packing.specs.Pieces.{Piece, pieces_of}
use Rattle.packing_bytes.specs.Table.{nth_piece}

-- what stands for the piece at a place that has none
abbrev pub no_piece : Piece
no_piece = record { run = 0; first = 0; size = 0; packet = 0; block = 0 }

-- five numbers or more begin with a piece
more_numbers : (l : List ℕ) → 5 ≤ length l → length (pieces_of l) ≡ suc (length (pieces_of (drop 5 l)))
unfolding pieces_of
more_numbers [] h = absurd (omega arith)
more_numbers (a ∷ []) h = absurd (omega arith)
more_numbers (a ∷ b ∷ []) h = absurd (omega arith)
more_numbers (a ∷ b ∷ d ∷ []) h = absurd (omega arith)
more_numbers (a ∷ b ∷ d ∷ e ∷ []) h = absurd (omega arith)
more_numbers (a ∷ b ∷ d ∷ e ∷ f ∷ l) h = refl

-- fewer make none
few_numbers : (l : List ℕ) → length l < 5 → length (pieces_of l) ≡ 0
unfolding pieces_of
few_numbers [] h = refl
few_numbers (a ∷ []) h = refl
few_numbers (a ∷ b ∷ []) h = refl
few_numbers (a ∷ b ∷ d ∷ []) h = refl
few_numbers (a ∷ b ∷ d ∷ e ∷ []) h = refl
few_numbers (a ∷ b ∷ d ∷ e ∷ f ∷ l) h = absurd (omega arith)

-- pieces that are counted, and those that are left from a number on
module _ (l : List ℕ) (o count most : ℕ) (all : length (pieces_of l) ≡ count + length (pieces_of (drop o l))) where
  one_more : 5 ≤ length l - o → length (pieces_of (drop o l)) ≡ suc (length (pieces_of (drop (o + 5) l)))
  one_more h = more_numbers (drop o l) (simp length-drop (omega arith)) ∙ rw drop-drop

  -- one more is counted
  pub counted_more : 5 ≤ length l - o → length (pieces_of l) ≡ count + 1 + length (pieces_of (drop (o + 5) l))
  counted_more h = omega (arith, one_more h)

  -- more than the most are counted
  pub counted_enough : most < count → (count ≤ most → count ≡ length (pieces_of l)) × (most < count → most < length (pieces_of l))
  counted_enough h = (λ g. omega arith, λ g. omega arith)

  -- all are
  pub counted_all : length l - o < 5 → (count ≤ most → count ≡ length (pieces_of l)) × (most < count → most < length (pieces_of l))
  counted_all h = let z = few_numbers (drop o l) (simp length-drop (omega arith)) in (λ g. omega arith, λ g. omega arith)

-- the piece at a place of the list
pub piece_at : (l : List ℕ) (i : ℕ) → i < length (pieces_of l) → get_or (pieces_of l) i no_piece ≡ nth_piece l i
unfolding pieces_of
piece_at [] i h = absurd (omega arith)
piece_at (a ∷ []) i h = absurd (omega arith)
piece_at (a ∷ b ∷ []) i h = absurd (omega arith)
piece_at (a ∷ b ∷ d ∷ []) i h = absurd (omega arith)
piece_at (a ∷ b ∷ d ∷ e ∷ []) i h = absurd (omega arith)
piece_at (a ∷ b ∷ d ∷ e ∷ f ∷ l) zero h = refl
piece_at (a ∷ b ∷ d ∷ e ∷ f ∷ l) (suc i) h = piece_at l i (omega arith) ∙ simp (start, shift 1, shift 2, shift 3, shift 4)
  where
    start : get_or (a ∷ b ∷ d ∷ e ∷ f ∷ l) (5 * suc i) 0 ≡ get_or l (5 * i) 0
    start = let z : 5 * suc i ≡ 5 + 5 * i = omega arith in rw z (sym (get_or-drop 5 (a ∷ b ∷ d ∷ e ∷ f ∷ l) (5 * i) 0))

    shift : (k : ℕ) → get_or (a ∷ b ∷ d ∷ e ∷ f ∷ l) (5 * suc i + k) 0 ≡ get_or l (5 * i + k) 0
    shift k = let z : 5 * suc i + k ≡ 5 + (5 * i + k) = omega arith in rw z (sym (get_or-drop 5 (a ∷ b ∷ d ∷ e ∷ f ∷ l) (5 * i + k) 0))
