-- What the packer answers, way out by way out. Assumes nothing.
use mathlib.Core.Path.{◌≡◌, refl, ap, ◌∙◌}
use mathlib.Core.Bool.{Bool, true, false}
use mathlib.Core.List.{List, [], ◌∷◌}
use Prim.Native.Nat.{ℕ, zero, suc, ◌*◌, ◌≤◌, ◌<◌}
use native.Mathlib.Omega.{arith}
use lib.Dec.{ltb}
use lib.ListN.{length}
use lib.Seq.{sets}
use borrow.Author.Tests.{le-leb, lt-leb, lt-ltb, le-ltb}
use Rattle.model.specs.Said.{gave, refused, over_limit, out_short, put_into}
use Rattle.basics.proofs.Runs.{sets_front}
use Rattle.model_packing.specs.Pieces.{Piece, numbers_of}
use Rattle.model_packing.specs.Proposals.{runs_fit}
use Rattle.model_packing.specs.FirstCome.{Filling, start, placed_run, pieces_from, first_come, packets_filled, packable, propose}

-- five numbers for each piece
pub length_numbers : (ps : List Piece) → length (numbers_of ps) ≡ 5 * length ps
unfolding numbers_of
length_numbers [] = refl
length_numbers (q ∷ ps) = let e = length_numbers ps in omega arith

-- a piece for each run
pub length_pieces : (services lengths : List ℕ) (k i : ℕ) (at : Filling) → length (pieces_from services lengths k i at) ≡ k
unfolding pieces_from
length_pieces services lengths zero i at = refl
length_pieces services lengths (suc k) i at = ap suc (length_pieces services lengths k (suc i) (placed_run services lengths i at))

-- so that a proposal has five numbers for each run
pub proposal_length : (services lengths : List ℕ) → length (numbers_of (first_come services lengths)) ≡ 5 * length services
proposal_length services lengths = length_numbers (first_come services lengths) ∙ ap (λ (k : ℕ). 5 * k) (length_pieces services lengths (length services) 0 start)

-- a proposal can be made for few runs that fit
pub all_fit : (services lengths : List ℕ) → length services ≤ 256 → (fit : Bool) → fit ≡ runs_fit services lengths → fit ≡ true → packable services lengths ≡ true
unfolding packable
all_fit services lengths few fit is e = rw (le-leb _ _ few, ← is, e)

module _ (services lengths out : List ℕ) where
  -- 26 where no proposal can be made
  unpacked : packable services lengths ≡ false → propose services lengths out ≡ refused over_limit
  unfolding propose
  unpacked e = rw e

  -- of too many runs
  pub too_many : 256 < length services → propose services lengths out ≡ refused over_limit
  unfolding packable
  too_many h = unpacked (rw (lt-leb _ _ h))

  module _ (few : length services ≤ 256) (fit : Bool) (is : fit ≡ runs_fit services lengths) where
    -- of one that does not fit
    pub one_unfit : fit ≡ false → propose services lengths out ≡ refused over_limit
    unfolding packable
    one_unfit e = unpacked (rw (le-leb _ _ few, ← is, e))

    module _ (e : fit ≡ true) where
      -- the numbers of the pieces
      abbrev pub numbers : List ℕ
      numbers = numbers_of (first_come services lengths)

      -- the runs are packed
      packs : packable services lengths ≡ true
      packs = all_fit services lengths few fit is e

      -- they are five for each run
      pub needed : length numbers ≡ 5 * length services
      needed = proposal_length services lengths

      -- 9 where the pieces are longer than the output
      pub short_of_room : length out < 5 * length services → propose services lengths out ≡ refused (out_short (5 * length services))
      unfolding propose put_into
      short_of_room h =
          let s : ltb (length out) (length numbers) ≡ true = lt-ltb (length out) (length numbers) (omega (arith, needed)) in
          rw (packs, s, needed)

      -- else they are in front of it
      pub made : 5 * length services ≤ length out
          → propose services lengths out ≡ gave (record { packets = packets_filled services lengths; numbers = numbers; out = sets out 0 numbers })
      unfolding propose put_into
      made h =
          let s : ltb (length out) (length numbers) ≡ false = le-ltb (length out) (length numbers) (omega (arith, needed)) in
          rw (packs, s, sets_front out numbers (omega (arith, needed)))
