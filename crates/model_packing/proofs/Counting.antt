-- How many packets the first-come packer's proposal fills: its pieces name each packet from 0 up to there, and no other. Assumes nothing.
use mathlib.Core.Path.{◌≡◌, refl, ap}
use mathlib.Core.Bool.{true}
use mathlib.Core.List.{List, [], ◌∷◌}
use Prim.Native.Nat.{ℕ, zero, suc, ◌+◌, ◌≤◌, ◌<◌}
use native.Mathlib.Omega.{arith}
use lib.Dec.{eqb}
use lib.ListN.{length}
use borrow.Author.Tests.{eqb-true, eqb-false}
use Rattle.model.proofs.Cases.{by_test}
use Rattle.model_packing.specs.Promises.{NamesBelow}
use Rattle.model_packing.specs.Pieces.{Piece, count_from}
use Rattle.model_packing.specs.FirstCome.{first_come, packable, packets_from, packets_filled}
use Rattle.model_packing.proofs.Lists.{in_map, map_in, in_count, count_in}
use Rattle.model_packing.proofs.Filling.{packed_to, piece_of, pieces_to, first_come_pieces, bounded, placed_from}
use Rattle.model_packing.proofs.Following.{standing}

-- the packets after k runs more: that which is being filled, and those before it
packets_from_packed : (services lengths : List ℕ) (k i : ℕ) → packets_from services lengths k i (packed_to services lengths i) ≡ suc (packed_to services lengths (i + k)).before
unfolding packets_from packed_to
packets_from_packed services lengths zero i = let e : i + 0 ≡ i = omega arith in rw e
packets_from_packed services lengths (suc k) i = let e : i + suc k ≡ suc i + k = omega arith in rw e (packets_from_packed services lengths k (suc i))

module _ (services lengths : List ℕ) (ok : packable services lengths ≡ true) where
  -- each packet up to the one that is being filled is named by the piece of one of the runs so far
  reached_to : (i : ℕ) → i < length services → (p : ℕ) → p ≤ (packed_to services lengths (suc i)).before → (r : ℕ) × (r ≤ i) × ((piece_of services lengths r).packet ≡ p)
  reached_to zero h p g = (0, omega arith, omega (arith, (bounded services lengths ok 1 h).fewer (omega arith)))
  reached_to (suc i) h p g =
      by_test (eqb (packed_to services lengths (suc (suc i))).before p)
      (λ e. (suc i, omega arith, eqb-true _ _ e))
      (λ e. let t = reached_to i (omega arith) p (omega (arith, eqb-false (packed_to services lengths (suc (suc i))).before p e, (placed_from services lengths ok (suc i) h).most)) in
      (t.0, omega (arith, t.1), t.2))

  -- all of them, where there is a run
  all_named : (n : ℕ) → suc n ≡ length services → NamesBelow (pieces_to services lengths (suc n)) (suc (packed_to services lengths (suc n)).before)
  all_named n e =
      record {
        below = λ q i.
            let t = map_in (piece_of services lengths) (count_from 0 (suc n)) i in
            let c = count_in t.0 0 (suc n) t.1 in
            let d = standing services lengths ok (suc n) t.0 (omega (arith, c.1)) (omega arith) in
            omega (arith, d.early, ap (λ (x : Piece). x.packet) t.2);
        reached = λ p h.
            let t = reached_to n (omega arith) p (omega arith) in
            (piece_of services lengths t.0, in_map (piece_of services lengths) (count_from 0 (suc n)) (in_count t.0 0 (suc n) (omega arith) (omega (arith, t.1))), t.2);
      }

-- The packets that the proposal is said to fill are those that its pieces name.
pub filled_named : (services lengths : List ℕ) → packable services lengths ≡ true → NamesBelow (first_come services lengths) (packets_filled services lengths)
unfolding packets_filled packed_to
filled_named [] lengths ok =
    rw (first_come_pieces [] lengths) (record {
      below = λ q i. let t = map_in (piece_of [] lengths) (count_from 0 0) i in absurd (omega (arith, (count_in t.0 0 0 t.1).1));
      reached = λ p h. absurd (omega arith);
    })
filled_named (s ∷ services) lengths ok =
    let e : 0 + suc (length services) ≡ suc (length services) = omega arith in
    rw (first_come_pieces (s ∷ services) lengths, packets_from_packed (s ∷ services) lengths (suc (length services)) 0, e) (all_named (s ∷ services) lengths ok (length services) refl)

-- there are not more of them than runs
pub few_packets : (services lengths : List ℕ) → packable services lengths ≡ true → packets_filled services lengths ≤ length services
unfolding packets_filled packed_to
few_packets [] lengths ok = omega arith
few_packets (s ∷ services) lengths ok =
    let e : 0 + suc (length services) ≡ suc (length services) = omega arith in
    rw (packets_from_packed (s ∷ services) lengths (suc (length services)) 0, e) ((bounded (s ∷ services) lengths ok (suc (length services)) (omega arith)).fewer (omega arith))
