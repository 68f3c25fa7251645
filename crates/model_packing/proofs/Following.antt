-- How the pieces of the first-come packer's proposal stand to one another: a later one is in no earlier packet, and in no earlier block of its service; and
-- pieces in one block are of one service. Assumes nothing.
use mathlib.Core.Path.{◌≡◌, refl, sym, ap, ◌∙◌}
use mathlib.Core.Bool.{true}
use mathlib.Core.List.{List}
use Prim.Native.Nat.{ℕ, zero, suc, ◌≤◌, ◌<◌}
use native.Mathlib.Omega.{arith}
use lib.Dec.{eqb}
use lib.ListN.{length, get_or}
use borrow.Author.Tests.{eqb-true, eqb-false}
use Rattle.model.specs.Block.{Block}
use Rattle.model.specs.Packet.{no_block, block_at, latest, push_run}
use Rattle.model.proofs.Cases.{by_test, gives_at}
use Rattle.model_packing.specs.Pieces.{Piece, service_of}
use Rattle.model_packing.specs.Proposals.{zeros}
use Rattle.model_packing.specs.FirstCome.{Filling, place_or0, piece_for, packable}
use Rattle.model_packing.proofs.Taking.{Took, push_takes, latest_is, latest_last}
use Rattle.model_packing.proofs.Filling.{Placing, into_same, into_next, PlacedAt, packed_to, piece_of, placing_from, placed_from}

-- A piece that was proposed before the packer came to a state: its packet is not behind the one that is being filled, and if it is that one its block is
-- there, of its service.
pub record Standing (services : List ℕ) (q : Piece) (at : Filling) : Type 0 where
  pub early : q.packet ≤ at.before
  pub there : q.packet ≡ at.before → q.block < length at.packet.blocks
  pub named : q.packet ≡ at.before → (block_at at.packet q.block).number ≡ service_of services q.run

-- it stands so when one run more is placed
standing_next : (services : List ℕ) (q : Piece) (s : ℕ) (run : List ℕ) (at to : Filling) → Standing services q at → Placing s run at to → Standing services q to
standing_next services q s run at to d (into_same b e) =
    let t = gives_at (Took s run at.packet) (push_run s run at.packet) e (push_takes s run at.packet) in
    record {
      early = omega (arith, d.early);
      there = λ p. (t.kept q.block (d.there (p ∙ b))).0;
      named = λ p. (t.kept q.block (d.there (p ∙ b))).1 ∙ d.named (p ∙ b);
    }
standing_next services q s run at to d (into_next b r e) =
    record { early = omega (arith, d.early); there = λ p. absurd (omega (arith, d.early)); named = λ p. absurd (omega (arith, d.early)) }

-- a piece stands so when its own run is placed
standing_own : (services : List ℕ) (r n : ℕ) (at to : Filling) → PlacedAt (service_of services r) at to → Standing services (piece_for r (service_of services r) n to) to
standing_own services r n at to k =
    let e : place_or0 (latest (service_of services r) to.packet) ≡ k.place = ap place_or0 k.found in
    record {
      early = omega arith;
      there = λ p. omega (arith, k.within);
      named = λ p. rw e (latest_is (service_of services r) (length to.packet.blocks) to.packet.blocks k.place k.found);
    }

-- How a piece stands to itself and to those behind it.
pub record Follows (services : List ℕ) (r q : Piece) : Type 0 where
  pub packets : r.packet ≤ q.packet
  pub blocks : r.packet ≡ q.packet → service_of services r.run ≡ service_of services q.run → r.block ≤ q.block
  pub in_one_block : r.packet ≡ q.packet → r.block ≡ q.block → service_of services r.run ≡ service_of services q.run

module _ (services lengths : List ℕ) (ok : packable services lengths ≡ true) where
  -- every piece stands so from then on
  pub standing : (i r : ℕ) → r < i → i ≤ length services → Standing services (piece_of services lengths r) (packed_to services lengths i)
  standing zero r g h = absurd (omega arith)
  standing (suc i) r g h =
      by_test (eqb r i)
      (λ e. let z : r ≡ i = eqb-true r i e in rw z (standing_own services i (get_or lengths i 0) (packed_to services lengths i) (packed_to services lengths (suc i)) (placed_from services lengths ok i h)))
      (λ e. standing_next services (piece_of services lengths r) (service_of services i) (zeros (get_or lengths i 0)) (packed_to services lengths i) (packed_to services lengths (suc i))
      (standing i r (omega (arith, eqb-false r i e)) (omega arith)) (placing_from services lengths ok i h))

  -- the piece of a later run follows that of an earlier one,
  later_follows : (r q : ℕ) → r < q → q < length services → Follows services (piece_of services lengths r) (piece_of services lengths q)
  later_follows r q g h =
      let d = standing (suc q) r (omega arith) h in
      let o = standing (suc q) q (omega arith) h in
      let k = placed_from services lengths ok q h in
      let bs : List Block = (packed_to services lengths (suc q)).packet.blocks in
      let e : (piece_of services lengths q).block ≡ k.place = ap place_or0 k.found in
      record {
        packets = d.early;
        blocks = λ p s. omega (arith, latest_last (service_of services q) (length bs) bs k.place (piece_of services lengths r).block k.found (d.there p) (d.named p ∙ s));
        in_one_block = λ p b. sym (d.named p) ∙ ap (λ (j : ℕ). (get_or bs j no_block).number) b ∙ o.named refl;
      }

  -- and so does every piece itself
  pub follows : (r q : ℕ) → r ≤ q → q < length services → Follows services (piece_of services lengths r) (piece_of services lengths q)
  follows r q g h =
      by_test (eqb r q)
      (λ e. let z : r ≡ q = eqb-true r q e in rw z (record { packets = omega arith; blocks = λ p s. omega arith; in_one_block = λ p b. refl }))
      (λ e. later_follows r q (omega (arith, eqb-false r q e)) h)
