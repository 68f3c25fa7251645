-- The states of the first-come packer: what placing a run makes of one, the bounds that every one keeps, and the pieces of the proposal by their runs.
-- Assumes nothing.
use mathlib.Core.Path.{◌≡◌, refl, ap}
use mathlib.Core.Bool.{true, false}
use mathlib.Core.List.{List, [], ◌∷◌, map}
use mathlib.Core.Option.{some}
use Prim.Native.Nat.{ℕ, zero, suc, ◌≤◌, ◌<◌}
use native.Mathlib.Omega.{arith}
use lib.Dec.{eqb, leb}
use lib.ListN.{length, get_or, length-replicate}
use borrow.Author.Tests.{ne_eqb, le-ltb, leb-true, eqb-true, eqb-false}
use Rattle.model.specs.Lists.{every}
use Rattle.model.specs.Said.{Said, Outcome, gave, refused}
use Rattle.model.specs.Block.{Block, block_length}
use Rattle.model.specs.Packet.{Packet, no_packet, packet_length, latest_of, latest, push_new, push_run_at, push_run_by, push_run}
use Rattle.model.proofs.Cases.{by_test, both, gives_at}
use Rattle.model.proofs.Blocks.{Carriable, carriable_facts, written_block_length, written_length, written_header_most}
use Rattle.model.proofs.Packets.{Valid, length_empty}
use Rattle.model.proofs.Pushing.{run_valid}
use Rattle.model.proofs.Limits.{few_blocks}
use Rattle.model_packing.specs.Pieces.{Piece, service_of, count_from}
use Rattle.model_packing.specs.Proposals.{zeros, run_fits, runs_fit}
use Rattle.model_packing.specs.FirstCome.{Filling, start, filled_with, placed, piece_for, placed_run, pieces_from, first_come, packable}
use Rattle.model_packing.proofs.Lists.{every_count}
use Rattle.model_packing.proofs.Taking.{Took, push_takes}

-- a packet without blocks is within the limits
pub bare_valid : Valid no_packet
unfolding every
bare_valid = record { sequence = omega arith; blocks = refl; length = omega (arith, length_empty no_packet refl) }

-- a run that may stand in a packet as a block is taken by a packet without blocks
bare_takes : (s : ℕ) (run : List ℕ) → Carriable (record { number = s; payload = run })
    → push_run s run no_packet ≡ gave (record { sequence = 0; blocks = record { number = s; payload = run } ∷ [] })
unfolding push_run_by push_run_at push_new latest_of
bare_takes s run c =
    let b : Block = record { number = s; payload = run } in
    let l : block_length b ≤ 33 = omega (arith, written_block_length b c.filled, written_length b, written_header_most s, c.small) in
    let e : packet_length no_packet ≡ 0 = length_empty no_packet refl in
    let some : eqb (length run) 0 ≡ false = ne_eqb (length run) 0 (λ z. omega (arith, c.filled)) in
    let named : eqb s 0 ≡ false = ne_eqb s 0 (λ z. omega (arith, c.named)) in
    simp (e, le-ltb 63 s c.known, some, named, le-ltb 31 (length run) c.small, le-ltb 128 (block_length b) (omega arith))

-- How a run is placed: the packet that is being filled takes it, or refuses it and one without blocks does.
pub data Placing (s : ℕ) (run : List ℕ) (at to : Filling) : Type 0 where
  into_same : to.before ≡ at.before → push_run s run at.packet ≡ gave to.packet → Placing s run at to
  into_next : {why : Said} → to.before ≡ suc at.before → push_run s run at.packet ≡ refused why → push_run s run no_packet ≡ gave to.packet
      → Placing s run at to

-- every run that may stand in a packet as a block is placed so
placing : (s : ℕ) (run : List ℕ) (at : Filling) → Carriable (record { number = s; payload = run }) → Placing s run at (placed s run at)
unfolding placed
placing s run at c = by_push (push_run s run at.packet) refl
  where
    by_push : (o : Outcome Packet) → push_run s run at.packet ≡ o → Placing s run at (filled_with s run at o)
    by_push (gave p) e = into_same refl e
    by_push (refused why) e = into_next refl e (rw (bare_takes s run c))

-- What placing a run of a service makes of a state of the packer.
pub record PlacedAt (s : ℕ) (at to : Filling) : Type 0 where
  -- the packet that is being filled is within the limits,
  pub valid : Valid to.packet
  -- there is one packet more at the most,
  pub least : at.before ≤ to.before
  pub most : to.before ≤ suc at.before
  -- and the latest block of the service is there, one of 63 at the most
  pub place : ℕ
  pub found : latest s to.packet ≡ some place
  pub within : place < length to.packet.blocks
  pub few : length to.packet.blocks ≤ 63

module _ (s : ℕ) (run : List ℕ) (at to : Filling) where
  -- it is that where the packet that takes the run was within the limits,
  taken_bounds : (p : Packet) → Valid p → push_run s run p ≡ gave to.packet → at.before ≤ to.before → to.before ≤ suc at.before → PlacedAt s at to
  taken_bounds p v e l m =
      let w = gives_at Valid (push_run s run p) e (run_valid p v true s run) in
      let t = gives_at (Took s run p) (push_run s run p) e (push_takes s run p) in
      record { valid = w; least = l; most = m; place = t.place; found = t.found; within = t.within; few = few_blocks to.packet w }

  -- as it was, or is one without blocks
  placing_bounds : Valid at.packet → Placing s run at to → PlacedAt s at to
  placing_bounds v (into_same b e) = taken_bounds at.packet v e (omega arith) (omega arith)
  placing_bounds v (into_next b r e) = taken_bounds no_packet bare_valid e (omega arith) (omega arith)

-- The bounds of the packer with i runs placed.
pub record Bounded (i : ℕ) (at : Filling) : Type 0 where
  -- the packet that is being filled is within the limits,
  pub valid : Valid at.packet
  -- the first run is placed in it,
  pub first : i ≡ 0 → at ≡ start
  -- so that there are fewer packets before it than runs
  pub fewer : 1 ≤ i → at.before < i

-- they hold at first
pub bounded_start : Bounded 0 start
bounded_start = record { valid = bare_valid; first = λ _. refl; fewer = λ h. absurd (omega arith) }

module _ (services lengths : List ℕ) (i : ℕ) (fits : run_fits services lengths i ≡ true) where
  -- a run that fits may stand in a packet as a block
  pub fits_carriable : Carriable (record { number = service_of services i; payload = zeros (get_or lengths i 0) })
  unfolding run_fits
  fits_carriable = carriable_facts (record { number = service_of services i; payload = zeros (get_or lengths i 0) }) fits

  module _ (at : Filling) where
    -- how it is placed
    pub run_placing : Placing (service_of services i) (zeros (get_or lengths i 0)) at (placed_run services lengths i at)
    run_placing = placing (service_of services i) (zeros (get_or lengths i 0)) at fits_carriable

    -- what placing it makes of a state
    pub run_placed : Valid at.packet → PlacedAt (service_of services i) at (placed_run services lengths i at)
    run_placed v = placing_bounds (service_of services i) (zeros (get_or lengths i 0)) at (placed_run services lengths i at) v run_placing

    -- the first run goes to the first packet
    first_placed : at ≡ start → (to : Filling) → Placing (service_of services i) (zeros (get_or lengths i 0)) at to → to.before ≡ 0
    first_placed e to (into_same b t) = rw e at b
    first_placed e to (into_next b r t) =
        let f = rw e at r in
        let g = bare_takes (service_of services i) (zeros (get_or lengths i 0)) fits_carriable in
        let z : ◌≡◌ {A = ℕ} 0 1 = cc in
        absurd (omega arith)

    -- and the bounds hold with one run more
    pub bounded_next : Bounded i at → Bounded (suc i) (placed_run services lengths i at)
    bounded_next b =
        let p = run_placed b.valid in
        record {
          valid = p.valid;
          first = λ e. absurd (omega arith);
          fewer =
              λ h. by_test (eqb i 0)
              (λ e. omega (arith, first_placed (b.first (eqb-true i 0 e)) (placed_run services lengths i at) run_placing))
              (λ e. omega (arith, p.most, b.fewer (omega (arith, eqb-false i 0 e))));
        }

-- what the packer has when the first i runs are placed
unfoldable pub packed_to : List ℕ → List ℕ → ℕ → Filling
packed_to services lengths zero = start
packed_to services lengths (suc i) = placed_run services lengths i (packed_to services lengths i)

-- the piece of run r
abbrev pub piece_of : List ℕ → List ℕ → ℕ → Piece
piece_of services lengths r = piece_for r (service_of services r) (get_or lengths r 0) (packed_to services lengths (suc r))

-- the pieces of the first i runs
abbrev pub pieces_to : List ℕ → List ℕ → ℕ → List Piece
pieces_to services lengths i = map (piece_of services lengths) (count_from 0 i)

-- the pieces of the runs from one on
pieces_from_packed : (services lengths : List ℕ) (k i : ℕ) → pieces_from services lengths k i (packed_to services lengths i) ≡ map (piece_of services lengths) (count_from i k)
unfolding pieces_from packed_to count_from
pieces_from_packed services lengths zero i = refl
pieces_from_packed services lengths (suc k) i = ap (λ (l : List Piece). piece_of services lengths i ∷ l) (pieces_from_packed services lengths k (suc i))

-- The proposal has a piece for each run.
pub first_come_pieces : (services lengths : List ℕ) → first_come services lengths ≡ pieces_to services lengths (length services)
unfolding packed_to
first_come_pieces services lengths = pieces_from_packed services lengths (length services) 0

module _ (services lengths : List ℕ) (ok : packable services lengths ≡ true) where
  -- there are 256 runs at the most,
  pub few_runs : length services ≤ 256
  unfolding packable
  few_runs = leb-true _ _ (both (leb (length services) 256) (runs_fit services lengths) ok).0

  -- and each of them fits
  pub each_run_fits : (r : ℕ) → r < length services → run_fits services lengths r ≡ true
  unfolding packable runs_fit
  each_run_fits r h = every_count (run_fits services lengths) 0 (length services) r (both (leb (length services) 256) (runs_fit services lengths) ok).1 (omega arith) (omega arith)

  -- none is without bytes
  pub run_some : (r : ℕ) → r < length services → 1 ≤ get_or lengths r 0
  run_some r h = omega (arith, (fits_carriable services lengths r (each_run_fits r h)).filled, length-replicate {A = ℕ} (get_or lengths r 0) 0)

  -- so the bounds hold all the way
  pub bounded : (i : ℕ) → i ≤ length services → Bounded i (packed_to services lengths i)
  unfolding packed_to
  bounded zero h = bounded_start
  bounded (suc i) h = bounded_next services lengths i (each_run_fits i h) (packed_to services lengths i) (bounded i (omega arith))

  -- how a run is placed in the state before it,
  pub placing_from : (i : ℕ) → i < length services → Placing (service_of services i) (zeros (get_or lengths i 0)) (packed_to services lengths i) (packed_to services lengths (suc i))
  unfolding packed_to
  placing_from i h = run_placing services lengths i (each_run_fits i h) (packed_to services lengths i)

  -- and what that makes of it
  pub placed_from : (i : ℕ) → i < length services → PlacedAt (service_of services i) (packed_to services lengths i) (packed_to services lengths (suc i))
  unfolding packed_to
  placed_from i h = run_placed services lengths i (each_run_fits i h) (packed_to services lengths i) (bounded i (omega arith)).valid
