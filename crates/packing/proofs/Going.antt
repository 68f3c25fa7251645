-- The packer between two runs: what it has placed, and what is left to place, make the whole proposal. Assumes nothing.
use mathlib.Core.Path.{◌≡◌, refl, sym, ap, subst, ◌∙◌}
use mathlib.Core.Bool.{true}
use mathlib.Core.List.{List, [], ◌∷◌}
use Prim.Native.Nat.{ℕ, suc, ◌+◌, ◌-◌, ◌*◌, ◌≤◌, ◌<◌}
use native.Mathlib.Omega.{arith}
use native.Mathlib.Numerals.{add-one}
use lib.Dec.{eqb}
use lib.ListN.{length, get_or, length-replicate}
use lib.Seq.{sets, length-sets}
use borrow.Author.Tests.{eqb-true, eqb-false}
use Rattle.model.specs.Packet.{latest}
use Rattle.model.proofs.Cases.{by_test}
use Rattle.packet.specs.declared.DTVCCPacket.{DTVCCPacket}
use Rattle.packet.specs.Packet.{packet_of, valid_dtvcc}
use Rattle.packet.specs.Packet as packet
use Rattle.packet.proofs.Holds.{blank_places}
use Rattle.packet.proofs.Keeps.{blank_valid}
use Rattle.model_packing.specs.Pieces.{numbers_of, service_of}
use Rattle.model_packing.specs.Proposals.{run_fits}
use Rattle.model_packing.specs.FirstCome.{start, placed_run, place_or0, piece_for, pieces_from, packets_from, first_come, packets_filled, packable}
use Rattle.model_packing.specs.FirstCome as model
use Rattle.model_packing.proofs.Filling.{PlacedAt, Bounded, bounded_start, fits_carriable, run_placed, bounded_next, few_runs, each_run_fits}
use Rattle.packing.specs.declared.Filling.{Filling}
use Rattle.packing.specs.Fillings.{filling_of, InPlaces, PlacesRun}
use Rattle.packing.proofs.Fillings.{blank_holds}

-- five numbers stored, then the rest
stored : (l : List ℕ) (o a b d e f : ℕ) (vs : List ℕ)
    → sets l o (a ∷ (b ∷ (d ∷ (e ∷ (f ∷ vs))))) ≡ sets (sets l o (a ∷ b ∷ d ∷ e ∷ f ∷ [])) (o + 5) vs
stored l o a b d e f vs = let p : o + 5 ≡ suc (suc (suc (suc (suc o)))) = omega arith in rw p

-- an output with all pieces in front
abbrev whole : List ℕ → List ℕ → List ℕ → List ℕ
whole services lengths out = sets out 0 (numbers_of (first_come services lengths))

-- and how many packets are filled then
abbrev packets_of : List ℕ → List ℕ → ℕ
packets_of services lengths = packets_from services lengths (length services) 0 start

-- none are without runs,
pub none_filled : (services lengths : List ℕ) → length services ≡ 0 → 0 ≡ packets_filled services lengths
unfolding packets_filled
none_filled [] lengths h = refl
none_filled (s ∷ services) lengths h = absurd (omega arith)

-- and so many with some
some_filled : (services lengths : List ℕ) → (length services ≡ 0 → ⊥) → packets_of services lengths ≡ packets_filled services lengths
unfolding packets_filled
some_filled [] lengths h = absurd (h refl)
some_filled (s ∷ services) lengths h = refl

-- i runs are placed: the output with the pieces of the rest is the whole output, and their packets are all packets
pub record Going (services lengths before : List ℕ) (i : ℕ) (at : Filling) (out : List ℕ) : Type 0 where
  pub packs : packable services lengths ≡ true
  pub upto : i ≤ length services
  pub valid : valid_dtvcc at.packet ≡ true
  pub places : InPlaces at.packet
  pub bounded : Bounded i (filling_of at)
  pub left : sets out (5 * i) (numbers_of (pieces_from services lengths (length services - i) i (filling_of at))) ≡ whole services lengths before
  pub packets : packets_from services lengths (length services - i) i (filling_of at) ≡ packets_of services lengths

module _ (services lengths before : List ℕ) where
  -- without runs there is nothing to put
  pub none_put : length services ≡ 0 → before ≡ whole services lengths before
  unfolding pieces_from numbers_of
  none_put h = rw h

  -- at first nothing is placed
  pub going_first : packable services lengths ≡ true → (p : DTVCCPacket) → p ≡ packet.blank → Going services lengths before 0 (record { before = 0; packet = p }) before
  going_first e p n =
      let z : length services - 0 ≡ length services = omega arith in
      rw n
      (record {
        packs = e;
        upto = omega arith;
        valid = blank_valid;
        places = blank_places;
        bounded = rw blank_holds bounded_start;
        left = rw (z, blank_holds);
        packets = rw (z, blank_holds);
      })

  module _ (i : ℕ) (at : Filling) (out : List ℕ) (g : Going services lengths before i at out) where
    -- there are few packets before the one that is being filled
    pub going_few : at.before ≤ 255
    going_few =
        by_test (eqb i 0)
        (λ z. let b : at.before ≡ 0 = ap (λ (f : model.Filling). f.before) (g.bounded.first (eqb-true i 0 z)) in omega arith)
        (λ z. omega (arith, g.bounded.fewer (omega (arith, eqb-false i 0 z)), g.upto, few_runs services lengths g.packs))

    -- the output keeps its length
    pub going_length : length out ≡ length before
    going_length =
        sym (length-sets out (5 * i) (numbers_of (pieces_from services lengths (length services - i) i (filling_of at))))
        ∙ ap length g.left ∙ length-sets before 0 (numbers_of (first_come services lengths))

    -- at last all pieces are put,
    pub going_put : length services ≤ i → out ≡ whole services lengths before
    unfolding pieces_from numbers_of
    going_put h = let z : length services - i ≡ 0 = omega arith in rw z at g.left

    -- and all packets counted
    pub going_filled : length services ≤ i → (length services ≡ 0 → ⊥) → at.before + 1 ≡ packets_filled services lengths
    unfolding packets_from
    going_filled h some =
        let z : length services - i ≡ 0 = omega arith in
        let p : suc at.before ≡ packets_of services lengths = rw z at g.packets in
        add-one at.before ∙ p ∙ some_filled services lengths some

    -- between them, run i is next
    module _ (h : i < length services) where
      -- its service
      abbrev s : ℕ
      s = service_of services i

      -- and its length
      abbrev n : ℕ
      n = get_or lengths i 0

      -- it fits into a block
      fits : run_fits services lengths i ≡ true
      fits = each_run_fits services lengths g.packs i h

      -- it has few bytes
      pub next_small : (size : ℕ) → size ≡ n → size ≤ 31
      next_small size e = omega (arith, (fits_carriable services lengths i fits).small, length-replicate {A = ℕ} n 0)

      -- the run is placed
      module _ (service size : ℕ) (to : Filling) (es : service ≡ s) (en : size ≡ n) (t : PlacesRun service size at to) where
        -- as the model places it
        to_is : filling_of to ≡ placed_run services lengths i (filling_of at)
        to_is = t.means ∙ rw (es, en)

        -- which keeps the bounds
        to_bounded : Bounded (suc i) (filling_of to)
        to_bounded = rw to_is (bounded_next services lengths i fits (filling_of at) g.bounded)

        to_placed : PlacedAt s (filling_of at) (filling_of to)
        to_placed = rw to_is (run_placed services lengths i fits (filling_of at) g.bounded.valid)

        block_small : place_or0 (latest service (packet_of to.packet)) < 63
        block_small = rw (es, to_placed.found) (omega (arith, to_placed.within, to_placed.few))

        -- the numbers of its piece are bytes
        pub piece_small : (block : ℕ) → block ≡ place_or0 (latest service (packet_of to.packet)) → (i < 256) × (size < 256) × (to.before < 256) × (block < 256)
        piece_small block e = (
          omega (arith, few_runs services lengths g.packs),
          omega (arith, next_small size en),
          omega (arith, to_bounded.fewer (omega arith), few_runs services lengths g.packs),
          omega (arith, block_small),
        )

        -- with its piece put, one run more is placed
        pub going_on : (block : ℕ) → block ≡ place_or0 (latest service (packet_of to.packet))
            → (end : List ℕ) → end ≡ sets out (5 * i) (i ∷ 0 ∷ size ∷ to.before ∷ block ∷ []) → Going services lengths before (i + 1) to end
        unfolding pieces_from packets_from numbers_of
        going_on block eb end e =
            let k : ℕ = length services - suc i in
            let z : length services - i ≡ suc k = omega arith in
            let w : 5 * (i + 1) ≡ 5 * i + 5 = omega arith in
            let l : sets out (5 * i) (numbers_of (pieces_from services lengths (suc k) i (filling_of at))) ≡ whole services lengths before = rw z at g.left in
            let m : sets out (5 * i) (numbers_of (piece_for i s n (filling_of to) ∷ pieces_from services lengths k (suc i) (filling_of to))) ≡ whole services lengths before =
            subst (λ (f : model.Filling). sets out (5 * i) (numbers_of (piece_for i s n f ∷ pieces_from services lengths k (suc i) f)) ≡ whole services lengths before) (sym to_is) l in
            let p : packets_from services lengths (suc k) i (filling_of at) ≡ packets_of services lengths = rw z at g.packets in
            let q : packets_from services lengths k (suc i) (placed_run services lengths i (filling_of at)) ≡ packets_of services lengths = p in
            record {
              packs = g.packs;
              upto = omega arith;
              valid = t.valid;
              places = t.places;
              bounded = rw (add-one i) to_bounded;
              left = rw (e, w, add-one i, eb, es, en, ← stored) m;
              packets = rw (add-one i, to_is) q;
            }
