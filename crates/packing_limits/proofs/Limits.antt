-- What the limits of a proposal come to, where the tables tell its blocks. Assumes nothing.
use mathlib.Core.Path.{◌≡◌, refl, sym, ap, ◌∙◌}
use mathlib.Core.Bool.{Bool, true, false, cond, not, false≢true}
use mathlib.Core.List.{List, [], ◌∷◌, ◌++◌, flat_map}
use Prim.Native.Nat.{ℕ, ◌≤◌, ◌<◌}
use native.Mathlib.Omega.{arith}
use lib.Dec.{eqb, ltb}
use lib.ListN.{get_or, length-replicate, replicate-append-replicate}
use borrow.Author.Tests.{eqb-true, ltb-true, eq-eqb, ne_eqb, not-true, not-false}
use Rattle.model.specs.Lists.{every}
use Rattle.model.specs.Block.{Block}
use Rattle.model.specs.Packet.{carriable, valid_packet}
use Rattle.model.proofs.Cases.{by_test, both}
use Rattle.model.proofs.Blocks.{Carriable, carriable_facts}
use Rattle.model.proofs.Packets.{valid_facts}
use Rattle.model_packing.specs.Pieces.{Piece, service_of, count_from, In, here}
use Rattle.model_packing.specs.Proposals.{lies_in, pieces_in, block_for, blocks_in, zeros, blank_packet, runs_fit, numbered, one_service, limits}
use Rattle.model_packing.proofs.Lists.{every_in, in_those, those_in, in_flat_map, in_count}
use Rattle.model_packing.proofs.Limits.{limits_all}
use Rattle.packing_limits.specs.Tables.{place_of, first_service, total_size, all_join, Tables, block_at, blocks_at, packet_at}
use Rattle.packing_limits.proofs.Along.{flat_same, every_same}
use Rattle.packing_limits.proofs.Tabled.{lies_own}
use Rattle.packing_limits.proofs.Joining.{joined_first, joined_one, Sound, sound_joins}

-- the bytes of pieces, whatever they say
flat_blank : (qs : List Piece) → flat_map (λ (q : Piece). zeros q.size) qs ≡ zeros (total_size qs)
unfolding flat_map total_size
flat_blank [] = refl
flat_blank (q ∷ qs) = ap (λ l. zeros q.size ++ l) (flat_blank qs) ∙ replicate-append-replicate q.size (total_size qs) 0

-- the block of some pieces, by their service and their bytes
abbrev blank_block : List ℕ → List Piece → Block
blank_block services qs = record { number = first_service services qs; payload = zeros (total_size qs) }

-- the pieces make it,
block_of : (services : List ℕ) (q : Piece) (qs : List Piece) → block_for services (λ r. zeros r.size) (q ∷ qs) ≡ blank_block services (q ∷ qs) ∷ []
unfolding block_for first_service
block_of services q qs = rw (flat_blank (q ∷ qs))

-- and it is there where one of them is
block_in : (services : List ℕ) (q : Piece) (qs : List Piece) → In q qs → In (blank_block services qs) (block_for services (λ r. zeros r.size) qs)
block_in services q [] i = elim i [ ]
block_in services q (r ∷ qs) i = rw (block_of services r qs) (here refl)

module _ (services lengths : List ℕ) (ps : List Piece) where
  -- a proposal within the limits, as facts
  record Within : Type 0 where
    fit : runs_fit services lengths ≡ true
    bytes : every numbered ps ≡ true
    alike : every (one_service services ps) ps ≡ true
    valid : every (λ (q : Piece). valid_packet (blank_packet services ps q.packet)) ps ≡ true

  -- what passes the test is so
  within_facts : limits services lengths ps ≡ true → Within
  unfolding limits
  within_facts e =
      let a = both (runs_fit services lengths) _ e in
      let b = both (every numbered ps) _ a.1 in
      let d = both (every (one_service services ps) ps) _ b.1 in
      record { fit = a.0; bytes = b.0; alike = d.0; valid = d.1 }

  -- the block of a piece may stand in a packet
  within_block : Within → (q : Piece) → In q ps → Carriable (blank_block services (pieces_in q.packet q.block ps))
  unfolding numbered blocks_in
  within_block w q i =
      let n = both (ltb q.packet 256) (ltb q.block 256) (every_in numbered ps w.bytes i) in
      let hb : q.block < 256 = ltb-true _ _ n.1 in
      let v = valid_facts (blank_packet services ps q.packet) (every_in (λ (r : Piece). valid_packet (blank_packet services ps r.packet)) ps w.valid i) in
      carriable_facts _
      (every_in carriable (blocks_in services (λ r. zeros r.size) ps q.packet) v.blocks
      (in_flat_map (λ b. block_for services (λ r. zeros r.size) (pieces_in q.packet b ps)) (count_from 0 256) (in_count q.block 0 256 (omega arith) (omega arith))
      (block_in services q (pieces_in q.packet q.block ps) (in_those (lies_in q.packet q.block) ps i (lies_own q)))))

  -- and all pieces there are of its service
  within_same : Within → (q r : Piece) → In q ps → In r ps → lies_in q.packet q.block r ≡ true → service_of services r.run ≡ service_of services q.run
  unfolding one_service
  within_same w q r i j e =
      eqb-true (service_of services r.run) (service_of services q.run)
      (every_in (λ (x : Piece). eqb (service_of services x.run) (service_of services q.run)) (pieces_in q.packet q.block ps) (every_in (one_service services ps) ps w.alike i)
      (in_those (lies_in q.packet q.block) ps j e))

  -- the first of pieces of one service has this service
  first_same : (s : ℕ) (q : Piece) (qs : List Piece) → In q qs → ((r : Piece) → In r qs → service_of services r.run ≡ s) → first_service services qs ≡ s
  unfolding first_service
  first_same s q [] i f = elim i [ ]
  first_same s q (r ∷ qs) i f = f r (here refl)

  -- so the pieces are within the limits of blocks
  within_sound : Within → Sound services ps
  within_sound w =
      record {
        named = λ q i.
            let own = in_those (lies_in q.packet q.block) ps i (lies_own q) in
            let e = first_same (service_of services q.run) q (pieces_in q.packet q.block ps) own
            (λ r j. let t = those_in (lies_in q.packet q.block) ps j in within_same w q r i t.0 t.1) in
            omega (arith, (within_block w q i).named);
        alike = within_same w;
        small = λ q i. omega (arith, (within_block w q i).small, length-replicate {A = ℕ} (total_size (pieces_in q.packet q.block ps)) 0);
      }

  -- a run does not fit
  pub limits_unfit : (r : Bool) → r ≡ runs_fit services lengths → not r ≡ true → false ≡ limits services lengths ps
  unfolding limits
  limits_unfit r e n = let z : runs_fit services lengths ≡ false = sym e ∙ not-true r n in rw z

  -- a piece may not stand in its block
  pub limits_unjoined : (r : Bool) → r ≡ all_join services ps → r ≡ false → false ≡ limits services lengths ps
  limits_unjoined r e n =
      by_test (limits services lengths ps)
      (λ t. absurd (false≢true (sym n ∙ e ∙ sound_joins services ps (within_sound (within_facts t)))))
      (λ f. sym f)

  module _ (ns ss : List ℕ) (joined : all_join services ps ≡ true) (t : Tables services ps ns ss) where
    -- the tables tell a block,
    told_block : (qs : List Piece) (n k : ℕ) → n ≡ first_service services qs → k ≡ total_size qs → ((q : Piece) → In q qs → 1 ≤ service_of services q.run)
        → block_for services (λ r. zeros r.size) qs ≡ cond (eqb n 0) [] (record { number = n; payload = zeros k } ∷ [])
    unfolding block_for first_service
    told_block [] n k en ek f = rw (eq-eqb n 0 en)
    told_block (q ∷ qs) n k en ek f =
        let z : eqb n 0 ≡ false = ne_eqb n 0 (λ e. omega (arith, f q (here refl))) in
        rw (z, en, ek) (block_of services q qs)

    -- and so a packet
    told_packet : (p : ℕ) → p < 256 → blocks_in services (λ r. zeros r.size) ps p ≡ blocks_at ns ss p 0 256
    unfolding blocks_in blocks_at block_at
    told_packet p hp =
        flat_same (λ b. block_for services (λ r. zeros r.size) (pieces_in p b ps)) (λ b. block_at ns ss (place_of p b)) 256
        (λ b hb. told_block (pieces_in p b ps) (get_or ns (place_of p b) 0) (get_or ss (place_of p b) 0) (t.number p b hp hb) (t.size p b hp hb)
        (λ q i. (joined_first services ps joined q (those_in (lies_in p b) ps i).0).0))

    -- the packets decide
    limits_told : runs_fit services lengths ≡ true → limits services lengths ps ≡ every (λ p. valid_packet (packet_at ns ss p)) (count_from 0 256)
    limits_told fit =
        limits_all services lengths ps ∙ rw (fit, t.bytes, joined_one services ps joined)
        (every_same (λ p. valid_packet (blank_packet services ps p)) (λ p. valid_packet (packet_at ns ss p)) 256
        (λ p hp. ap (λ bs. valid_packet (record { sequence = 0; blocks = bs })) (told_packet p hp)))

  -- whatever tells that the runs fit, that the pieces are entered, and that the packets keep their limits
  pub limits_packets : (ns ss : List ℕ) (fit joined r : Bool) → fit ≡ runs_fit services lengths → not fit ≡ false → joined ≡ all_join services ps → joined ≡ true
      → (joined ≡ true → Tables services ps ns ss) → r ≡ every (λ p. valid_packet (packet_at ns ss p)) (count_from 0 256) → r ≡ limits services lengths ps
  limits_packets ns ss fit joined r ef nf ej y t e = e ∙ sym (limits_told ns ss (sym ej ∙ y) (t y) (sym ef ∙ not-false fit nf))
