-- What a slot that is a written packet holds, and what makes one. Assumes nothing.
use mathlib.Core.Path.{◌≡◌, sym, ap, ◌∙◌}
use mathlib.Core.Bool.{true}
use Prim.Native.Nat.{◌+◌, ◌*◌, ◌/◌, ◌≤◌}
use native.Mathlib.Omega.{arith}
use borrow.Author.Tests.{eq-eqb, eqb-true, le-leb, leb-true}
use lib.Dec.{eqb}
use lib.ListN.{length}
use Rattle.model.specs.Packet.{Packet, packet_length, written_packet, valid_packet}
use Rattle.model.specs.Mux.{storable, started}
use Rattle.model.proofs.Cases.{both}
use Rattle.model.proofs.Lists.{same_true, same_self}
use Rattle.model.proofs.Packets.{Valid, valid_facts, facts_valid, Shape, shape, plain_back}
use Rattle.model.proofs.Sends.{triples_written}
use Rattle.slots.specs.Slot.{written_bytes, read_slot, written_slot}
use Rattle.slots.specs.Walk.{Carries}
use Rattle.slots.specs.declared.Slot.{Slot}

-- what makes a written packet
module _ (s : Slot) (p : Packet) (v : Valid p) (some : 1 ≤ length p.blocks) (l : packet_length p ≡ s.len) (w : written_bytes s ≡ written_packet p) where
  -- it reads as the packet
  pub slot_reads : read_slot s ≡ p
  unfolding read_slot
  slot_reads = rw (w, plain_back p v)

  -- and is its written form
  pub facts_written : written_slot s ≡ true
  unfolding written_slot storable
  facts_written = simp (slot_reads, facts_valid p v, le-leb _ _ some, eq-eqb _ _ l, w) (same_self (written_packet p))

-- what a written packet is
module _ (s : Slot) (e : written_slot s ≡ true) where
  -- the three tests
  tests : (storable (read_slot s) ≡ true) × (packet_length (read_slot s) ≡ s.len) × (written_packet (read_slot s) ≡ written_bytes s)
  unfolding written_slot
  tests =
      let t = both (storable (read_slot s)) _ e in
      let u = both (eqb (packet_length (read_slot s)) s.len) _ t.1 in
      (t.0, eqb-true _ _ u.0, same_true _ _ u.1)

  -- it may be queued
  pub carried_storable : storable (read_slot s) ≡ true
  carried_storable = tests.0

  -- the packet's limits
  parts : (Valid (read_slot s)) × (1 ≤ length (read_slot s).blocks)
  unfolding storable
  parts = let t = both (valid_packet (read_slot s)) _ tests.0 in (valid_facts _ t.0, leb-true _ _ t.1)

  -- it carries that packet
  pub carried : Carries s
  carried =
      let v = parts.0 in
      let l = tests.1 in
      let h : Shape (read_slot s) = shape (read_slot s) v parts.1 in
      let b = tests.2 in
      let n : length (written_bytes s) ≡ 2 * ((s.len + 1) / 2) = ap length (sym b) ∙ h.even ∙ rw l in
      record {
        some = omega (arith, l, h.least, h.even);
        most = omega (arith, l, v.length);
        whole = omega arith;
        triples = triples_written (read_slot s) v parts.1 ∙ ap started b;
        measured = l;
      }

  -- in the bytes that it is written in
  pub carried_written : written_bytes s ≡ written_packet (read_slot s)
  carried_written = sym tests.2

  -- and is one within the limits
  pub carried_valid : (Valid (read_slot s)) × (1 ≤ length (read_slot s).blocks)
  carried_valid = parts
