-- A packet that is pushed: what its slot is in the model, by the tests on the way. Assumes nothing.
use mathlib.Core.Path.{◌≡◌, refl, sym, ap, ◌∙◌}
use mathlib.Core.Bool.{true, false}
use mathlib.Core.List.{List, [], ◌∷◌, ◌++◌}
use Prim.Native.Nat.{ℕ, ◌+◌, ◌≤◌, ◌<◌}
use native.Mathlib.Omega.{arith}
use borrow.Author.Tests.{eq-eqb, ne_eqb, eqb-true, eqb-false, le-leb, lt-leb, leb-true, leb-false}
use lib.Dec.{eqb, leb}
use lib.ListN.{length, set}
use Rattle.model.specs.Said.{Outcome, gave, bad_value, full, says, after, mapped}
use Rattle.model.specs.Packet.{packet_length, valid_packet}
use Rattle.model.specs.Mux.{Mux, with_packets, push_packet, queued}
use Rattle.model.proofs.Cases.{by_test, gives_at}
use Rattle.model.proofs.Packets.{facts_valid}
use Rattle.packet.specs.Packet.{packet_of, valid_dtvcc}
use Rattle.packet.proofs.Holds.{within_facts, held_valid}
use Rattle.packet.specs.declared.DTVCCPacket.{DTVCCPacket}
use Rattle.slots.specs.Slot.{slot_of}
use Rattle.writer_storing.specs.Placing.{placing}
use Rattle.writer_storing.proofs.Packs.{empty_blocks, some_blocks}
use Rattle.writer.specs.Writer.{means, valid_writer, stored}
use Rattle.writer.specs.Making as making
use Rattle.writer.specs.Calls.{packet_outcome}
use Rattle.std.specs.Prelude.{Result}
use Rattle.caption.specs.Answers.{outcome}
use Rattle.caption.specs.declared.Refusal.{Refusal}
use Rattle.slots.specs.declared.Slot.{Slot}
use lib.Seq.{sets}
use native.Mathlib.Nat.{add-zero}
use Rattle.writer.proofs.Valid.{Shaped, Ok, Order, valid_order, valid_ok, valid_mux_means}
use Rattle.writer.proofs.Stored.{Grows, grows_packet, packets_length, stored_self, stored_packet, means_stored}
use Rattle.writer.proofs.Calls.{Answers, answered, says_mapped}
use Rattle.writer.specs.declared.CCDataWriter.{CCDataWriter}

-- the ways out
module _ (w : CCDataWriter) (valid : valid_writer w ≡ true) (d : DTVCCPacket) where
  -- the state that the call leaves, and what it answers
  abbrev Answering : Result (Unit {0}) Refusal → CCDataWriter → Type 0
  Answering r y = Answers (packet_outcome d w) (stored w) w r y

  -- a packet outside the limits
  refused_packet : {r : Result (Unit {0}) Refusal} → says (outcome r) ≡ bad_value → valid_dtvcc d ≡ false → Answering r w
  refused_packet a f = rw (valid, f) (record { answer = a; state = refl; places = refl })

  module _ (g : valid_dtvcc d ≡ true) (shaped : Shaped w) where
    -- its places are in order
    order : Order w
    order = valid_order w shaped valid

    -- the limits as facts
    ok : Ok w
    ok = valid_ok w shaped valid

    -- an empty packet
    accepted_empty : {r : Result (Unit {0}) Refusal} → says (outcome r) ≡ says (gave (means w)) → packet_length (packet_of d) ≡ 0 → Answering r w
    unfolding push_packet
    accepted_empty a z =
        rw (valid, g, eq-eqb _ _ (empty_blocks (packet_of d) z)) (answered (gave (means w)) a (sym (stored_self w order)) (ap means (stored_self w order)))

    module _ (n : packet_length (packet_of d) ≡ 0 → ⊥) where
      -- the packet is not empty
      some : eqb (length (packet_of d).blocks) 0 ≡ false
      some = ne_eqb (length (packet_of d).blocks) 0 (λ z. omega (arith, some_blocks (packet_of d) n))

      -- no place left
      refused_full : {r : Result (Unit {0}) Refusal} → says (outcome r) ≡ full → 16 ≤ w.packet_count → Answering r w
      unfolding push_packet queued
      refused_full a z =
          let k : leb 16 (length (means w).packets) ≡ true = le-leb 16 (length (means w).packets) (omega (arith, packets_length w order)) in
          rw (valid, g, some, k) (record { answer = a; state = refl; places = refl })

      -- a place is left
      accepted_packet : {r : Result (Unit {0}) Refusal} → says (outcome r) ≡ says (gave (means w)) → w.packet_count < 16 → Answering r (making.with_packets (w.packet_count + 1) (set w.packets w.packet_count (slot_of (packet_of d))) w)
      unfolding push_packet queued
      accepted_packet a z =
          let k : leb 16 (length (means w).packets) ≡ false = lt-leb 16 (length (means w).packets) (omega (arith, packets_length w order)) in
          let x : Mux = with_packets ((means w).packets ++ (packet_of d ∷ [])) (means w) in
          let put : push_packet (packet_of d) (means w) ≡ gave x = rw (some, k) in
          let v : valid_packet (packet_of d) ≡ true = facts_valid (packet_of d) (held_valid d (within_facts d g)) in
          let grown : Grows (means w) x = gives_at (Grows (means w)) _ put (grows_packet (means w) (valid_mux_means w valid) (packet_of d) v) in
          rw (valid, g, some, k) (answered (gave x) a (sym (stored_packet w order (packet_of d))) (means_stored w order ok x grown))

-- by the tests of the packet and the places: what `place` answers, how many slots are then taken, and what they hold
module _ (w : CCDataWriter) (valid : valid_writer w ≡ true) (shaped : Shaped w) (d : DTVCCPacket) {r : Result (Unit {0}) Refusal} {n : ℕ} {l : List Slot} where
  by_tests : says (outcome r) ≡ says (placing w.packet_count d) → n ≡ after w.packet_count (mapped (λ slots. w.packet_count + length slots) (placing w.packet_count d))
      → l ≡ after w.packets (mapped (sets w.packets w.packet_count) (placing w.packet_count d)) → Answers (packet_outcome d w) (stored w) w r (making.with_packets n l w)
  unfolding placing
  by_tests a e f =
      by_test (valid_dtvcc d)
      (λ g. by_test (eqb (packet_length (packet_of d)) 0)
      (λ z. rw (rw (g, z) at e, rw (g, z) at f, add-zero w.packet_count) (accepted_empty w valid d g shaped (rw (g, z) at a) (eqb-true _ _ z)))
      (λ z. let some : packet_length (packet_of d) ≡ 0 → ⊥ = eqb-false (packet_length (packet_of d)) 0 z in
      by_test (leb 16 w.packet_count)
      (λ k. rw (rw (g, z, k) at e, rw (g, z, k) at f) (refused_full w valid d g shaped some (rw (g, z, k) at a) (leb-true _ _ k)))
      (λ k. rw (rw (g, z, k) at e, rw (g, z, k) at f) (accepted_packet w valid d g shaped some (rw (g, z, k) at a) (leb-false 16 w.packet_count k)))))
      (λ g. rw (rw g at e, rw g at f) (refused_packet w valid d (rw g at a) g))

  -- by what `place` answers
  pub stores : (t : Outcome ℕ) → says (outcome r) ≡ says t → t ≡ mapped (λ slots. w.packet_count + length slots) (placing w.packet_count d) → n ≡ after w.packet_count t
      → l ≡ after w.packets (mapped (sets w.packets w.packet_count) (placing w.packet_count d)) → Answers (packet_outcome d w) (stored w) w r (making.with_packets n l w)
  stores t told e k f = by_tests (told ∙ ap says e ∙ says_mapped _ (placing w.packet_count d)) (k ∙ ap (after w.packet_count) e) f
