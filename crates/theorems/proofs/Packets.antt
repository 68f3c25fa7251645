-- A packet that is pushed is a push of the model, or changes nothing. Assumes nothing.
use mathlib.Core.Path.{◌≡◌, refl, sym, ap, ◌∙◌}
use mathlib.Core.Bool.{true, false}
use mathlib.Core.List.{[], ◌∷◌, ◌++◌}
use native.Mathlib.Omega.{arith}
use lib.Dec.{eqb, leb}
use lib.ListN.{length}
use contract.Lifetimes.{Lfts}
use denote.Ref.{Bor}
use Rattle.model.specs.Said.{Outcome, gave}
use Rattle.model.specs.Packet.{Packet}
use Rattle.model.specs.Mux.{Mux, with_packets, push_packet, queued, most_packets}
use Rattle.model.specs.Run.{pushes, call, others}
use Rattle.model.proofs.Cases.{by_test, gives_at}
use Rattle.model.proofs.Packets.{Valid, facts_valid}
use Rattle.model_journey.proofs.Calls.{quiet_push}
use Rattle.caption.specs.declared.Refusal.TheVariants.{BadValue, Full}
use Rattle.packet.specs.Packet.{packet_of, valid_dtvcc}
use Rattle.packet.proofs.Holds.{within_facts, held_valid}
use Rattle.packet.specs.declared.DTVCCPacket.{DTVCCPacket}
use Rattle.writer.specs.Writer.{means, stored}
use Rattle.writer.specs.Calls.{packet_outcome}
use Rattle.writer.proofs.Stored.{Grows, grows_packet, stored_self}
use Rattle.writer.proofs.Kept.{Sound, sound_order, sound_mux, stored_sound}
use Rattle.writer.specs.declared.CCDataWriter.{CCDataWriter}
use Rattle.theorems.specs.Items.{Items, no_items, one_packet, if_nonempty}
use Rattle.theorems.specs.Allowed.{Writer, Answer, PushPacket}
use Rattle.theorems.specs.Writing.{Typed, if_accepted}
use Rattle.theorems.specs.Trip.{sending_of}
use Rattle.theorems.proofs.Contracts.{Answers, packet_says}
use Rattle.theorems.proofs.Passing.{passed_quiet}
use Rattle.theorems.proofs.Following.{no_test, no_stay, Moved, unmoved, moves}
use Rattle.theorems.proofs.Answered.{given, stays_denied}

-- a packet is an item
packet_some : (p : Packet) → one_packet p ≡ no_items → ⊥
packet_some p e = omega (arith, ap (λ (x : Items). length x.packets) e)

-- a packet
module _ (w : CCDataWriter) (d : DTVCCPacket) (r : Answer) (w' : CCDataWriter) (s : Sound w) (typed : Typed d) where
  -- the packet that it holds
  abbrev p : Packet
  p = packet_of d

  -- what the push comes to
  abbrev comes : Outcome Mux
  comes = packet_outcome d w

  module _ (a : Answers comes (stored w) w r w') where
    -- an item of the answer
    abbrev item : Items
    item = if_accepted r (if_nonempty p)

    module _ (v : valid_dtvcc d ≡ true) where
      -- the packet is within the limits
      held : Valid p
      held = held_valid d (within_facts d v)

      -- an empty one is not stored
      moves_empty : eqb (length p.blocks) 0 ≡ true → Moved w [] item w' no_test no_stay
      unfolding push_packet
      moves_empty e = let g = given a (means w) (rw (s.valid, v, e)) in rw (g.0, e) (unmoved refl refl (g.1.1 ∙ stored_self w (sound_order w s)))

      module _ (some : eqb (length p.blocks) 0 ≡ false) where
        -- no place is left
        moves_full : leb most_packets (length (means w).packets) ≡ true → Moved w [] item w' no_test no_stay
        unfolding push_packet queued
        moves_full f = stays_denied a (if_nonempty p) Full (rw (s.valid, v, some, f))

        module _ (room : leb most_packets (length (means w).packets) ≡ false) where
          -- the packet stands last
          put : push_packet p (means w) ≡ gave (with_packets ((means w).packets ++ (p ∷ [])) (means w))
          unfolding push_packet queued
          put = rw (some, room)

          -- the packet is stored
          moves_stored : Moved w [] item w' no_test no_stay
          unfolding call others
          moves_stored =
              let x : Mux = with_packets ((means w).packets ++ (p ∷ [])) (means w) in
              let g = given a x (rw (s.valid, v, put)) in
              let last : (call (pushes p) (means w)).last ≡ means w' = rw put (sym g.1.0) in
              let packets : (call (pushes p) (means w)).packets ≡ p ∷ [] = rw (put, some) in
              rw (g.0, some)
              (moves (pushes p) (record {
                last = last;
                frames = refl;
                packets = packets;
                pairs1 = refl;
                pairs2 = refl;
                allowed = λ passes p'. facts_valid p held;
                steady = λ mode speed q. tt;
                rates = λ cs t. t;
                writes = λ cs. omega arith;
                quiet = λ e cs t. absurd (packet_some p e);
                passed = passed_quiet w w' (quiet_push p (means w)) last packets (ap sending_of g.1.1);
                sound = rw g.1.1 (stored_sound w s x (gives_at (Grows (means w)) (push_packet p (means w)) put (grows_packet (means w) (sound_mux w s) p (facts_valid p held))));
              }))

    -- in all
    moves_by : Moved w [] item w' no_test no_stay
    moves_by =
        by_test (valid_dtvcc d)
        (λ v. by_test (eqb (length p.blocks) 0) (moves_empty v)
        (λ some. by_test (leb most_packets (length (means w).packets)) (moves_full v some) (moves_stored v some)))
        (λ v. stays_denied a (if_nonempty p) BadValue (rw (s.valid, v)))

-- by its contract
pub packet_moves : (κs : Lfts 2) (w w' : Writer) (d : Bor DTVCCPacket) (r : Answer) → Sound w.now → Typed d.now → PushPacket κs w d r w'
    → Moved w.now [] (if_accepted r (if_nonempty (packet_of d.now))) w'.now no_test no_stay
packet_moves κs w w' d r s t a = moves_by w.now d.now r w'.now s t (packet_says w w' r κs d a)
