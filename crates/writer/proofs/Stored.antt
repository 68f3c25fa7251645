-- The places of what a switch, a push or a flush leaves mean what it leaves in the model, and stay in order. Assumes nothing.
use mathlib.Core.Path.{◌≡◌, refl, sym, ap, ◌∙◌}
use mathlib.Core.Bool.{Bool, true}
use mathlib.Core.List.{List, [], ◌∷◌, ◌++◌, map, append-nil}
use Prim.Native.Nat.{ℕ, ◌+◌, ◌%◌, ◌≤◌}
use native.Mathlib.Omega.{arith}
use borrow.Author.Tests.{leb-true}
use lib.Dec.{eqb, leb}
use lib.ListN.{length, take, drop, set, replicate, length-map, length-append, drop_of_length-le}
use lib.Seq.{sets, sets-eq, length-sets, take_at, drop_at, length-take-le}
use Rattle.model.specs.Lists.{every}
use Rattle.model.specs.Said.{gave, refused, mapped}
use Rattle.model.specs.Packet.{Packet, packet_length, written_packet, valid_packet}
use Rattle.model.specs.Frame.{Pair, Cea608, field1, field2}
use Rattle.model.specs.Rate.{Carry}
use Rattle.model.specs.Mux.{Mux, with_pads, with_carry, with_true_count, Switch, paddings, carrying_mode, true_counting, with_switch, with_queues, with_packets, flush_mux, storable, valid_mux, queued, push_packet, push_pair, push_cea608, most_packets, started}
use Rattle.model.proofs.Cases.{by_test, both, and_both, Gives}
use Rattle.model.proofs.Lists.{every_append}
use Rattle.model.proofs.Packets.{Valid, valid_facts, Shape, shape}
use Rattle.model.proofs.MuxStates.{MuxLimits, mux_facts, switch_valid, push608_valid, push_valid}
use Rattle.writer_queues.specs.Queue.{pairs_of, queue_of, pair_bytes, queue_over}
use Rattle.writer_queues.proofs.Queues.{over_same, over_queue, over_sized}
use Rattle.writer_turns.proofs.Steps.{not_not}
use Rattle.basics.proofs.Runs.{sets_front}
use Rattle.writer_shares.specs.Share.{carry_of, carry_in}
use Rattle.slots.specs.Slot.{slot_of, written_bytes, read_slot, written_slot}
use Rattle.slots.proofs.Written.{slot_reads, facts_written}
use Rattle.slots.specs.declared.Slot.{Slot}
use Rattle.slots.specs.Row.{valid_sending}
use Rattle.writer.specs.Writer.{means, stored, emptied}
use Rattle.writer.specs.Making as making
use Rattle.writer.specs.Making.{with_switches, carry_after, switched, with_fields}
use Rattle.writer_sending.proofs.Sends.{read_slots}
use Rattle.writer.proofs.Valid.{Shaped, Ok, Order}
use Rattle.writer.specs.declared.CCDataWriter.{CCDataWriter}

-- What a switch or a push makes of a multiplexer: there may be packets behind those that were queued, and of the packet being sent the same is left.
pub record Grows (s x : Mux) : Type 0 where
  pub more : List Packet
  pub packets : x.packets ≡ s.packets ++ more
  pub sending : x.sending ≡ s.sending
  pub valid : valid_mux x ≡ true

module _ (s : Mux) (v : valid_mux s ≡ true) where
  -- a switch
  pub grows_switch : (x : Switch) → Grows s (with_switch x s)
  grows_switch (paddings a b) = record { more = []; packets = sym (append-nil s.packets); sending = refl; valid = switch_valid (paddings a b) s v }
  grows_switch (carrying_mode on) = record { more = []; packets = sym (append-nil s.packets); sending = refl; valid = switch_valid (carrying_mode on) s v }
  grows_switch (true_counting on) = record { more = []; packets = sym (append-nil s.packets); sending = refl; valid = switch_valid (true_counting on) s v }

  -- a pair
  pub grows_pair : (y : Cea608) → Gives (Grows s) (push_cea608 y s)
  unfolding push_cea608
  grows_pair (field1 x) = by (push_pair x s.queue1) (push608_valid (field1 x) s v)
    where
      -- by what the queue takes
      by : (o : _) → Gives (λ (r : Mux). valid_mux r ≡ true) (mapped (λ q. with_queues q s.queue2 s) o) → Gives (Grows s) (mapped (λ q. with_queues q s.queue2 s) o)
      by (gave q) k = record { more = []; packets = sym (append-nil s.packets); sending = refl; valid = k }
      by (refused why) k = tt
  grows_pair (field2 x) = by (push_pair x s.queue2) (push608_valid (field2 x) s v)
    where
      -- by what the queue takes
      by : (o : _) → Gives (λ (r : Mux). valid_mux r ≡ true) (mapped (λ q. with_queues s.queue1 q s) o) → Gives (Grows s) (mapped (λ q. with_queues s.queue1 q s) o)
      by (gave q) k = record { more = []; packets = sym (append-nil s.packets); sending = refl; valid = k }
      by (refused why) k = tt

  -- a packet
  pub grows_packet : (p : Packet) → valid_packet p ≡ true → Gives (Grows s) (push_packet p s)
  unfolding push_packet queued
  grows_packet p k =
      let g = push_valid p s k v in
      by_test (eqb (length p.blocks) 0)
      (λ e. rw e (record { more = []; packets = sym (append-nil s.packets); sending = refl; valid = v }))
      (λ e. by_test (leb most_packets (length s.packets)) (λ f. rw (e, f) tt)
      (λ f. rw (e, f) (record { more = p ∷ []; packets = refl; sending = refl; valid = rw (e, f) at g })))

module _ (p : Packet) (k : storable p ≡ true) where
  -- the limits of a packet that may be queued
  limits : (Valid p) × (1 ≤ length p.blocks)
  unfolding storable
  limits = let t = both (valid_packet p) _ k in (valid_facts p t.0, leb-true _ _ t.1)

  -- the bytes of its slot
  slot_bytes : written_bytes (slot_of p) ≡ written_packet p
  unfolding written_bytes
  slot_bytes =
      let h : Shape p = shape p limits.0 limits.1 in
      let n : ℕ = packet_length p + packet_length p % 2 in
      rw (sets_front (replicate 128 0) (written_packet p) h.most) (take_at (written_packet p) (drop (length (written_packet p)) (replicate 128 0)) n (omega (arith, h.even)))

  -- its slot reads as it
  slot_packet : read_slot (slot_of p) ≡ p
  slot_packet = slot_reads (slot_of p) p limits.0 limits.1 refl slot_bytes

  -- and is a written packet
  slot_written : written_slot (slot_of p) ≡ true
  slot_written = facts_written (slot_of p) p limits.0 limits.1 refl slot_bytes

-- the slots of packets that may be queued
slots_packets : (ps : List Packet) → every storable ps ≡ true → read_slots (map slot_of ps) ≡ ps
unfolding every
slots_packets [] e = refl
slots_packets (p ∷ ps) e = let t = both (storable p) (every storable ps) e in rw (slot_packet p t.0, slots_packets ps t.1)

-- are written packets
slots_written : (ps : List Packet) → every storable ps ≡ true → every written_slot (map slot_of ps) ≡ true
unfolding every
slots_written [] e = refl
slots_written (p ∷ ps) e = let t = both (storable p) (every storable ps) e in and_both _ _ (slot_written p t.0) (slots_written ps t.1)

-- those behind others may be queued too
behind_storable : (ps qs : List Packet) → every storable (ps ++ qs) ≡ true → every storable qs ≡ true
unfolding every
behind_storable [] qs e = e
behind_storable (p ∷ ps) qs e = behind_storable ps qs (both (storable p) (every storable (ps ++ qs)) e).1

-- packets behind packets
packets_append : (l m : List Slot) → read_slots (l ++ m) ≡ read_slots l ++ read_slots m
packets_append [] m = refl
packets_append (s ∷ l) m = ap (λ (ps : List Packet). read_slot s ∷ ps) (packets_append l m)

module _ (w : CCDataWriter) (o : Order w) where
  -- as many packets as are counted
  taken_length : length (take w.packet_count w.packets) ≡ w.packet_count
  taken_length = length-take-le w.packet_count w.packets o.packets

  -- in the model too
  pub packets_length : length (means w).packets ≡ w.packet_count
  unfolding means
  packets_length = length-map (take w.packet_count w.packets) read_slot ∙ taken_length

  -- the packets behind those that were there
  pub packets_more : (ps : List Packet) → drop w.packet_count ((means w).packets ++ ps) ≡ ps
  packets_more ps = drop_at (means w).packets ps w.packet_count packets_length

  -- no packet is there but those that were: the slots stay
  pub same_slots : sets w.packets w.packet_count (map slot_of (drop w.packet_count (means w).packets)) ≡ w.packets
  same_slots = let e : drop w.packet_count (means w).packets ≡ [] = drop_of_length-le (means w).packets {i = w.packet_count} (omega (arith, packets_length)) in rw e

  -- the state as it is
  pub stored_self : stored w (means w) ≡ w
  unfolding means
  stored_self =
      rw (same_slots, packets_length, over_same w.field1 o.first, over_same w.field2 o.second, not_not w.field2_next)

  -- with other switches and other parts
  stored_with : (a b t on : Bool) (c : Carry) → stored w (with_carry on c (with_true_count t (with_pads a b (means w)))) ≡ with_switches a b t on (carry_in c) w
  unfolding means
  stored_with a b t on c =
      rw (same_slots, packets_length, over_same w.field1 o.first, over_same w.field2 o.second, not_not w.field2_next)

  -- with a switch set
  pub stored_switch : (x : Switch) → stored w (with_switch x (means w)) ≡ switched x w
  unfolding means
  stored_switch (paddings a b) = stored_with a b w.true_count w.carrying (carry_of w.carry)
  stored_switch (carrying_mode on) = stored_with w.output_cea608_padding w.output_padding w.true_count on (carry_of (carry_after on w))
  stored_switch (true_counting on) = stored_with w.output_cea608_padding w.output_padding on w.carrying (carry_of w.carry)

  -- with another queue of field 1
  pub stored_first : (q : List Pair) → stored w (with_queues q (queue_of w.field2) (means w)) ≡ with_fields (queue_over w.field1 q) w.field2 w
  unfolding means
  stored_first q = rw (same_slots, packets_length, over_same w.field2 o.second, not_not w.field2_next)

  -- with another queue of field 2
  pub stored_second : (q : List Pair) → stored w (with_queues (queue_of w.field1) q (means w)) ≡ with_fields w.field1 (queue_over w.field2 q) w
  unfolding means
  stored_second q = rw (same_slots, packets_length, over_same w.field1 o.first, not_not w.field2_next)

  -- with one packet more
  pub stored_packet : (p : Packet) → stored w (with_packets ((means w).packets ++ (p ∷ [])) (means w)) ≡ making.with_packets (w.packet_count + 1) (set w.packets w.packet_count (slot_of p)) w
  unfolding means
  stored_packet p =
      let n : length ((means w).packets ++ (p ∷ [])) ≡ w.packet_count + 1 = length-append (means w).packets (p ∷ []) ∙ rw packets_length in
      rw (packets_more (p ∷ []), n, over_same w.field1 o.first, over_same w.field2 o.second, not_not w.field2_next)

  module _ (ok : Ok w) (x : Mux) (g : Grows (means w) x) where
    -- its limits
    f : MuxLimits x
    f = mux_facts x g.valid

    -- what stands behind may be queued
    more_storable : every storable g.more ≡ true
    more_storable = behind_storable (means w).packets g.more (rw g.packets at f.stored)

    -- so many are there
    more_length : length x.packets ≡ w.packet_count + length (map slot_of g.more)
    more_length = rw (g.packets, length-append (means w).packets g.more, packets_length, length-map g.more slot_of)

    -- the slots from the first on
    front : take (length x.packets) (sets w.packets w.packet_count (map slot_of (drop w.packet_count x.packets))) ≡ take w.packet_count w.packets ++ map slot_of g.more
    front =
        let d : drop w.packet_count x.packets ≡ g.more = rw g.packets (packets_more g.more) in
        let n = more_length in
        let l : length (take w.packet_count w.packets ++ map slot_of g.more) ≡ length x.packets =
        length-append (take w.packet_count w.packets) (map slot_of g.more) ∙ (omega (arith, taken_length, more_length)) in
        rw (d, sets-eq (map slot_of g.more) w.packets w.packet_count (omega (arith, more_length, f.packets, ok.places)))
        (take_at (take w.packet_count w.packets ++ map slot_of g.more) (drop (w.packet_count + length (map slot_of g.more)) w.packets) (length x.packets) l)

    -- they mean it
    pub means_stored : means (stored w x) ≡ x
    unfolding means
    means_stored =
        let ps : read_slots (take w.packet_count w.packets ++ map slot_of g.more) ≡ (means w).packets ++ g.more =
        packets_append (take w.packet_count w.packets) (map slot_of g.more) ∙ rw (slots_packets g.more more_storable) in
        rw (front, ps, over_queue w.field1 ok.first x.queue1 f.queue1, over_queue w.field2 ok.second x.queue2 f.queue2, not_not x.next1, ← g.packets, ← g.sending)

    -- and stay in order
    pub order_stored : Order (stored w x)
    order_stored =
        let s1 = over_sized w.field1 ok.first x.queue1 f.queue1 in
        let s2 = over_sized w.field2 ok.second x.queue2 f.queue2 in
        record {
          packets = omega (arith, length-sets w.packets w.packet_count (map slot_of (drop w.packet_count x.packets)), f.packets, ok.places);
          first = omega (arith, s1.few, s1.flat);
          second = omega (arith, s2.few, s2.flat);
          sending = o.sending;
          slots = rw front (every_append written_slot (take w.packet_count w.packets) (map slot_of g.more) o.slots (slots_written g.more more_storable));
        }

    -- with arrays of their lengths
    pub shaped_stored : Shaped (stored w x)
    shaped_stored =
        record {
          packets = length-sets w.packets w.packet_count (map slot_of (drop w.packet_count x.packets)) ∙ ok.places;
          first = (over_sized w.field1 ok.first x.queue1 f.queue1).flat;
          second = (over_sized w.field2 ok.second x.queue2 f.queue2).flat;
        }

-- the places of what a flush leaves
module _ (w : CCDataWriter) where
  -- the counts fall to 0
  pub flushed_is : emptied w (flush_mux (means w)) ≡ making.flushed w
  unfolding means queue_over pair_bytes
  flushed_is = rw (not_not w.field2_next)

  -- they mean it
  pub means_emptied : means (emptied w (flush_mux (means w))) ≡ flush_mux (means w)
  unfolding means written_bytes started queue_of pairs_of queue_over pair_bytes
  means_emptied = rw (not_not w.field2_next)

  -- and are in order
  pub order_emptied : Order (emptied w (flush_mux (means w)))
  unfolding valid_sending every queue_over pair_bytes
  order_emptied = record { packets = omega arith; first = omega arith; second = omega arith; sending = refl; slots = refl }
