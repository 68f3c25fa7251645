-- The places of what a frame leaves mean what it leaves in the model, and stay in order. Assumes nothing.
use mathlib.Core.Path.{◌≡◌, refl, sym, ap, ◌∙◌}
use mathlib.Core.Bool.{Bool, true, cond, ◌||◌}
use mathlib.Core.List.{List, [], ◌∷◌, map}
use Prim.Native.Nat.{ℕ, zero, suc, ◌+◌, ◌-◌, ◌*◌, ◌%◌, ◌≤◌, ◌<◌}
use native.Mathlib.Omega.{arith}
use borrow.Author.Tests.{eq-eqb, eqb-true, le-leb}
use lib.Dec.{eqb}
use lib.ListN.{length, take, drop, get_or, length-drop}
use lib.Seq.{sets, sets-eq, take_at, length-take-le, get_or-take, length-sets}
use Rattle.model.specs.Lists.{every}
use Rattle.model.specs.Frame.{Triple}
use Rattle.model.specs.Mux.{Mux, Sent, send, started, valid_mux}
use Rattle.model.proofs.Cases.{by_test, both}
use Rattle.model.proofs.MuxStates.{mux_facts}
use Rattle.writer_queues.proofs.Queues.{over_queue, over_sized}
use Rattle.writer_turns.proofs.Steps.{not_not}
use Rattle.slots.specs.Slot.{no_slot, written_length, written_bytes, read_slot, written_slot}
use Rattle.slots.specs.declared.Slot.{Slot}
use Rattle.slots.specs.Row.{valid_sending}
use Rattle.writer.specs.Writer.{means, laid_in, moved}
use Rattle.writer_sending.proofs.Triples.{left_from}
use Rattle.writer_sending.proofs.Sends.{read_slots}
use Rattle.writer_sending.proofs.Ends.{Tail, Ends, ends}
use Rattle.writer.proofs.Valid.{Shaped, Ok, Order, all_each}
use Rattle.writer.specs.declared.CCDataWriter.{CCDataWriter}

-- a part of what is mapped
drop_map : {A B : Type 0} (f : A → B) (n : ℕ) (l : List A) → drop n (map f l) ≡ map f (drop n l)
drop_map f zero l = refl
drop_map f (suc n) [] = refl
drop_map f (suc n) (x ∷ l) = drop_map f n l

-- slots behind others
all_behind : (n : ℕ) (l : List Slot) → every written_slot l ≡ true → every written_slot (drop n l) ≡ true
unfolding every
all_behind zero l e = e
all_behind (suc n) [] e = refl
all_behind (suc n) (s ∷ l) e = all_behind n l (both (written_slot s) (every written_slot l) e).1

-- what stands in a list does not hang on what stands past its end
get_d_within : {A : Type 0} (l : List A) (n : ℕ) (a b : A) → n < length l → get_or l n a ≡ get_or l n b
get_d_within [] n a b h = absurd (omega arith)
get_d_within (x ∷ l) zero a b h = refl
get_d_within (x ∷ l) (suc n) a b h = get_d_within l n a b (omega arith)

-- no triple
none_in : (ts : List Triple) → length ts ≡ 0 → ts ≡ []
none_in [] e = refl
none_in (t ∷ ts) e = absurd (omega arith)

-- the slot begun last, among those that are counted
pub begun_at : (l : List Slot) (slot : Slot) (count n : ℕ) → n ≤ count → count ≤ length l → get_or (slot ∷ l) n slot ≡ get_or (slot ∷ take count l) n no_slot
begun_at l slot count zero h k = refl
begun_at l slot count (suc n) h k = get_d_within l n slot no_slot (omega arith) ∙ sym (get_or-take count l n no_slot (omega arith))

-- the packet triples of a frame: m of them
module _ (w : CCDataWriter) (ok : Ok w) (m : ℕ) where
  -- what they leave in the model
  abbrev pub sends : Sent
  sends = send m (left_from w.sent (written_bytes w.sending)) (read_slots (take w.packet_count w.packets))

  -- as many packets as are counted
  taken_length : length (take w.packet_count w.packets) ≡ w.packet_count
  taken_length = length-take-le w.packet_count w.packets (omega (arith, ok.few, ok.places))

  -- what is left of the slots
  ended : Ends (take w.packet_count w.packets) w.sending sends
  ended = ends (take w.packet_count w.packets) w.sending w.sent m ok.slots ok.held

  -- no packet comes back
  pub fewer : length sends.packets ≤ w.packet_count
  fewer = omega (arith, ended.few, taken_length)

  -- so many packets are begun
  abbrev pub next : ℕ
  next = w.packet_count - length sends.packets

  -- the slot begun last
  abbrev pub last : Slot
  last = get_or (w.sending ∷ take w.packet_count w.packets) next no_slot

  -- what is left of it
  tail : Tail last sends.sending
  tail = rw taken_length at ended.tail

  -- no triple of it is left
  abbrev pub none : Bool
  none = eqb (length sends.sending) 0

  -- so many bytes of it have left
  abbrev pub at : ℕ
  at = written_length last - 2 * length sends.sending

  -- what is then being sent
  abbrev pub rest : Slot
  rest = record { len = cond none 0 last.len; bytes = last.bytes }

  -- the slots that are left
  abbrev pub slots : List Slot
  slots = drop next (take w.packet_count w.packets)

  -- so many
  slots_length : length slots ≡ length sends.packets
  slots_length = length-drop next (take w.packet_count w.packets) ∙ (omega (arith, taken_length, fewer))

  -- stand in front
  slots_front : take (length sends.packets) (sets w.packets 0 slots) ≡ slots
  slots_front =
      rw (sets-eq slots w.packets 0 (omega (arith, slots_length, fewer, ok.few, ok.places)))
      (take_at slots (drop (0 + length slots) w.packets) (length sends.packets) slots_length)

  -- where a frame leaves a multiplexer whose packets and triples are these
  module _ (x : Mux) (p : x.packets ≡ sends.packets) (q : x.sending ≡ sends.sending) where
    -- the places, as the slots are moved
    pub moved_is : moved w x ≡ laid_in w.field1 w.field2 rest (cond none 0 at) (sets w.packets 0 slots) x
    moved_is =
        rw (p, q, begun_at w.packets w.sending w.packet_count next (omega arith) (omega (arith, ok.few, ok.places)))

    module _ (v : valid_mux x ≡ true) where
      -- they mean it
      pub means_moved : means (moved w x) ≡ x
      unfolding means written_bytes started
      means_moved =
          let f = mux_facts x v in
          let ps : read_slots (take (length sends.packets) (sets w.packets 0 slots)) ≡ sends.packets =
          rw slots_front (sym (drop_map read_slot next (take w.packet_count w.packets)) ∙ sym (rw taken_length at ended.back)) in
          let ts : left_from (cond none 0 at) (written_bytes rest) ≡ sends.sending =
          by_test none (λ e. let z : length sends.sending ≡ 0 = eqb-true (length sends.sending) 0 e in rw e (sym (none_in sends.sending z))) (λ e. rw e (sym tail.same)) in
          ap means moved_is
          ∙ rw (p, q, ps, ts, over_queue w.field1 ok.first x.queue1 f.queue1, over_queue w.field2 ok.second x.queue2 f.queue2, not_not x.next1)

      -- the slot begun last is a written packet, or none is begun
      begun_valid : Order w → (eqb last.len 0 || written_slot last) ≡ true
      unfolding valid_sending
      begun_valid o = by (w.packet_count - length sends.packets) (omega arith)
        where
          -- by its place
          by : (n : ℕ) → n ≤ w.packet_count → (let x = get_or (w.sending ∷ take w.packet_count w.packets) n no_slot in (eqb x.len 0 || written_slot x) ≡ true)
          by zero h = (both (eqb w.sending.len 0 || written_slot w.sending) _ o.sending).0
          by (suc n) h =
              let e : written_slot (get_or (take w.packet_count w.packets) n no_slot) ≡ true = all_each (take w.packet_count w.packets) ok.slots n (omega (arith, taken_length)) in
              by_test (eqb (get_or (take w.packet_count w.packets) n no_slot).len 0) (λ z. rw z) (λ z. rw (z, e))

      -- what is left of it is within the limits
      sending_valid : Order w → valid_sending rest (cond none 0 at) ≡ true
      unfolding valid_sending
      sending_valid o =
          let t = tail.held in
          by_test none (λ e. rw e)
          (λ e. rw (e, begun_valid o, eq-eqb (at % 2) 0 t.even, le-leb at (written_length last) t.within))

      -- and stay in order
      pub order_moved : Order w → Order (moved w x)
      order_moved o =
          let f = mux_facts x v in
          let s1 = over_sized w.field1 ok.first x.queue1 f.queue1 in
          let s2 = over_sized w.field2 ok.second x.queue2 f.queue2 in
          let l = length-sets w.packets 0 slots in
          rw moved_is
          (record {
            packets = omega (arith, l, f.packets, ok.places);
            first = omega (arith, s1.few, s1.flat);
            second = omega (arith, s2.few, s2.flat);
            sending = sending_valid o;
            slots = rw (p, slots_front) (all_behind next (take w.packet_count w.packets) o.slots);
          })

      -- with arrays of their lengths
      pub shaped_moved : Shaped (moved w x)
      shaped_moved =
          let f = mux_facts x v in
          record {
            packets = length-sets w.packets 0 (drop (w.packet_count - length x.packets) (take w.packet_count w.packets)) ∙ ok.places;
            first = (over_sized w.field1 ok.first x.queue1 f.queue1).flat;
            second = (over_sized w.field2 ok.second x.queue2 f.queue2).flat;
          }
