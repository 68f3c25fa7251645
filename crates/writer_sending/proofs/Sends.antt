-- What slots that are written packets send: packet by packet, as the model goes. Assumes nothing.
use mathlib.Core.Path.{◌≡◌, refl, sym, ap, ◌∙◌}
use mathlib.Core.Bool.{true}
use mathlib.Core.List.{List, [], ◌∷◌, map}
use Prim.Native.Nat.{ℕ, suc, ◌+◌, ◌-◌, ◌*◌, ◌/◌, ◌≤◌, ◌<◌, min}
use native.Mathlib.Omega.{arith}
use borrow.Author.Tests.{le-leb, lt-leb, leb-true, leb-false}
use lib.Dec.{leb}
use lib.ListN.{length, take, drop, get_or, length-drop, length-map}
use lib.Seq.{take_all}
use Rattle.model.specs.Lists.{every}
use Rattle.model.specs.Packet.{Packet, most_packet}
use Rattle.model.specs.Frame.{Triple, flat}
use Rattle.model.specs.Mux.{packet_triples, Sent, behind, send, triples_queued}
use Rattle.model.specs.Duration.{lengths_of}
use Rattle.model.proofs.Cases.{by_test, by_cond, both}
use Rattle.writer_frames.specs.Frame.{appended}
use Rattle.writer_frames.proofs.Stores.{appended_flat}
use Rattle.slots.specs.Slot.{no_slot, written_length, written_bytes, read_slot, written_slot}
use Rattle.slots.specs.Walk.{Carries}
use Rattle.slots.proofs.Written.{carried as carries_packet}
use Rattle.slots.specs.declared.Slot.{Slot}
use Rattle.writer_sending.specs.Slots.{summed, triples_of, lengths_in, left_of, finished, onward, sent_over}
use Rattle.writer_sending.proofs.Triples.{left_from, Held, left_length, left_triples, put_length, carried}
use Rattle.writer_sending.specs.declared.Sending.{Sending}

-- the packets that slots are
abbrev pub read_slots : List Slot → List Packet
read_slots l = map read_slot l

-- what leaves the queue does not come back
pub send_fewer : (m : ℕ) (ts : List Triple) (ps : List Packet) → length (send m ts ps).packets ≤ length ps
unfolding send
send_fewer m ts [] = omega arith
send_fewer m ts (p ∷ ps) =
    by_cond (λ (r : Sent). length r.packets ≤ suc (length ps)) (leb m (length ts)) (λ _. omega arith) (λ _. omega (arith, send_fewer (m - length ts) (packet_triples p) ps))

-- the packet being sent leaves whole, and the next one is begun
pub send_over : (m : ℕ) (ts : List Triple) (p : Packet) (ps : List Packet) → length ts < m → send m ts (p ∷ ps) ≡ behind ts (send (m - length ts) (packet_triples p) ps)
unfolding send
send_over m ts p ps h = simp (lt-leb m (length ts) h)

-- no other packet is begun
pub send_under : (m : ℕ) (ts : List Triple) (p : Packet) (ps : List Packet) → m ≤ length ts → send m ts (p ∷ ps) ≡ record { out = take m ts; sending = drop m ts; packets = p ∷ ps }
unfolding send
send_under m ts p ps h = simp (le-leb m (length ts) h)

-- no packet is queued
pub send_last : (m : ℕ) (ts : List Triple) → send m ts [] ≡ record { out = take m ts; sending = drop m ts; packets = [] }
unfolding send
send_last m ts = refl

-- no more than there are
take_min : (m n : ℕ) (ts : List Triple) → length ts ≡ n → take m ts ≡ take (min m n) ts
take_min m n ts e =
    by_test (leb m n)
    (λ t. let k : min m n ≡ m = omega (arith, leb-true m n t) in rw k)
    (λ t. let h : n < m = leb-false m n t in
    let k : min m n ≡ n = omega arith in
    rw k (take_all m ts (omega arith) ∙ sym (take_all n ts (omega arith))))

-- a slot that was begun
pub held_begun : (s : Slot) → Carries s → Held s 0
held_begun s c = record { most = c.most; whole = c.whole; even = refl; within = omega arith }

-- the triples of a packet that was begun
pub begun_triples : (s : Slot) → Carries s → packet_triples (read_slot s) ≡ left_from 0 (written_bytes s)
begun_triples s c = c.triples

-- the triples of the slots are those of the packets
pub triples_queued_read : (l : List Slot) → every written_slot l ≡ true → triples_of l ≡ triples_queued (read_slots l)
unfolding every summed triples_queued
triples_queued_read [] e = refl
triples_queued_read (s ∷ l) e =
    let t = both (written_slot s) (every written_slot l) e in
    let c = carries_packet s t.0 in
    let n = left_length s 0 (held_begun s c) in
    rw (triples_queued_read l t.1, begun_triples s c, n, left_triples s 0 (held_begun s c))

-- and so are their lengths
pub lengths_queued : (l : List Slot) → every written_slot l ≡ true → lengths_in l ≡ lengths_of (read_slots l)
unfolding every summed lengths_of
lengths_queued [] e = refl
lengths_queued (s ∷ l) e =
    let t = both (written_slot s) (every written_slot l) e in
    let c = carries_packet s t.0 in
    let n : min s.len most_packet ≡ s.len = omega (arith, c.most) in
    rw (lengths_queued l t.1, c.measured, n)

-- where sending stands after what the model sends: of the last slot begun so many triples are left
abbrev pub stands : List Slot → Sending → Sent → Sending
stands l s r =
    let begun = length l - length r.packets in
    let slot = get_or (s.slot ∷ l) begun no_slot in
    record { slot = slot; sent = written_length slot - 2 * length r.sending; next = s.next + begun; frame = appended s.frame (flat r.out) }

module _ (s : Sending) (m : ℕ) (h : Held s.slot s.sent) (room : s.frame.len + 3 * m ≤ 95) where
  -- the triples left of the packet being sent
  abbrev ts : List Triple
  ts = left_from s.sent (written_bytes s.slot)

  -- so many
  n_is : left_of s ≡ length ts
  n_is = left_triples s.slot s.sent h ∙ sym (left_length s.slot s.sent h)

  -- where sending stands if no other packet is begun
  stands_here : (q : List Slot) (ps : List Packet) → length ps ≡ length q → finished s m ≡ stands q s (record { out = take m ts; sending = drop m ts; packets = ps })
  stands_here q ps e =
      let n : ℕ = (written_length s.slot - s.sent) / 2 in
      let c : length q - length ps ≡ 0 = omega arith in
      let z : s.next + 0 ≡ s.next = omega arith in
      let k : left_of s ≡ n = left_triples s.slot s.sent h in
      let t : length ts ≡ n = left_length s.slot s.sent h in
      let v = h.even in
      let w = h.within in
      let l : length (drop m ts) ≡ n - m = length-drop m ts ∙ ap (λ j. j - m) t in
      let d : written_length s.slot - 2 * length (drop m ts) ≡ s.sent + 2 * min m n = rw l (omega arith) in
      rw (c, z, d, k, take_min m n ts t, carried s.frame s.slot s.sent (min m n) h (omega arith) (omega arith))

  -- where it stands once the next packet is begun
  stands_onward : (x : Slot) (l : List Slot) → Carries x → left_of s < m
      → stands l (onward x s) (send (m - left_of s) (left_from 0 (written_bytes x)) (read_slots l)) ≡ stands (x ∷ l) s (send m ts (read_slots (x ∷ l)))
  stands_onward x l c g =
      let r : Sent = send (m - length ts) (left_from 0 (written_bytes x)) (read_slots l) in
      let k : ℕ = length l - length r.packets in
      let d : suc (length l) - length r.packets ≡ suc k = omega (arith, send_fewer (m - length ts) (left_from 0 (written_bytes x)) (read_slots l), length-map l read_slot) in
      let z : s.next + suc k ≡ s.next + 1 + k = omega arith in
      let v = h.even in
      let w = h.within in
      let q : left_of s ≡ (written_length s.slot - s.sent) / 2 = left_triples s.slot s.sent h in
      rw (
        carried s.frame s.slot s.sent (left_of s) h (omega arith) (omega arith),
        n_is,
        take_all (length ts) ts (omega arith),
        send_over m ts (read_slot x) (read_slots l) (omega (arith, n_is)),
        begun_triples x c,
        d,
        z,
        appended_flat s.frame ts r.out,
      )

-- m packet triples, from where sending stands
pub sends_stand : (l : List Slot) (m : ℕ) (s : Sending) → every written_slot l ≡ true → Held s.slot s.sent → s.frame.len + 3 * m ≤ 95
    → sent_over l m s ≡ stands l s (send m (left_from s.sent (written_bytes s.slot)) (read_slots l))
unfolding sent_over every
sends_stand [] m s e h room = rw (send_last m (left_from s.sent (written_bytes s.slot))) (stands_here s m h room [] [] refl)
sends_stand (x ∷ l) m s e h room =
    let t = both (written_slot x) (every written_slot l) e in
    let c = carries_packet x t.0 in
    let ts : List Triple = left_from s.sent (written_bytes s.slot) in
    let n : left_of s ≡ length ts = n_is s m h room in
    by_test (leb m (left_of s))
    (λ f. rw (f, send_under m ts (read_slot x) (read_slots l) (omega (arith, leb-true m (left_of s) f))) (stands_here s m h room (x ∷ l) (read_slots (x ∷ l)) (length-map (x ∷ l) read_slot)))
    (λ f. let g : left_of s < m = leb-false m (left_of s) f in
    let v = h.even in
    let w = h.within in
    let q : left_of s ≡ (written_length s.slot - s.sent) / 2 = left_triples s.slot s.sent h in
    let a = carried s.frame s.slot s.sent (left_of s) h (omega arith) (omega arith) in
    let b = put_length s.slot s.sent h (left_of s) (omega arith) in
    rw f (sends_stand l (m - left_of s) (onward x s) t.1 (held_begun x c) (rw a (omega (arith, b))) ∙ stands_onward s m h room x l c g))
