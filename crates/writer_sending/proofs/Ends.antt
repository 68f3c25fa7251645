-- What the model's packet triples leave: the last packets of the queue, and the last triples of the packet begun last. Assumes nothing.
use mathlib.Core.Path.{◌≡◌, sym, ◌∙◌}
use mathlib.Core.Bool.{true}
use mathlib.Core.List.{List, [], ◌∷◌}
use Prim.Native.Nat.{ℕ, suc, ◌+◌, ◌-◌, ◌*◌, ◌/◌, ◌≤◌, ◌<◌}
use native.Mathlib.Omega.{arith}
use borrow.Author.Tests.{leb-true, leb-false}
use lib.Dec.{leb}
use lib.ListN.{length, take, drop, get_or, length-drop, drop_of_length-le, length-map}
use Rattle.model.specs.Lists.{every}
use Rattle.model.specs.Frame.{Triple}
use Rattle.model.specs.Mux.{Sent, behind, send}
use Rattle.model.proofs.Cases.{by_test, both}
use Rattle.slots.specs.Slot.{no_slot, written_length, written_bytes, read_slot, written_slot}
use Rattle.slots.specs.Walk.{Carries}
use Rattle.slots.proofs.Written.{carried as carries_packet}
use Rattle.slots.specs.declared.Slot.{Slot}
use Rattle.writer_sending.proofs.Triples.{left_from, Held, left_length, left_drop, left_end}
use Rattle.writer_sending.proofs.Sends.{read_slots, send_over, send_under, send_last, held_begun, begun_triples}

-- triples that are left of a slot
pub record Tail (s : Slot) (ts : List Triple) : Type 0 where
  pub some : 2 * length ts ≤ written_length s
  pub held : Held s (written_length s - 2 * length ts)
  pub same : ts ≡ left_from (written_length s - 2 * length ts) (written_bytes s)

module _ (s : Slot) (at : ℕ) (h : Held s at) where
  -- k triples of it have left
  tail_at : (k : ℕ) (ts : List Triple) → at + 2 * k ≤ written_length s → length ts ≡ (written_length s - at) / 2 - k → ts ≡ left_from (at + 2 * k) (written_bytes s) → Tail s ts
  tail_at k ts room l e =
      let v = h.even in
      let u = h.within in
      let d : written_length s - 2 * length ts ≡ at + 2 * k = omega arith in
      record {
        some = omega arith;
        held = rw d (record { most = h.most; whole = h.whole; even = omega arith; within = room });
        same = rw d e;
      }

  -- after m triples of it, or all
  pub tail_after : (m : ℕ) → Tail s (drop m (left_from at (written_bytes s)))
  tail_after m =
      let ts : List Triple = left_from at (written_bytes s) in
      let n : ℕ = (written_length s - at) / 2 in
      let t : length ts ≡ n = left_length s at h in
      let v = h.even in
      let u = h.within in
      by_test (leb m n)
      (λ e. let g : m ≤ n = leb-true m n e in
      tail_at m (drop m ts) (omega arith) (length-drop m ts ∙ (omega arith)) (left_drop m at (written_bytes s)))
      (λ e. let g : n < m = leb-false m n e in
      let z : drop m ts ≡ [] = drop_of_length-le ts {i = m} (omega arith) in
      rw z (tail_at n [] (omega arith) (omega arith) (sym (left_end (at + 2 * n) (written_bytes s) (omega arith) (omega (arith, h.whole))))))

-- what is left of a queue of slots, and of the slot begun last
pub record Ends (ss : List Slot) (slot : Slot) (r : Sent) : Type 0 where
  pub few : length r.packets ≤ length ss
  pub back : r.packets ≡ drop (length ss - length r.packets) (read_slots ss)
  pub tail : Tail (get_or (slot ∷ ss) (length ss - length r.packets) no_slot) r.sending

-- no other packet is begun
ends_here : (ss : List Slot) (slot : Slot) (at m : ℕ) → Held slot at
    → Ends ss slot (record { out = take m (left_from at (written_bytes slot)); sending = drop m (left_from at (written_bytes slot)); packets = read_slots ss })
ends_here ss slot at m h =
    let l : length (read_slots ss) ≡ length ss = length-map ss read_slot in
    let d : length ss - length ss ≡ 0 = omega arith in
    record { few = omega arith; back = rw (l, d); tail = rw (l, d) (tail_after slot at h m) }

-- one more packet is begun
ends_onward : (s slot : Slot) (ss : List Slot) (ts : List Triple) (r : Sent) → Ends ss s r → Ends (s ∷ ss) slot (behind ts r)
ends_onward s slot ss ts r e =
    let f = e.few in
    let d : suc (length ss) - length r.packets ≡ suc (length ss - length r.packets) = omega arith in
    record { few = omega arith; back = rw d e.back; tail = rw d e.tail }

-- the law of what is left
pub ends : (ss : List Slot) (slot : Slot) (at m : ℕ) → every written_slot ss ≡ true → Held slot at → Ends ss slot (send m (left_from at (written_bytes slot)) (read_slots ss))
unfolding every
ends [] slot at m all h = rw (send_last m (left_from at (written_bytes slot))) (ends_here [] slot at m h)
ends (s ∷ ss) slot at m all h =
    let ts : List Triple = left_from at (written_bytes slot) in
    let t = both (written_slot s) (every written_slot ss) all in
    let k : Carries s = carries_packet s t.0 in
    by_test (leb m (length ts))
    (λ e. rw (send_under m ts (read_slot s) (read_slots ss) (leb-true m (length ts) e)) (ends_here (s ∷ ss) slot at m h))
    (λ e. rw (send_over m ts (read_slot s) (read_slots ss) (leb-false m (length ts) e), begun_triples s k)
    (ends_onward s slot ss ts (send (m - length ts) (left_from 0 (written_bytes s)) (read_slots ss))
    (ends ss s 0 (m - length ts) t.1 (held_begun s k))))
