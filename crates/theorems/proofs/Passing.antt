-- The packets that are there, the one being sent and those queued, from call to call: they leave in order, and others come behind them.
-- Assumes nothing.
use mathlib.Core.Path.{◌≡◌, refl, sym, ap, ◌∙◌}
use mathlib.Core.Bool.{Bool, true, false, cond}
use mathlib.Core.List.{List, [], ◌∷◌, ◌++◌, append_assoc, append-nil}
use Prim.Native.Nat.{ℕ, suc, ◌-◌, ◌*◌, ◌≤◌}
use native.Mathlib.Omega.{arith}
use borrow.Author.Tests.{eqb-true, le-leb, leb-true}
use lib.Dec.{eqb, leb}
use lib.ListN.{length, take, get_or, length-append, length-map, get_or-map}
use lib.Seq.{length-take-le}
use Rattle.model.specs.Packet.{Packet}
use Rattle.model.specs.Rate.{valid_carry, Share}
use Rattle.model.specs.Mux.{Mux, Sent, framed, write_frame, write_share, turns_due, turned, count_due}
use Rattle.model.specs.Run.{Run}
use Rattle.model.proofs.Cases.{by_test}
use Rattle.model_journey.proofs.Calls.{Quiet}
use Rattle.model_journey.proofs.Carried.{Kept, chain}
use Rattle.model_journey.proofs.Sending.{Begins, none_begun, one_begun, begins, sent_by}
use Rattle.slots.specs.Slot.{no_slot, written_length, written_bytes, read_slot}
use Rattle.slots.specs.declared.Slot.{Slot}
use Rattle.writer_sending.proofs.Triples.{left_from, Held, left_length}
use Rattle.writer_sending.proofs.Sends.{read_slots}
use Rattle.writer.specs.Writer.{means, moved}
use Rattle.writer.proofs.Moved.{begun_at}
use Rattle.writer.proofs.Builds.{means_frame}
use Rattle.writer.proofs.Kept.{Sound, sound_ok, sound_mux}
use Rattle.writer.specs.declared.CCDataWriter.{CCDataWriter}
use Rattle.theorems.specs.Trip.{sending_of}

-- the packets that are there
abbrev pub there_in : CCDataWriter → List Packet
there_in w = sending_of w ++ (means w).packets

-- some have gone
pub record Passed (there came now : List Packet) : Type 0 where
  pub gone : List Packet
  pub kept : Kept there came gone now

-- nothing happens
pub passed_none : (there : List Packet) → Passed there [] there
passed_none there = record { gone = []; kept = record { same = append-nil there } }

-- one after the other
pub passed_then : {a i b j c : List Packet} → Passed a i b → Passed b j c → Passed a (i ++ j) c
passed_then h k = record { gone = h.gone ++ k.gone; kept = chain h.kept k.kept }

-- a call that writes no frame
pub passed_quiet : (w w' : CCDataWriter) {k : Run} {came : List Packet} → Quiet (means w) k → k.last ≡ means w' → k.packets ≡ came → sending_of w' ≡ sending_of w → Passed (there_in w) came (there_in w')
passed_quiet w w' {k} q e f same =
    record { gone = []; kept = record { same = rw (← f, same, ← e, ← q.packets) (append_assoc (sending_of w) (means w).packets k.packets) } }

-- others are in front
passed_front : (a : List Packet) {there now : List Packet} → Passed there [] now → Passed (a ++ there) [] now
passed_front a {there} {now} h =
    record { gone = a ++ h.gone; kept = record { same = append_assoc a there [] ∙ ap (λ (l : List Packet). a ++ l) h.kept.same ∙ sym (append_assoc a h.gone now) } }

-- the first has left, or has not
passed_one : (p : Packet) (left : Bool) (r : List Packet) → Passed (p ∷ r) [] (cond left [] (p ∷ []) ++ r)
passed_one p true r = passed_front (p ∷ []) (passed_none r)
passed_one p false r = passed_none (p ∷ r)

-- the packet of a slot of which so many bytes have left, and none once all have
abbrev rest_in : Slot → ℕ → List Packet
rest_in s sent = cond (leb (written_length s) sent) [] (read_slot s ∷ [])

-- it is the same where the slot is let go, once none of its triples is left
rest_rested : (s : Slot) (k : ℕ) → (let none = eqb k 0 in rest_in (record { len = cond none 0 s.len; bytes = s.bytes }) (cond none 0 (written_length s - 2 * k)) ≡ rest_in s (written_length s - 2 * k))
rest_rested s k =
    by_test (eqb k 0) (λ e. let z : k ≡ 0 = eqb-true k 0 e in rw (e, le-leb (written_length s) (written_length s - 2 * k) (omega arith))) (λ e. rw e)

-- what stands behind others
get_d_behind : (a : List Packet) (p : Packet) (r : List Packet) (d : Packet) → get_or (a ++ (p ∷ r)) (length a) d ≡ p
get_d_behind [] p r d = refl
get_d_behind (x ∷ a) p r d = get_d_behind a p r d

-- of the slot being sent no more is left than was
passed_rest : (slot : Slot) (at : ℕ) → Held slot at → (n : ℕ) (r : List Packet) → n ≤ length (left_from at (written_bytes slot))
    → Passed (rest_in slot at ++ r) [] (rest_in slot (written_length slot - 2 * n) ++ r)
passed_rest slot at h n r few =
    by_test (leb (written_length slot) at)
    (λ t. let k = leb-true (written_length slot) at t in
    let m : leb (written_length slot) (written_length slot - 2 * n) ≡ true = le-leb (written_length slot) (written_length slot - 2 * n) (omega (arith, left_length slot at h)) in
    rw (t, m) (passed_none r))
    (λ t. rw t (passed_one (read_slot slot) (leb (written_length slot) (written_length slot - 2 * n)) r))

-- of a queue of slots and the slot being sent, what is there once the model's o has been sent
module _ (l : List Slot) (count : ℕ) (q : length l ≡ count) (slot : Slot) (at : ℕ) (h : Held slot at) (o : Sent) where
  -- the slot begun last
  abbrev last : Slot
  last = get_or (slot ∷ l) (count - length o.packets) no_slot

  -- so much of it has left
  abbrev sent : ℕ
  sent = written_length last - 2 * length o.sending

  -- as many packets as are counted
  number : length (read_slots l) ≡ count
  number = length-map l read_slot ∙ q

  -- no other packet is begun
  passed_here : o.packets ≡ read_slots l → length o.sending ≤ length (left_from at (written_bytes slot))
      → Passed (rest_in slot at ++ read_slots l) [] (rest_in last sent ++ o.packets)
  passed_here e few =
      let z : count - length (read_slots l) ≡ 0 = omega (arith, number) in
      rw (e, z) (passed_rest slot at h (length o.sending) (read_slots l) few)

  -- one of the queue is begun
  passed_on : (gone : List Packet) (p : Packet) → read_slots l ≡ gone ++ (p ∷ o.packets)
      → Passed (rest_in slot at ++ read_slots l) [] (rest_in last sent ++ o.packets)
  passed_on gone p e =
      let n = ap length e in
      let m = length-append gone (p ∷ o.packets) in
      let next : count - length o.packets ≡ suc (length gone) = omega (arith, number) in
      let it : read_slot (get_or l (length gone) no_slot) ≡ p =
      sym (get_or-map read_slot l (length gone) no_slot)
      ∙ ap (λ (ps : List Packet). get_or ps (length gone) (read_slot no_slot)) e ∙ get_d_behind gone p o.packets (read_slot no_slot) in
      let long : ℕ = written_length (get_or l (length gone) no_slot) in
      rw (next, it, e) (passed_front (rest_in slot at) (passed_front gone (passed_one p (leb long (long - 2 * length o.sending)) o.packets)))

  -- either way
  passed_by : Begins (left_from at (written_bytes slot)) (read_slots l) o → Passed (rest_in slot at ++ read_slots l) [] (rest_in last sent ++ o.packets)
  passed_by (none_begun e few) = passed_here e few
  passed_by (one_begun gone p e) = passed_on gone p e

-- a write
module _ (w : CCDataWriter) (s : Sound w) (h : Share) (c : valid_carry h.carry ≡ true) where
  -- what the model leaves
  abbrev x : Mux
  x = (write_share h (means w)).next

  -- the slot that is begun last
  abbrev slot : Slot
  slot = get_or (w.sending ∷ take w.packet_count w.packets) (w.packet_count - length x.packets) no_slot

  -- the packet that is being sent then
  sending_after : sending_of (moved w x) ≡ rest_in slot (written_length slot - 2 * length x.sending)
  sending_after =
      let ok = sound_ok w s in
      rw (begun_at w.packets w.sending w.packet_count (w.packet_count - length x.packets) (omega arith) (omega (arith, ok.few, ok.places))) (rest_rested slot (length x.sending))

  -- by what the model sends
  passed_model : Passed (there_in w) [] (rest_in slot (written_length slot - 2 * length x.sending) ++ x.packets)
  unfolding means write_frame framed
  passed_model =
      let k = sound_ok w s in
      let t : Mux = means w in
      let n = length-take-le w.packet_count w.packets (omega (arith, k.few, k.places)) in
      passed_by (take w.packet_count w.packets) w.packet_count n w.sending w.sent k.held (sent_by h.budgets t)
      (begins (count_due h.budgets t - length (turned (turns_due h.budgets.pairs t) t).out) t.sending t.packets)

  -- in all
  pub passed_after : Passed (there_in w) [] (there_in (moved w x))
  passed_after = rw (sending_after, means_frame w h (sound_ok w s) (sound_mux w s) c) passed_model
