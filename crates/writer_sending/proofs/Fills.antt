-- What packet triples and padding up to the count come to, where the slots are written packets: what the model sends. Assumes nothing.
use mathlib.Core.Path.{◌≡◌, ◌∙◌}
use mathlib.Core.Bool.{Bool, true, false, cond}
use mathlib.Core.List.{List, [], ◌∷◌, ◌++◌, append-nil}
use Prim.Native.Nat.{ℕ, ◌+◌, ◌-◌, ◌*◌, ◌≤◌}
use native.Mathlib.Omega.{arith}
use borrow.Author.Tests.{leb-false}
use lib.Dec.{eqb, leb}
use lib.ListN.{length, get_or, length-append, length-take}
use Rattle.model.specs.Lists.{every}
use Rattle.model.specs.Packet.{Packet}
use Rattle.model.specs.Frame.{Triple, flat}
use Rattle.model.specs.Mux.{packet_triples, Sent, send, padding}
use Rattle.model.proofs.Cases.{by_cond}
use Rattle.model.proofs.Frames.{flat_length}
use Rattle.writer_frames.specs.Frame.{appended, fillers}
use Rattle.writer_frames.proofs.Stores.{appended_flat, fits_true}
use Rattle.writer_frames.specs.declared.Frame.{Frame}
use Rattle.slots.specs.Slot.{no_slot, written_length, written_bytes, written_slot}
use Rattle.slots.specs.declared.Slot.{Slot}
use Rattle.writer_sending.specs.Slots.{triples_left, sent_over, lacks, padded, starts_at, filled}
use Rattle.writer_sending.proofs.Triples.{left_from, Held, left_triples}
use Rattle.writer_sending.proofs.Sends.{read_slots, stands, sends_stand}
use Rattle.writer_sending.proofs.Ends.{ends}

-- no more triples than are due
pub send_few : (m : ℕ) (ts : List Triple) (ps : List Packet) → length (send m ts ps).out ≤ m
unfolding send
send_few m ts [] = rw (length-take m ts) (omega arith)
send_few m ts (p ∷ ps) =
    by_cond (λ (r : Sent). length r.out ≤ m) (leb m (length ts)) (λ _. rw (length-take m ts) (omega arith))
    (λ e. rw length-append (omega (arith, send_few (m - length ts) (packet_triples p) ps, leb-false m (length ts) e)))

-- a frame of t triples, padded to the count behind others
padded_is : (on : Bool) (f : Frame) (t count : ℕ) (ts : List Triple) → f.len ≡ 2 + 3 * t → t + length ts ≤ count → count ≤ 31
    → padded on count (appended f (flat ts)) ≡ appended f (flat (ts ++ padding on (count - t - length ts)))
unfolding padding
padded_is true f t count ts len room few =
    let k : lacks count (appended f (flat ts)) ≡ count - t - length ts = omega (arith, flat_length ts) in
    rw (k, fits_true (appended f (flat ts)) (count - t - length ts) (omega (arith, flat_length ts))) (appended_flat f ts (fillers (count - t - length ts)))
padded_is false f t count ts len room few = rw (append-nil ts)

module _ (l : List Slot) (slot : Slot) (sent : ℕ) (f : Frame) (t count : ℕ) (e : every written_slot l ≡ true) (h : Held slot sent)
    (len : f.len ≡ 2 + 3 * t) (within : t ≤ count) (few : count ≤ 31) where
  -- what the model sends
  abbrev sends : Sent
  sends = send (count - t) (left_from sent (written_bytes slot)) (read_slots l)

  -- so many packets are begun
  abbrev begun : ℕ
  begun = length l - length sends.packets

  -- the slot begun last
  abbrev last : Slot
  last = get_or (slot ∷ l) begun no_slot

  -- no triple of it is left
  abbrev none : Bool
  none = eqb (length sends.sending) 0

  -- so many bytes of it have left
  abbrev gone : ℕ
  gone = written_length last - 2 * length sends.sending

  -- what is left of it, as the code finds it
  left_is : triples_left last.len gone ≡ length sends.sending
  left_is = let k = (ends l slot sent (count - t) e h).tail in left_triples last gone k.held ∙ (omega (arith, k.some))

  -- where sending stands
  sent_is : sent_over l (lacks count f) (starts_at slot sent f) ≡ stands l (starts_at slot sent f) sends
  sent_is = let k : lacks count f ≡ count - t = omega arith in rw k (sends_stand l (count - t) (starts_at slot sent f) e h (omega arith))

  -- in all
  pub filled_is : (on : Bool) → filled l slot sent f count on
      ≡ record {
        slot = record { len = cond none 0 last.len; bytes = last.bytes };
        sent = cond none 0 gone;
        next = begun;
        frame = appended f (flat (sends.out ++ padding on (count - t - length sends.out)));
      }
  unfolding filled
  filled_is on =
      let z : 0 + begun ≡ begun = omega arith in
      rw (sent_is, left_is, z, padded_is on f t count sends.out len (omega (arith, send_few (count - t) (left_from sent (written_bytes slot)) (read_slots l))) few)
