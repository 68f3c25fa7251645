-- Packet triples slot by slot, whatever the slots hold: how many are left, and what a frame takes of them [W7].
-- No public contract of `writer` reaches this file: where the slots are written packets, it is proved to be what the model sends. Assumes nothing.
use Rattle.std.specs.Prelude.{Bool, cond, ◌&&◌, List, [], ◌∷◌, ℕ, ◌+◌, ◌-◌, ◌*◌, ◌/◌, ◌%◌, min, eqb, leb}
use Rattle.model.specs.Packet.{most_packet}
use Rattle.model.specs.Frame.{flat}
use Rattle.basics.specs.Cut.{steps_in}
use Rattle.writer_frames.specs.Frame.{appended, triples_at, fillers, fits, carries}
use Rattle.writer_frames.specs.declared.Frame.{Frame}
use Rattle.slots.specs.declared.Slot.{Slot}
use Rattle.writer_sending.specs.declared.Sending.{Sending}

-- the triples left of a packet of `len` bytes of which `sent` have left; none of one that is too long
unfoldable pub triples_left : ℕ → ℕ → ℕ
triples_left len sent = cond (leb len most_packet) ((len + len % 2 - sent) / 2) 0

-- those of the packet being sent
abbrev pub left_of : Sending → ℕ
left_of s = triples_left s.slot.len s.sent

-- a measure of each slot, summed
unfoldable pub summed : (Slot → ℕ) → List Slot → ℕ
summed f [] = 0
summed f (s ∷ l) = f s + summed f l

-- the triples of slots
abbrev pub triples_of : List Slot → ℕ
triples_of l = summed (λ s. triples_left s.len 0) l

-- the lengths of slots, of each at most the longest packet's
abbrev pub lengths_in : List Slot → ℕ
lengths_in l = summed (λ s. min s.len most_packet) l

-- the count of a frame with so many turns [W2]
abbrev pub count_of : Bool → ℕ → ℕ → List Slot → Slot → ℕ → ℕ
count_of padding triples turns l slot sent = cond padding triples (min triples (turns + (triples_left slot.len sent + triples_of l)))

-- n triples of the packet being sent, in the frame if they fit and are there
abbrev pub carried_by : ℕ → Sending → Sending
carried_by n s =
    record {
      slot = s.slot;
      sent = s.sent + 2 * n;
      next = s.next;
      frame = cond (fits s.frame n && carries s.sent n) (appended s.frame (flat (triples_at n s.sent s.slot.bytes))) s.frame;
    }

-- as many as are due, or as are left
abbrev pub finished : Sending → ℕ → Sending
finished s m = carried_by (min m (left_of s)) s

-- the next packet is begun, once all of the one being sent has left
abbrev pub onward : Slot → Sending → Sending
onward slot s = let r = carried_by (left_of s) s in record { slot = slot; sent = 0; next = r.next + 1; frame = r.frame }

-- m packet triples, of the packet being sent first, and of the slots behind it [W7]
unfoldable pub sent_over : List Slot → ℕ → Sending → Sending
sent_over [] m s = finished s m
sent_over (x ∷ l) m s = cond (leb m (left_of s)) (finished s m) (sent_over l (m - left_of s) (onward x s))

-- a packet that has left: nothing is being sent
abbrev pub rested : Sending → Sending
rested s =
    let none = eqb (left_of s) 0 in
    record { slot = record { len = cond none 0 s.slot.len; bytes = s.slot.bytes }; sent = cond none 0 s.sent; next = s.next; frame = s.frame }

-- the triples that a frame lacks up to a count; its first two bytes belong to none, and it is taken to have 31 at the most
abbrev pub lacks : ℕ → Frame → ℕ
lacks count f = count - steps_in (f.len - 2) 3

-- with output padding on, fillers up to the count [W8]
abbrev pub padded : Bool → ℕ → Frame → Frame
padded padding count f = cond (padding && fits f (lacks count f)) (appended f (flat (fillers (lacks count f)))) f

-- where sending starts
abbrev pub starts_at : Slot → ℕ → Frame → Sending
starts_at slot sent f = record { slot = slot; sent = sent; next = 0; frame = f }

-- packet triples up to the count, and padding
unfoldable pub filled : List Slot → Slot → ℕ → Frame → ℕ → Bool → Sending
filled l slot sent f count padding =
    let r = rested (sent_over l (lacks count f) (starts_at slot sent f)) in
    record { slot = r.slot; sent = r.sent; next = r.next; frame = padded padding count r.frame }
