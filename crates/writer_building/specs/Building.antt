-- A frame put together, whatever the queues and the slots hold. No public contract of `writer` reaches this file: in a state
-- within the limits it is proved to be the frame of the model. Assumes nothing.
use Rattle.std.specs.Prelude.{Bool, cond, not, List, ℕ, ◌*◌, ◌%◌, min, max, length, take, replicate}
use Rattle.model.specs.Frame.{pair}
use Rattle.model.specs.Mux.{most_queued}
use Rattle.writer_shares.specs.declared.Carry.{Carry}
use Rattle.writer_frames.specs.Frame.{headed}
use Rattle.writer_turns.specs.Turn.{fits, turns_by, taken_from}
use Rattle.writer_turns.specs.declared.Turns.{Turns}
use Rattle.slots.specs.declared.Slot.{Slot}
use Rattle.writer_sending.specs.Slots.{count_of, filled}
use Rattle.writer_sending.specs.declared.Sending.{Sending}
use Rattle.writer_building.specs.declared.Source.{Source}
use Rattle.writer_building.specs.declared.Made.{Made}

-- the turns of a frame [W1]; a queue of field 2 has at most its places
abbrev pub turns_of : Bool → ℕ → ℕ → ℕ → ℕ
turns_of pad pairs n1 n2 = cond pad pairs (min pairs (max n1 (2 * min n2 most_queued)))

-- how many of n turns will send, where the fields have n1 and n2 pairs queued, whichever these are
unfoldable pub sent_of : Bool → ℕ → Bool → ℕ → ℕ → ℕ
sent_of pad n second n1 n2 = length (turns_by (not second) n pad (replicate n1 (pair 0 0)) (replicate n2 (pair 0 0))).out

-- the turns that the count counts: all [W9], or with the true count those that will send [W17]
abbrev pub counted_of : Bool → Bool → ℕ → Bool → ℕ → ℕ → ℕ
counted_of on pad n second n1 n2 = cond on (sent_of pad n second n1 n2) n

-- the turns are taken where they fit
abbrev pub takes : ℕ → Bool → Turns → Turns
takes n pad t = cond (fits t n) (taken_from n pad t) t

-- the frame and what is left, once the turns and the packet triples of it have left
abbrev pub made_of : Turns → Sending → Carry → Made
made_of t s carry =
    record {
      frame = s.frame;
      carry = carry;
      field1 = t.field1;
      field2 = t.field2;
      field2_next = t.field2_next;
      slot = s.slot;
      sent = s.sent;
      next = s.next;
    }

-- the turns, of which the count counts so many, then packet triples up to the count, then padding
unfoldable pub built_by : ℕ → ℕ → ℕ → Carry → List Slot → Source → Made
built_by due counted triples carry packets s =
    let slots = take s.queued packets in
    let count = count_of s.padding triples counted slots s.slot s.sent in
    let turns = takes due s.pad (record { field1 = s.field1; field2 = s.field2; field2_next = s.field2_next; frame = headed (count % 32) }) in
    made_of turns (filled slots s.slot s.sent turns.frame count s.padding) carry

-- at budgets of `pairs` and `triples`
unfoldable pub built : ℕ → ℕ → Carry → List Slot → Source → Made
built pairs triples carry packets s =
    let due = turns_of s.pad pairs s.field1.count s.field2.count in
    built_by due (counted_of s.true_count s.pad due s.field2_next s.field1.count s.field2.count) triples carry packets s
