-- The turns of the two fields, in places: [W4] to [W6]. No public contract of `writer` reaches this file. Assumes nothing.
use Rattle.std.specs.Prelude.{Bool, cond, not, ◌&&◌, List, ℕ, leb}
use Rattle.model.specs.Frame.{Pair, flat}
use Rattle.model.specs.Mux.{Turned, turn1, turn2, most_queued}
use Rattle.writer_frames.specs.Frame.{appended}
use Rattle.writer_frames.specs.Frame as frames
use Rattle.writer_queues.specs.Queue.{queue_of, queue_over}
use Rattle.writer_turns.specs.declared.Turns.{Turns}

-- counts within the places of a queue [S2], and room for n triples
unfoldable pub fits : Turns → ℕ → Bool
fits t n = leb t.field1.count most_queued && (leb t.field2.count most_queued && frames.fits t.frame n)

-- what is there after the model's turns: the queues that they leave in their places, and the triples in the frame
abbrev pub taken : Turns → Turned → Turns
taken t r =
    record {
      field1 = queue_over t.field1 r.queue1;
      field2 = queue_over t.field2 r.queue2;
      field2_next = not r.next1;
      frame = appended t.frame (flat r.out);
    }

-- n turns, from field 1's on or from field 2's [W4]
abbrev pub turns_by : Bool → ℕ → Bool → List Pair → List Pair → Turned
turns_by first n pad q1 q2 = cond first (turn1 n pad q1 q2) (turn2 n pad q1 q2)

-- of a state, from the field on whose turn is next
unfoldable pub turns_from : ℕ → Bool → Turns → Turned
turns_from n pad t = turns_by (not t.field2_next) n pad (queue_of t.field1) (queue_of t.field2)

-- the turns, from the field whose turn is next
abbrev pub taken_from : ℕ → Bool → Turns → Turns
taken_from n pad t = taken t (turns_from n pad t)
