-- What is promised [J1] of calls and of the frames that they wrote. Assumes nothing.
use Rattle.std.specs.Prelude.{Ok, ◌≡◌, cond, List, [], ◌∷◌, ◌++◌, ℕ, leb}
use Rattle.model.specs.Packet.{Packet}
use Rattle.slots.specs.Slot.{written_length, read_slot}
use Rattle.writer.specs.Writer.{means}
use Rattle.writer.specs.declared.CCDataWriter.{CCDataWriter}
use Rattle.theorems.specs.Items.{Items}
use Rattle.theorems.specs.Allowed.{Answer}
use Rattle.theorems.specs.Reading.{Told, NoRefusal}

-- 608 is turned on, no frame and no draw is refused, and what is given is exactly what was accepted, in order, once each [J1]
pub record RoundTrip (on : Answer) (frames : List (List ℕ)) (answers : List Answer) (told : List Told) (given accepted : Items) : Type 0 where
  pub turned_on : on ≡ Ok tt
  pub no_refusal : NoRefusal frames answers told
  pub exactly : given ≡ accepted

-- the packet being sent: the one that is in its slot, and none once every byte of it has left
abbrev pub sending_of : CCDataWriter → List Packet
sending_of w = cond (leb (written_length w.sending) w.sent) [] (read_slot w.sending ∷ [])

-- Before it is drained: what was accepted is what has been given, and then what is still there. Of packets that is the one being sent, if there is
-- one, and those queued; of pairs it is those queued.
pub record SoFar (w : CCDataWriter) (given accepted : Items) : Type 0 where
  pub packets : accepted.packets ≡ given.packets ++ (sending_of w ++ (means w).packets)
  pub pairs1 : accepted.pairs1 ≡ given.pairs1 ++ (means w).queue1
  pub pairs2 : accepted.pairs2 ≡ given.pairs2 ++ (means w).queue2
