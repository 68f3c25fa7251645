-- The slots of a multiplexer that are written packets. [S1] and [W14]. Assumes nothing.
use Rattle.std.specs.Prelude.{Bool, ◌&&◌, ◌||◌, List, ℕ, ◌%◌, eqb, leb, take}
use Rattle.model.specs.Lists.{every}
use Rattle.model.specs.Mux.{most_packets}
use Rattle.slots.specs.Slot.{written_length, written_slot}
use Rattle.slots.specs.declared.Slot.{Slot}

-- a slot that can be the packet being sent, of which `sent` bytes have left, two at a time; nothing is being sent where its length is 0
unfoldable pub valid_sending : Slot → ℕ → Bool
valid_sending s sent = (eqb s.len 0 || written_slot s) && (eqb (sent % 2) 0 && leb sent (written_length s))

-- within the limits [W14]: the slot being sent, of which `sent` bytes have left, and the first `count` of the queue
unfoldable pub valid_slots : Slot → ℕ → List Slot → ℕ → Bool
valid_slots s sent l count = leb count most_packets && (valid_sending s sent && every written_slot (take count l))
