-- The slot's function, and the test of a multiplexer's slots. Assumes nothing.
use contract.Lifetimes.{Lfts}
use Rattle.slots.proofs.Slot.is_written.Reads as IsWrittenReads
use Rattle.slots.proofs.slots_written.Reads as SlotsWrittenReads
use Rattle.determined.specs.Determines.{Determines}
use Rattle.determined.proofs.Ways.{equal}

-- `slot.is_written()`
pub slot_is_written : (κs : Lfts 1) → Determines (IsWrittenReads.Post κs)
slot_is_written κs = equal

-- `slots_written(sending, sent, packets, count)`
pub slots_written : (κs : Lfts 2) → Determines (SlotsWrittenReads.Post κs)
slots_written κs = equal
