-- The functions that test the waiting slots. Assumes nothing.
use contract.Lifetimes.{Lfts}
use Rattle.parser_rings.proofs.slot_good.Reads as SlotGoodReads
use Rattle.parser_rings.proofs.ring_good.Reads as RingGoodReads
use Rattle.determined.specs.Determines.{Determines}
use Rattle.determined.proofs.Ways.{equal}

-- `slot_good(slot)`
pub slot_good : (κs : Lfts 1) → Determines (SlotGoodReads.Post κs)
slot_good κs = equal

-- `ring_good(slots, first, count)`
pub ring_good : (κs : Lfts 1) → Determines (RingGoodReads.Post κs)
ring_good κs = equal
