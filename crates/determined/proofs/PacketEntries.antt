-- The functions that measure a packet's arrays. Assumes nothing.
use contract.Lifetimes.{Lfts}
use Rattle.packet_entries.proofs.extent_of.Reads as ExtentOfReads
use Rattle.packet_entries.proofs.sum_of.Reads as SumOfReads
use Rattle.packet_entries.proofs.latest.Reads as Latest
use Rattle.packet_entries.proofs.block_at.Reads as BlockAtReads
use Rattle.determined.specs.Determines.{Determines}
use Rattle.determined.proofs.Ways.{equal}

-- `extent_of(seq_no, count, numbers, sizes)`
pub extent_of : (κs : Lfts 2) → Determines (ExtentOfReads.Post κs)
extent_of κs = equal

-- `sum_of(sizes, count)`
pub sum_of : (κs : Lfts 1) → Determines (SumOfReads.Post κs)
sum_of κs = equal

-- `latest(numbers, count, number)`
pub latest : (κs : Lfts 1) → Determines (Latest.Post κs)
latest κs = equal

-- `block_at(numbers, sizes, payload, place)`
pub block_at : (κs : Lfts 3) → Determines (BlockAtReads.Post κs)
block_at κs = equal
