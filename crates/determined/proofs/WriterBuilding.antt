-- A frame put together. Assumes nothing.
use contract.Lifetimes.{Lfts}
use Rattle.writer_building.proofs.Source.make.Reads as make
use Rattle.determined.specs.Determines.{Determines}
use Rattle.determined.proofs.Ways.{equal}

-- `source.make(packets, share)`
pub source_make : (κs : Lfts 2) → Determines (make.Post κs)
source_make κs = equal
