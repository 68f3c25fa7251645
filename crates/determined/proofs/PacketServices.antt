-- The functions that make and count a set of services. Assumes nothing.
use contract.Lifetimes.{Lfts}
use Rattle.packet_services.proofs.services_to.Reads as ServicesToReads
use Rattle.packet_services.proofs.how_many.Reads as HowManyReads
use Rattle.determined.specs.Determines.{Determines}
use Rattle.determined.proofs.Ways.{equal}

-- `services_to(numbers, count)`
pub services_to : (κs : Lfts 1) → Determines (ServicesToReads.Post κs)
services_to κs = equal

-- `how_many(set)`
pub how_many : Determines (HowManyReads.Post (tt {0}))
how_many = equal
