-- The test of the limits of a proposal. Assumes nothing.
use contract.Lifetimes.{Lfts}
use Rattle.packing_limits.proofs.within_limits.Reads as WithinLimitsReads
use Rattle.determined.specs.Determines.{Determines}
use Rattle.determined.proofs.Ways.{equal}

-- `within_limits(services, lengths, pieces)`
pub within_limits : (κs : Lfts 3) → Determines (WithinLimitsReads.Post κs)
within_limits κs = equal
