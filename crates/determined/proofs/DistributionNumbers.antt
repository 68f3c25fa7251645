-- The functions of a distribution packet's numbers. Assumes nothing.
use contract.Lifetimes.{Lfts}
use Rattle.distribution_numbers.proofs.newer.Reads as Newer
use Rattle.distribution_numbers.proofs.counter_after.Reads as CounterAfterReads
use Rattle.distribution_numbers.proofs.sum_of.Reads as SumOfReads
use Rattle.distribution_numbers.proofs.closing_byte.Reads as ClosingByteReads
use Rattle.distribution_numbers.proofs.is_coded.Reads as IsCodedReads
use Rattle.determined.specs.Determines.{Determines}
use Rattle.determined.proofs.Ways.{equal}

-- `newer(last, counter)`
pub newer : Determines (Newer.Post (tt {0}))
newer = equal

-- `counter_after(counter)`
pub counter_after : Determines (CounterAfterReads.Post (tt {0}))
counter_after = equal

-- `sum_of(bytes)`
pub sum_of : (κs : Lfts 1) → Determines (SumOfReads.Post κs)
sum_of κs = equal

-- `closing_byte(sum)`
pub closing_byte : Determines (ClosingByteReads.Post (tt {0}))
closing_byte = equal

-- `is_coded(code)`
pub is_coded : Determines (IsCodedReads.Post (tt {0}))
is_coded = equal
