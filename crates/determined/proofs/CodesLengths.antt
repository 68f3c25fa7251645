-- The functions over the table of code lengths. Assumes nothing.
use Rattle.codes_lengths.proofs.lengths.Reads as Lengths
use Rattle.codes_lengths.proofs.length_by.Reads as LengthByReads
use Rattle.determined.specs.Determines.{Determines}
use Rattle.determined.proofs.Ways.{equal}

-- `lengths()`
pub lengths : Determines (Lengths.Post (tt {0}))
lengths = equal

-- `length_by(extended, byte)`
pub length_by : Determines (LengthByReads.Post (tt {0}))
length_by = equal
