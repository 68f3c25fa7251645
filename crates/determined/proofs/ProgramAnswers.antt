-- The functions that tell what answers say, as numbers. Assumes nothing.
use Rattle.program_answers.proofs.tell_refusal.Reads as TellRefusalReads
use Rattle.program_answers.proofs.tell_done.Reads as TellDoneReads
use Rattle.program_answers.proofs.tell_count.Reads as TellCountReads
use Rattle.determined.specs.Determines.{Determines}
use Rattle.determined.proofs.Ways.{equal}

-- `tell_refusal(why)`
pub tell_refusal : Determines (TellRefusalReads.Post (tt {0}))
tell_refusal = equal

-- `tell_done(answer)`
pub tell_done : Determines (TellDoneReads.Post (tt {0}))
tell_done = equal

-- `tell_count(answer)`
pub tell_count : Determines (TellCountReads.Post (tt {0}))
tell_count = equal
