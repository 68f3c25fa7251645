-- The function that lays what is told of a job. Assumes nothing.
use contract.Lifetimes.{Lfts}
use Rattle.determined.proofs.ProgramText.{lays}
use Rattle.ccpack_report.proofs.put_job.Reads as PutJobReads
use Rattle.determined.specs.Determines.{DeterminesLent}

-- `put_job(out, at, job, over)`
pub put_job : (κs : Lfts 2) → DeterminesLent (λ e. e.0.now) (PutJobReads.Post κs)
put_job κs = lays
