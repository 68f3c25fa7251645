-- What `ccpack` prints for a job: rule Q9 of docs/RULES.md. Assumes nothing.
use Rattle.std.specs.Prelude.{cond, List, ◌++◌, ℕ, ◌+◌, ◌-◌, ◌*◌, ◌%◌, eqb, ltb, length, get_or, take, drop}
use Rattle.model.specs.Said.{over_limit}
use Rattle.model_packing.specs.Pieces.{pieces_of}
use Rattle.model_packing.specs.Proposals.{zeros, most_runs, check_proposal}
use Rattle.ccpack_report.specs.Lines.{bad_line, answer_line, packed_text}
use Rattle.ccpack_report.specs.declared.Job.{Job}
use Rattle.ccpack_report.specs.declared.Job.TheVariants.{Bad, TooMany, Check, Propose}

-- the bytes before the pieces: the kind, the number of runs, and for each run its service and its length
abbrev pub head_length : ℕ → ℕ
head_length runs = 3 + 2 * runs

-- a job to check, by its number of runs and its length: pieces have five bytes each
unfoldable pub check_job : ℕ → ℕ → Job
check_job runs size =
    cond (ltb most_runs runs) TooMany
    (cond (ltb size (head_length runs)) Bad
    (cond (eqb ((size - head_length runs) % 5) 0) (Check runs) Bad))

-- a job to propose: nothing is behind the lengths
unfoldable pub propose_job : ℕ → ℕ → Job
propose_job runs size = cond (ltb most_runs runs) TooMany (cond (eqb size (head_length runs)) (Propose runs) Bad)

-- what a job is, by its kind, which is `C` or `P`, its number of runs and its length
unfoldable pub job_of : ℕ → ℕ → ℕ → Job
job_of kind runs size =
    cond (ltb size 3) Bad
    (cond (eqb kind 67) (check_job runs size)
    (cond (eqb kind 80) (propose_job runs size) Bad))

-- the number of runs, the higher byte first
abbrev pub runs_in : List ℕ → ℕ
runs_in job = 256 * get_or job 1 0 + get_or job 2 0

-- what bytes are as a job
unfoldable pub job_in : List ℕ → Job
job_in job = job_of (get_or job 0 0) (runs_in job) (length job)

-- the services of so many runs,
abbrev pub services_in : ℕ → List ℕ → List ℕ
services_in runs job = take runs (drop 3 job)

-- their lengths,
abbrev pub lengths_in : ℕ → List ℕ → List ℕ
lengths_in runs job = take runs (drop (3 + runs) job)

-- and the numbers of the pieces
abbrev pub numbers_in : ℕ → List ℕ → List ℕ
numbers_in runs job = drop (head_length runs) job

-- what is told of a proposal in a job
unfoldable pub checked_text : ℕ → List ℕ → List ℕ
checked_text runs job = answer_line (check_proposal (services_in runs job) (lengths_in runs job) (pieces_of (numbers_in runs job)))

-- what is told of a job, by what it is
unfoldable pub told_of : Job → List ℕ → List ℕ
told_of Bad job = bad_line
told_of TooMany job = answer_line over_limit
told_of (Check runs) job = checked_text runs job
told_of (Propose runs) job = packed_text (services_in runs job) (lengths_in runs job)

-- What `ccpack` prints for its whole input [Q9].
unfoldable pub job_text : List ℕ → List ℕ
job_text job = told_of (job_in job) job

-- so many bytes of a job are kept, and of those beyond how many they are modulo 5
abbrev pub most_kept : ℕ
most_kept = 327680

-- a job of which `over` bytes are beyond what is kept, whatever they say
unfoldable pub kept_job : List ℕ → ℕ → List ℕ
kept_job job over = cond (ltb (length job) most_kept) job (job ++ zeros (over % 5))

-- and its length
unfoldable pub kept_length : ℕ → ℕ → ℕ
kept_length kept over = cond (ltb kept most_kept) kept (kept + over % 5)
