-- The functions that lay the lines of a script's answers. Assumes nothing.
use contract.Lifetimes.{Lfts}
use mir.Syntax.{w64}
use mir.Val.{Fits}
use Prim.Native.Nat.{ℕ}
use Rattle.script_answers.proofs.put_bad_line.Reads as PutBadLineReads
use Rattle.script_answers.proofs.put_ok_line.Reads as PutOkLineReads
use Rattle.script_answers.proofs.put_done_line.Reads as PutDoneLineReads
use Rattle.script_answers.proofs.put_written_line.Reads as PutWrittenLineReads
use Rattle.script_answers.proofs.put_measures_line.Reads as PutMeasuresLineReads
use Rattle.script_answers.proofs.put_refusal_line.Reads as PutRefusalLineReads
use Rattle.script_answers.proofs.put_run_line.Reads as PutRunLineReads
use Rattle.determined.specs.Determines.{Determines, DeterminesLent}
use Rattle.determined.proofs.Ways.{equal}
use Rattle.determined.proofs.ProgramText.{lays}

-- `put_bad_line(out, at)`
pub put_bad_line : (κs : Lfts 1) → DeterminesLent (λ e. e.0.now) (PutBadLineReads.Post κs)
put_bad_line κs = lays

-- `put_ok_line(out, at)`
pub put_ok_line : (κs : Lfts 1) → DeterminesLent (λ e. e.0.now) (PutOkLineReads.Post κs)
put_ok_line κs = lays

-- `put_done_line(out, at, answer)`
pub put_done_line : (κs : Lfts 1) → DeterminesLent (λ e. e.0.now) (PutDoneLineReads.Post κs)
put_done_line κs = lays

-- `put_written_line(out, at, answer, lent)`
pub put_written_line : (κs : Lfts 2) → DeterminesLent (λ e. e.0.now) (PutWrittenLineReads.Post κs)
put_written_line κs = lays

-- `put_measures_line(out, at, measured)`
pub put_measures_line : (N : ℕ) (fits : Fits w64 N) (κs : Lfts 2) → DeterminesLent (λ e. e.0.now) (PutMeasuresLineReads.Post N fits κs)
put_measures_line N fits κs = lays

-- `put_refusal_line(out, at, why)`
pub put_refusal_line : (κs : Lfts 1) → DeterminesLent (λ e. e.0.now) (PutRefusalLineReads.Post κs)
put_refusal_line κs = lays

-- `put_run_line(out, at, bytes)`
pub put_run_line : (κs : Lfts 2) → DeterminesLent (λ e. e.0.now) (PutRunLineReads.Post κs)
put_run_line κs = lays
