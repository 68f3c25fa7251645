-- The functions of runs. Assumes nothing.
use mathlib.Core.Path.{sym, ◌∙◌}
use contract.Lifetimes.{Lfts}
use Rattle.packing_runs.proofs.number_at.Reads as NumberAtReads
use Rattle.packing_runs.proofs.runs_fit.Reads as RunsFitReads
use Rattle.determined.specs.Determines.{Determines}
use Rattle.determined.proofs.Ways.{equal}

-- `number_at(numbers, at)`
pub number_at : (κs : Lfts 1) → Determines (NumberAtReads.Post κs)
number_at κs = record { result = λ a r q e f h k. h.0 ∙ sym k.0 }

-- `runs_fit(services, lengths)`
pub runs_fit : (κs : Lfts 2) → Determines (RunsFitReads.Post κs)
runs_fit κs = equal
