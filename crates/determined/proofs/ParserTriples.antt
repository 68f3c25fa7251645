-- The function that plans a frame. Assumes nothing.
use contract.Lifetimes.{Lfts}
use Rattle.parser_triples.proofs.plan_of.Reads as PlanOfReads
use Rattle.determined.specs.Determines.{Determines}
use Rattle.determined.proofs.Ways.{equal}

-- `plan_of(frame)`
pub plan_of : (κs : Lfts 1) → Determines (PlanOfReads.Post κs)
plan_of κs = equal
