-- The functions of a script's sets of services. Assumes nothing.
use contract.Lifetimes.{Lfts}
use Rattle.script_services.proofs.set_in.Reads as SetIn
use Rattle.script_services.proofs.put_services_line.Reads as PutServicesLineReads
use Rattle.determined.specs.Determines.{Determines, DeterminesLent}
use Rattle.determined.proofs.Ways.{equal}
use Rattle.determined.proofs.ProgramText.{lays}

-- `set_in(bytes)`
pub set_in : (κs : Lfts 1) → Determines (SetIn.Post κs)
set_in κs = equal

-- `put_services_line(out, at, packet)`
pub put_services_line : (κs : Lfts 2) → DeterminesLent (λ e. e.0.now) (PutServicesLineReads.Post κs)
put_services_line κs = lays
