-- What is left of the runs decides. Assumes nothing.
use mathlib.Core.Path.{◌≡◌}
use lib.ListN.{length}
use Rattle.model_packing.specs.Proposals.{run_fits, runs_fit}
use Rattle.model_packing.proofs.Counts.{left}
use Rattle.packing_runs.proofs.runs_fit.Given as goal

abbrev pub invariant-loop-run : goal.invariant-loop-run
invariant-loop-run l = runs_fit l.services l.lengths ≡ left (run_fits l.services l.lengths) (length l.services) l.run
