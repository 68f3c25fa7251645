-- What is left of the runs decides. Assumes nothing.
use borrow.Author.Rules.{rules}
use Rattle.model_packing.specs.Proposals.{runs_fit}
use Rattle.model_packing.proofs.Counts.{left_first, left_none, left_stops, left_more}
use Rattle.packing_runs.proofs.runs_fit.Goals as goal

pub loop-run-init : goal.loop-run-init
unfolding runs_fit
loop-run-init c = search (rules, left_first)

pub returns-then-not-run_fits : goal.returns-then-not-run_fits
returns-then-not-run_fits c = search (rules, left_stops)

pub loop-run-preserved : goal.loop-run-preserved
loop-run-preserved c = search (rules, left_more)

pub returns : goal.returns
returns c = search (rules, left_none)
