-- Each way out is a law of the definition. Assumes nothing.
use Rattle.ccpack_report.proofs.Sorts.{propose_too_many, propose_whole, propose_wrong}
use borrow.Author.Rules.{rules}
use Rattle.ccpack_report.proofs.propose_job.Goals as goal

pub returns-then-runs-gt-MOST_RUNS : goal.returns-then-runs-gt-MOST_RUNS
returns-then-runs-gt-MOST_RUNS c = search (rules, propose_too_many)

pub returns-then-size-runs : goal.returns-then-size-runs
returns-then-size-runs c = search (rules, propose_whole)

pub returns : goal.returns
returns c = search (rules, propose_wrong)
