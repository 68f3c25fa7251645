-- Each way out is a law of the definition. Assumes nothing.
use Rattle.ccpack_report.proofs.Sorts.{check_too_many, check_short, check_whole, check_left}
use borrow.Author.Rules.{rules}
use Rattle.ccpack_report.proofs.check_job.Goals as goal

pub returns-then-runs-gt-MOST_RUNS : goal.returns-then-runs-gt-MOST_RUNS
returns-then-runs-gt-MOST_RUNS c = search (rules, check_too_many)

pub returns-then-size-head : goal.returns-then-size-head
returns-then-size-head c = search (rules, check_short)

pub returns-then-size-head-eq0 : goal.returns-then-size-head-eq0
returns-then-size-head-eq0 c = search (rules, check_whole)

pub returns : goal.returns
returns c = search (rules, check_left)
