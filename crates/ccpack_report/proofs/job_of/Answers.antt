-- Each way out is a law of the definition. Assumes nothing.
use Rattle.ccpack_report.proofs.Sorts.{job_short, job_check, job_propose, job_none}
use borrow.Author.Rules.{rules}
use Rattle.ccpack_report.proofs.job_of.Goals as goal

pub returns-then-size-lt3 : goal.returns-then-size-lt3
returns-then-size-lt3 c = search (rules, job_short)

pub returns-then-kind-eq67 : goal.returns-then-kind-eq67
returns-then-kind-eq67 c = search (rules, job_check)

pub returns-then-kind-eq80 : goal.returns-then-kind-eq80
returns-then-kind-eq80 c = search (rules, job_propose)

pub returns : goal.returns
returns c = search (rules, job_none)
