-- Each kind of job is told as its definition says, and what is kept decides. Assumes nothing.
use Rattle.ccpack_report.proofs.Told.{check_few, propose_few, laid_bad, laid_too_many, laid_check, laid_propose}
use native.Mathlib.Omega.{arith}
use borrow.Author.Rules.{rules}
use Rattle.ccpack_report.proofs.put_job.Goals as goal

pub put_checked-requires : goal.put_checked-requires
put_checked-requires c = search (rules, check_few)

pub overflow_add-runs : goal.overflow_add-runs
overflow_add-runs c = omega (arith, propose_few _ _ c.look.ensures c.in-Propose.is)

pub returns-in-Bad : goal.returns-in-Bad
returns-in-Bad c = search (rules, laid_bad)

pub returns-in-TooMany : goal.returns-in-TooMany
returns-in-TooMany c = search (rules, laid_too_many)

pub returns-in-Check : goal.returns-in-Check
returns-in-Check c =
    laid_check _ _ c.look.ensures (λ i. omega (arith, c.shared_slice_known-1.given i)) c.in-Check.is c.put_checked.ensures

pub returns-in-Propose : goal.returns-in-Propose
returns-in-Propose c = search (rules, laid_propose)
