-- The kind and the number of runs stand in what is kept. Assumes nothing.
use Rattle.ccpack_report.proofs.Sorts.{job_kept}
use borrow.Author.Rules.{rules}
use Rattle.ccpack_report.proofs.look.Goals as goal

pub returns : goal.returns
returns c = search (rules, job_kept)
