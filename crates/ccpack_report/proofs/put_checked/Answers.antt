-- The parts of the job are what the definition takes. Assumes nothing.
use Rattle.ccpack_report.proofs.Told.{laid_checked}
use borrow.Author.Rules.{rules}
use Rattle.ccpack_report.proofs.put_checked.Goals as goal

pub returns : goal.returns
returns c = search (rules, laid_checked)
