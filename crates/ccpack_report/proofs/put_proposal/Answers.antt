-- The packets, the pieces and their number, laid one behind another. Assumes nothing.
use Rattle.ccpack_report.proofs.Lays.{laid_proposal}
use borrow.Author.Rules.{rules}
use Rattle.ccpack_report.proofs.put_proposal.Goals as goal

pub returns : goal.returns
returns c = search (rules, laid_proposal)
