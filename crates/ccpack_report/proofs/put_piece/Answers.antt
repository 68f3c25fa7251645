-- Seven parts, laid one behind another. Assumes nothing.
use Rattle.ccpack_report.proofs.Lays.{laid_piece}
use borrow.Author.Rules.{rules}
use Rattle.ccpack_report.proofs.put_piece.Goals as goal

pub returns : goal.returns
returns c = search (rules, laid_piece)
