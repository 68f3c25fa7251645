-- There is room for the numbers of all pieces, so that the only refusal is that of the runs. Assumes nothing.
use Rattle.ccpack_report.proofs.Packed.{laid_made, laid_refused}
use borrow.Author.Rules.{rules}
use Rattle.ccpack_report.proofs.put_packed.Goals as goal

pub returns-in-Ok : goal.returns-in-Ok
returns-in-Ok c = search (rules, laid_made, c.propose.ensures.answer, c.propose.ensures.output)

pub returns-in-Err : goal.returns-in-Err
returns-in-Err c = search (rules, laid_refused, c.propose.ensures.answer, c.propose.ensures.output)
