-- The answer, and the end of its line. Assumes nothing.
use Rattle.ccpack_report.proofs.Lays.{laid_answer_line}
use borrow.Author.Rules.{rules}
use Rattle.ccpack_report.proofs.put_answer_line.Goals as goal

pub returns : goal.returns
returns c = search (rules, laid_answer_line)
