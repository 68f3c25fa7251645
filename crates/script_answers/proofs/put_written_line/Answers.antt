-- The answer, the output and the end of the line, laid one behind another. Assumes nothing.
use Rattle.script_answers.proofs.Parts.{line_lent}
use borrow.Author.Rules.{rules}
use Rattle.script_answers.proofs.put_written_line.Goals as goal

pub returns : goal.returns
returns c = search (rules, line_lent)
