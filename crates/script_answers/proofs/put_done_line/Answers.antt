-- The answer, and the end of the line behind it. Assumes nothing.
use Rattle.script_answers.proofs.Parts.{line_answer}
use borrow.Author.Rules.{rules}
use Rattle.script_answers.proofs.put_done_line.Goals as goal

pub returns : goal.returns
returns c = search (rules, line_answer)
