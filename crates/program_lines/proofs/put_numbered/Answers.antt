-- The word and the number, laid one behind the other. Assumes nothing.
use Rattle.program_text.proofs.Layings.{laid_append}
use borrow.Author.Rules.{rules}
use Rattle.program_lines.proofs.put_numbered.Goals as goal

pub returns : goal.returns
returns c = search (rules, laid_append)
