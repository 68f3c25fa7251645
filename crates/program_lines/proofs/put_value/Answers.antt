-- The space and the number, laid one behind the other. Assumes nothing.
use Rattle.program_lines.proofs.Pieces.{laid_value}
use borrow.Author.Rules.{rules}
use Rattle.program_lines.proofs.put_value.Goals as goal

pub returns : goal.returns
returns c = search (rules, laid_value)
