-- The word is that of the pair's field. Assumes nothing.
use Rattle.program_lines.proofs.Pieces.{laid_field1, laid_field2}
use borrow.Author.Rules.{rules}
use Rattle.program_lines.proofs.put_pair.Goals as goal

pub returns-in-Field1 : goal.returns-in-Field1
returns-in-Field1 c = search (rules, laid_field1)

pub returns-in-Field2 : goal.returns-in-Field2
returns-in-Field2 c = search (rules, laid_field2)
