-- The parts of the line, laid one behind another. Assumes nothing.
use Rattle.program_lines.proofs.Pieces.{laid_end}
use borrow.Author.Rules.{rules}
use Rattle.program_lines.proofs.put_end_line.Goals as goal

pub returns : goal.returns
returns c = search (rules, laid_end)
