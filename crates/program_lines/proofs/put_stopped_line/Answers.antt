-- The parts of the line, laid one behind another. Assumes nothing.
use Rattle.program_lines.proofs.Pieces.{laid_stopped}
use borrow.Author.Rules.{rules}
use Rattle.program_lines.proofs.put_stopped_line.Goals as goal

pub returns : goal.returns
returns c = search (rules, laid_stopped)
