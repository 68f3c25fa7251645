-- The parts of the line, laid one behind another. Assumes nothing.
use Rattle.program_lines.proofs.Pieces.{laid_block_line}
use borrow.Author.Rules.{rules}
use Rattle.program_lines.proofs.put_block_line.Goals as goal

pub returns : goal.returns
returns c = search (rules, laid_block_line)
