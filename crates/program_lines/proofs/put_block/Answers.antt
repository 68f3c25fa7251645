-- The number, the colon and the payload, laid one behind another. Assumes nothing.
use Rattle.program_lines.proofs.Pieces.{laid_block}
use borrow.Author.Rules.{rules}
use Rattle.program_lines.proofs.put_block.Goals as goal

pub returns : goal.returns
returns c = search (rules, laid_block)
