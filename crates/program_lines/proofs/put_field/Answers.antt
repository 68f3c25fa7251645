-- The word and the two bytes, laid one behind another. Assumes nothing.
use Rattle.program_lines.proofs.Pieces.{laid_pair_bytes}
use borrow.Author.Rules.{rules}
use Rattle.program_lines.proofs.put_field.Goals as goal

pub returns : goal.returns
returns c = search (rules, laid_pair_bytes)
