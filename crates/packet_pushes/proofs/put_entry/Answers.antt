-- One place of each array is set. Assumes nothing.
use Rattle.packet_blocks.proofs.Reading.{entry_laid}
use borrow.Author.Rules.{rules}
use Rattle.packet_pushes.proofs.put_entry.Goals as goal

pub returns : goal.returns
returns c = search (rules, entry_laid)
