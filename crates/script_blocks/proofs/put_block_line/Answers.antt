-- The payload is the part of the places that the length takes; each part stands behind the one before it. Assumes nothing.
use Rattle.script_blocks.proofs.Lines.{block_parts}
use borrow.Author.Rules.{rules}
use Rattle.script_blocks.proofs.put_block_line.Goals as goal

pub returns : goal.returns
returns c = search (rules, block_parts)
