-- Each part stands behind the one before it. Assumes nothing.
use Rattle.script_packets.proofs.Lines.{held_parts}
use borrow.Author.Rules.{rules}
use Rattle.script_packets.proofs.put_held_line.Goals as goal

pub returns : goal.returns
returns c = search (rules, held_parts)
