-- The line is that of what the item is. Assumes nothing.
use Rattle.script_parsers.proofs.Lines.{item_none, item_packet, item_pair}
use borrow.Author.Rules.{rules}
use Rattle.script_parsers.proofs.put_item_line.Goals as goal

pub returns-in-Pair : goal.returns-in-Pair
returns-in-Pair c = search (rules, item_pair)

pub returns-in-Packet : goal.returns-in-Packet
returns-in-Packet c = search (rules, item_packet)

pub returns-in-Nothing : goal.returns-in-Nothing
returns-in-Nothing c = search (rules, item_none)
