-- The sequence number, and the blocks behind it. Assumes nothing.
use Rattle.script_packets.proofs.Lines.{held}
use borrow.Author.Rules.{rules}
use Rattle.script_packets.proofs.put_packet.Goals as goal

pub returns : goal.returns
returns c = search (rules, held)
