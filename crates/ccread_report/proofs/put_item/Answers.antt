-- One law of `Lays` for each kind of item. Assumes nothing.
use Rattle.ccread_report.proofs.Lays.{laid_pair_item, laid_packet_item, laid_no_item}
use borrow.Author.Rules.{rules}
use Rattle.ccread_report.proofs.put_item.Goals as goal

pub returns-in-Pair : goal.returns-in-Pair
returns-in-Pair c = search (rules, laid_pair_item)

pub returns-in-Packet : goal.returns-in-Packet
returns-in-Packet c = search (rules, laid_packet_item)

pub returns-in-Nothing : goal.returns-in-Nothing
returns-in-Nothing c = search (rules, laid_no_item)
