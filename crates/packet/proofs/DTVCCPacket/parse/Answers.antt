-- It is the reader with the plain rules. Assumes nothing.
use borrow.Author.Rules.{rules}
use Rattle.model.specs.Packet.{read_packet}
use Rattle.model.proofs.Limits.{plain_within}
use Rattle.packet.proofs.Replies.{read_gives, read_refuses}
use Rattle.packet.proofs.DTVCCPacket.parse.Goals as goal

pub returns-in_err-read_into-clause-answer : goal.returns-in_err-read_into-clause-answer
unfolding read_packet
returns-in_err-read_into-clause-answer c = rw (read_refuses _ _ c.in_err-read_into.ensures.read) (search rules)

pub returns-in_err-read_into-clause-places : goal.returns-in_err-read_into-clause-places
unfolding read_packet
returns-in_err-read_into-clause-places c = rw (read_refuses _ _ c.in_err-read_into.ensures.read) (search rules)

pub returns-clause-answer : goal.returns-clause-answer
unfolding read_packet
returns-clause-answer c = (read_gives _ _ _ (plain_within _) c.in_ok-read_into.ensures.read c.filled_from.ensures).0

pub returns-clause-places : goal.returns-clause-places
unfolding read_packet
returns-clause-places c = (read_gives _ _ _ (plain_within _) c.in_ok-read_into.ensures.read c.filled_from.ensures).1
