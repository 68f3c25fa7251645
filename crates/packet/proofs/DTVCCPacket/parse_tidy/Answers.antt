-- It is the reader with the tidy rules. Assumes nothing.
use borrow.Author.Rules.{rules}
use Rattle.model.specs.Packet.{read_tidy}
use Rattle.model.proofs.Limits.{tidy_within}
use Rattle.packet.proofs.Replies.{read_gives, read_refuses}
use Rattle.packet.proofs.DTVCCPacket.parse_tidy.Goals as goal

pub returns-in_err-read_into-clause-answer : goal.returns-in_err-read_into-clause-answer
unfolding read_tidy
returns-in_err-read_into-clause-answer c = rw (read_refuses _ _ c.in_err-read_into.ensures.read) (search rules)

pub returns-in_err-read_into-clause-places : goal.returns-in_err-read_into-clause-places
unfolding read_tidy
returns-in_err-read_into-clause-places c = rw (read_refuses _ _ c.in_err-read_into.ensures.read) (search rules)

pub returns-clause-answer : goal.returns-clause-answer
unfolding read_tidy
returns-clause-answer c = (read_gives _ _ _ (tidy_within _) c.in_ok-read_into.ensures.read c.filled_from.ensures).0

pub returns-clause-places : goal.returns-clause-places
unfolding read_tidy
returns-clause-places c = (read_gives _ _ _ (tidy_within _) c.in_ok-read_into.ensures.read c.filled_from.ensures).1
