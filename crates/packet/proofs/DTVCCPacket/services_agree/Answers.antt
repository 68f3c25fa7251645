-- What is worked out of the numbers is what `agrees` asks for. Assumes nothing.
use Rattle.packet.specs.Replies.{agrees}
use Rattle.packet.proofs.DTVCCPacket.services_agree.Goals as goal

pub returns : goal.returns
unfolding agrees
returns c = rw c.services_to.ensures
