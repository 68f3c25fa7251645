-- Where no limit is broken the count is the number of blocks. Assumes nothing.
use Rattle.caption.proofs.Outcomes.{given_valid}
use lib.ListN.{length}
use Rattle.model.specs.Packet.{Packet}
use Rattle.packet.proofs.Measures.{asked_is, count_is}
use Rattle.packet.proofs.DTVCCPacket.service_count.Goals as goal

pub returns : goal.returns
returns c = asked_is _ (λ (p : Packet). length p.blocks) _ (given_valid _ _ _ c.in_ok-check.ensures) (count_is c.args.self.now)
