-- Where no limit is broken the set is that of the services. Assumes nothing.
use Rattle.caption.proofs.Outcomes.{given_valid}
use Rattle.packet.proofs.Holds.{services_held}
use Rattle.model.specs.Services.{services_of}
use Rattle.packet.proofs.Measures.{asked_is}
use Rattle.packet.proofs.DTVCCPacket.service_set.Goals as goal

pub returns : goal.returns
returns c = asked_is _ services_of _ (given_valid _ _ _ c.in_ok-check.ensures) (services_held _ (given_valid _ _ _ c.in_ok-check.ensures))
