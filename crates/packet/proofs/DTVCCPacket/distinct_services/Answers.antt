-- Where no limit is broken the ones of the set are as many as the services. Assumes nothing.
use mathlib.Core.Path.{◌∙◌}
use Rattle.caption.proofs.Outcomes.{given_valid}
use Rattle.model.specs.Services.{distinct_services}
use Rattle.packet.proofs.Measures.{asked_is, ones_are}
use Rattle.packet.proofs.DTVCCPacket.distinct_services.Goals as goal

pub returns : goal.returns
returns c = asked_is _ distinct_services _ (given_valid _ _ _ c.in_ok-check.ensures) (c.how_many.ensures ∙ ones_are _ (given_valid _ _ _ c.in_ok-check.ensures))
