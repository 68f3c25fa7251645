-- The length is told where no limit is broken. Assumes nothing.
use mathlib.Core.Path.{◌∙◌}
use Rattle.model.specs.Packet.{packet_length}
use Rattle.packet.proofs.Measures.{asked_ok}
use Rattle.packet.proofs.DTVCCPacket.is_valid.Goals as goal

pub returns : goal.returns
returns c = c.is_ok.ensures.value ∙ asked_ok _ packet_length _ c.len.ensures
