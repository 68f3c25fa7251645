-- The length that the room is what is left of. Assumes nothing.
use Prim.Native.Nat.{◌-◌}
use Rattle.model.specs.Packet.{packet_length}
use Rattle.packet.proofs.Measures.{asked_then, length_most}
use Rattle.packet.proofs.DTVCCPacket.free_space.Goals as goal

pub overflow_sub-result : goal.overflow_sub-result
overflow_sub-result c = length_most _ _ c.in_ok-length.ensures

pub returns : goal.returns
returns c = asked_then _ packet_length (λ n. 128 - n) _ c.in_ok-length.ensures
