-- The functions that read a packet, whichever way W they go. Assumes nothing.
use denote.RattleType.{RattleType}
use Rattle.caption.proofs.Outcomes.{outcome_injective}
use Rattle.packet_reading.proofs.read_in.Reads as ReadIn
use Rattle.packet_reading.proofs.read.Reads as Read
use Rattle.packet_reading.proofs.read_into.Reads as ReadInto
use Rattle.determined.specs.Determines.{Determines, DeterminesLent}
use Rattle.determined.proofs.Ways.{said, at_once}
use Rattle.determined.proofs.PacketBlocks.{one_reading}

-- `read_in::<W>(bytes, len)`
pub read_in : (W : RattleType) (laws : _) (Way : _) (dict : _) (κs : _) → Determines (ReadIn.Post W laws Way dict κs)
read_in W laws Way dict κs = said outcome_injective

-- `read::<W>(data)`
pub read : (W : RattleType) (laws : _) (Way : _) (dict : _) (κs : _) → Determines (Read.Post W laws Way dict κs)
read W laws Way dict κs = said outcome_injective

-- `read_into::<W>(data, packet)`
pub read_into : (W : RattleType) (laws : _) (Way : _) (dict : _) (κs : _) → DeterminesLent (λ e. e.1.0.now) (ReadInto.Post W laws Way dict κs)
read_into W laws Way dict κs = at_once (λ a r q e g h k. one_reading _ r q _ _ h.0 h.1 k.0 k.1)
