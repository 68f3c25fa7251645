-- A packet pushed, by the slots that are taken: [W10]. No public contract of `writer` reaches this file: in a state within the limits it is
-- proved to be the push of the model. Assumes nothing.
use Rattle.std.specs.Prelude.{cond, List, [], ◌∷◌, ℕ, eqb, leb}
use Rattle.model.specs.Said.{Outcome, gave, refused, full, checked}
use Rattle.model.specs.Packet.{packet_length}
use Rattle.model.specs.Mux.{most_packets}
use Rattle.packet.specs.Packet.{packet_of, valid_dtvcc}
use Rattle.packet.specs.declared.DTVCCPacket.{DTVCCPacket}
use Rattle.slots.specs.Slot.{slot_of}
use Rattle.slots.specs.declared.Slot.{Slot}

-- the slots that a packet takes where n are taken: 11 first, then an empty packet, which takes none, then 10
unfoldable pub placing : ℕ → DTVCCPacket → Outcome (List Slot)
placing n d =
    checked (valid_dtvcc d)
    (cond (eqb (packet_length (packet_of d)) 0) (gave [])
    (cond (leb most_packets n) (refused full) (gave (slot_of (packet_of d) ∷ []))))
