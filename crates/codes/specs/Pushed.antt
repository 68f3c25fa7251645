-- A packet with a run pushed to it under the profile; 11 where it breaks a limit [K7]. Assumes nothing.
use Rattle.std.specs.Prelude.{List, ℕ}
use Rattle.model.specs.Said.{Outcome, checked}
use Rattle.model.specs.Packet.{Packet}
use Rattle.model.specs.Codes.{push_codes, push_codes_single}
use Rattle.packet.specs.declared.DTVCCPacket.{DTVCCPacket}
use Rattle.packet.specs.Packet.{packet_of, valid_dtvcc}

-- in the form that makes a new block where the latest has no room
abbrev pub pushed_codes : ℕ → List ℕ → DTVCCPacket → Outcome Packet
pushed_codes n run p = checked (valid_dtvcc p) (push_codes n run (packet_of p))

-- in the single-service form
abbrev pub pushed_codes_single : ℕ → List ℕ → DTVCCPacket → Outcome Packet
pushed_codes_single n run p = checked (valid_dtvcc p) (push_codes_single n run (packet_of p))
