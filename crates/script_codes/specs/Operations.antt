-- The operations of a script that cut payloads into codes: what each does, and their rows. Assumes nothing.
use Rattle.std.specs.Prelude.{List, ◌∷◌, ℕ}
use Rattle.service.specs.declared.Service.{Service}
use Rattle.packet.specs.declared.DTVCCPacket.{DTVCCPacket}
use Rattle.script_answers.specs.Steps.{Effect, stays}
use Rattle.script_answers.specs.Rows.{Row, row, exactly, all_of_them}
use Rattle.script_packets.specs.Packets.{packet_rows}
use Rattle.script_codes.specs.Lines.{cut_line, counted_line}

-- bytes cut into codes
abbrev pub tells_codes : List ℕ → DTVCCPacket → Effect DTVCCPacket
tells_codes bytes p = stays p (cut_line bytes)

-- every block of the packet cut into codes
abbrev pub tells_counts : DTVCCPacket → Effect DTVCCPacket
tells_counts p = stays p (counted_line p)

-- both leave the packet as it is; behind them are those on the packet
unfoldable pub codes_rows : Service → DTVCCPacket → List (Row DTVCCPacket)
codes_rows s p =
    row "g" all_of_them (λ a. tells_codes a p)
    ∷ row "G" (exactly 0) (λ a. tells_counts p)
    ∷ packet_rows s p
