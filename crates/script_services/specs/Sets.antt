-- The services of a packet in the lines and the arguments of a script. Assumes nothing.
use Rattle.std.specs.Prelude.{cond, List, [], ◌∷◌, ◌++◌, ℕ, zero, suc, ◌+◌, ◌*◌, ◌/◌, ◌%◌, ◌^◌, get_or, drop}
use Rattle.model.specs.Said.{Outcome, bad_value}
use Rattle.model.specs.Services.{services_of, distinct_services}
use Rattle.packet.specs.declared.DTVCCPacket.{DTVCCPacket}
use Rattle.packet.specs.Packet.{packet_of, valid_dtvcc, asked}
use Rattle.program_text.specs.Text.{word}
use Rattle.program_lines.specs.Lines.{value_text, run_text}
use Rattle.script_answers.specs.Script.{answer_line}

-- a number in so many bytes, the highest first
unfoldable pub highest_bytes : ℕ → ℕ → List ℕ
highest_bytes zero n = []
highest_bytes (suc k) n = n / 256 ^ k % 256 ∷ highest_bytes k n

-- the number in so many bytes, the highest first
unfoldable pub from_highest : ℕ → List ℕ → ℕ
from_highest zero a = 0
from_highest (suc k) a = get_or a 0 0 * 256 ^ k + from_highest k (drop 1 a)

-- the set in eight bytes
abbrev pub set_in : List ℕ → ℕ
set_in a = from_highest 8 a

-- a set in sixteen hex figures, and how many services it has
unfoldable pub set_line : ℕ → ℕ → List ℕ
set_line set n = word "ok" ++ run_text (highest_bytes 8 set) ++ value_text n ++ word "\n"

-- the services of a packet; 11 where it breaks a limit
unfoldable pub services_line : DTVCCPacket → List ℕ
services_line p = cond (valid_dtvcc p) (set_line (services_of (packet_of p)) (distinct_services (packet_of p))) (answer_line bad_value)

-- the two numbers of that line
abbrev pub counted_set : DTVCCPacket → Outcome (ℕ × ℕ)
counted_set p = asked p (λ q. (services_of q, distinct_services q))
