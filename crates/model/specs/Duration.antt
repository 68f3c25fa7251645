-- How long what is queued takes to leave: rules D of docs/RULES.md. Assumes nothing.
use Rattle.std.specs.Prelude.{List, [], ◌∷◌, ℕ, ◌+◌, ◌-◌, ◌*◌, ◌/◌, ◌^◌, length}
use Rattle.model.specs.Packet.{Packet, packet_length}
use Rattle.model.specs.Mux.{Mux}

-- a / b, rounded up [D1] [D2]
unfoldable pub ceil : ℕ → ℕ → ℕ
ceil a b = (a + (b - 1)) / b

-- of so many pairs [D1]
unfoldable pub pairs_duration : ℕ → ℕ
pairs_duration n = ceil (n * (1001 * 10 ^ 6)) 60000

-- the lengths of packets, summed [D3]
unfoldable pub lengths_of : List Packet → ℕ
lengths_of [] = 0
lengths_of (p ∷ ps) = packet_length p + lengths_of ps

-- and three for each triple left of the packet being sent [D3]
unfoldable pub bytes_left : Mux → ℕ
bytes_left s = lengths_of s.packets + 3 * length s.sending

-- of so many bytes [D2]
unfoldable pub bytes_duration : ℕ → ℕ
bytes_duration bytes = ceil ((bytes + 1) / 2 * (2002 * 10 ^ 6)) 1200000

-- of field 1's queue
abbrev pub field1_duration : Mux → ℕ
field1_duration s = pairs_duration (length s.queue1)

-- of field 2's queue
abbrev pub field2_duration : Mux → ℕ
field2_duration s = pairs_duration (length s.queue2)

-- of the packets queued and the packet being sent
abbrev pub packet_duration : Mux → ℕ
packet_duration s = bytes_duration (bytes_left s)
