-- A slot: the bytes that a packet is written in [P8]. Assumes nothing.
use Rattle.std.specs.Prelude.{Bool, ◌&&◌, List, [], ℕ, ◌+◌, ◌%◌, eqb, take, replicate}
use Rattle.std.proofs.lemmas.List.Edits.{sets}
use Rattle.model.specs.Lists.{same}
use Rattle.model.specs.Said.{after}
use Rattle.model.specs.Packet.{Packet, no_packet, packet_length, read_packet, written_packet}
use Rattle.model.specs.Mux.{storable}
use Rattle.slots.specs.declared.Slot.{Slot}

-- what stands past an array's end
abbrev pub no_slot : Slot
no_slot = record { len = 0; bytes = [] }

-- a slot of a length with these bytes, and zeros behind them
abbrev pub slot_with : ℕ → List ℕ → Slot
slot_with len bytes = record { len = len; bytes = sets (replicate 128 0) 0 bytes }

-- a packet in a slot: its length, and the bytes that it is written in, over zeros
abbrev pub slot_of : Packet → Slot
slot_of p = slot_with (packet_length p) (written_packet p)

-- so many bytes are written, one 0x00 behind an odd length [P8]
abbrev pub written_length : Slot → ℕ
written_length s = s.len + s.len % 2

-- those bytes
unfoldable pub written_bytes : Slot → List ℕ
written_bytes s = take (written_length s) s.bytes

-- the packet that the bytes read as
unfoldable pub read_slot : Slot → Packet
read_slot s = after no_packet (read_packet (written_bytes s))

-- a slot that is the written form of the packet that it reads as, one that may be queued
unfoldable pub written_slot : Slot → Bool
written_slot s =
    storable (read_slot s)
    && (eqb (packet_length (read_slot s)) s.len && same (written_packet (read_slot s)) (written_bytes s))
