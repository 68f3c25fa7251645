-- What is taken out of what waits. No public contract of `parser` reaches this file. Assumes nothing.
use Rattle.std.specs.Prelude.{List, ◌++◌, Bool, cond, not, ◌&&◌, ℕ, ◌+◌, ◌%◌, get_or, take, drop, eqb, leb}
use Rattle.caption.specs.declared.Cea608.{Cea608}
use Rattle.caption.specs.declared.Cea608.TheVariants.{Field1, Field2}
use Rattle.model.specs.Said.{mapped, after}
use Rattle.model.specs.Packet.{read_packet}
use Rattle.packet.specs.Packet.{laid, blank}
use Rattle.packet.specs.declared.DTVCCPacket.{DTVCCPacket}
use Rattle.slots.specs.Slot.{no_slot}
use Rattle.slots.specs.declared.Slot.{Slot}
use Rattle.parser_rings.specs.Ring.{slot_run, slot_fine}

-- the first n elements are those that stood k further, and the others stay
unfoldable pub slid : {A : Type 0} → ℕ → ℕ → List A → List A
slid k n l = take n (drop k l) ++ drop n l

-- the pair at the head of the list's places
unfoldable pub first_pair : List ℕ → Cea608
first_pair l = cond (eqb (get_or l 0 0) 0) (Field1 (get_or l 1 0) (get_or l 2 0)) (Field2 (get_or l 1 0) (get_or l 2 0))

-- a list of n pairs has one, and has places for them
unfoldable pub has_pair : ℕ → Bool
has_pair n = not (eqb n 0) && leb n 31

-- the packet that bytes are read as
unfoldable pub packet_at : List ℕ → DTVCCPacket
packet_at g = after blank (mapped laid (read_packet g))

-- the slot at the ring's head, and its bytes
abbrev pub head_slot : ℕ → List Slot → Slot
head_slot f l = get_or l f no_slot

abbrev pub head_run : ℕ → List Slot → List ℕ
head_run f l = slot_run (head_slot f l)

-- a ring of n slots has one, its head is one of its places, and the slot there reads as a packet
unfoldable pub has_packet : ℕ → ℕ → List Slot → Bool
has_packet f n l = not (eqb n 0) && (leb f 31 && slot_fine (head_slot f l))

-- the place of the ring's head once the slot there is taken; a ring that is emptied starts again at its first place
unfoldable pub next_head : ℕ → ℕ → ℕ
next_head first packets = cond (eqb packets 1) 0 ((first + 1) % 32)
