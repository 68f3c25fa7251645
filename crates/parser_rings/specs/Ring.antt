-- The ring of waiting slots: 32 places, going round. Assumes nothing.
use Rattle.std.specs.Prelude.{List, [], ◌∷◌, Bool, cond, ◌&&◌, ℕ, zero, suc, ◌+◌, ◌%◌, length, get_or, set, take, replicate, eqb, leb}
use Rattle.model.specs.Packet.{reads}
use Rattle.slots.specs.Slot.{no_slot, slot_with}
use Rattle.slots.specs.declared.Slot.{Slot}

-- n slots of the ring, from a place on
unfoldable pub ring_from : ℕ → ℕ → List Slot → List Slot
ring_from at zero l = []
ring_from at (suc n) l = get_or l (at % 32) no_slot ∷ ring_from (at + 1) n l

-- the bytes of a slot
abbrev pub slot_run : Slot → List ℕ
slot_run s = take s.len s.bytes

-- whether a slot has no more bytes than places, and reads as a packet
unfoldable pub slot_fine : Slot → Bool
slot_fine s = leb s.len 128 && reads (slot_run s)

-- the slots of runs laid one behind the other from a place on, going round; zeros stand behind the bytes of each
unfoldable pub set_round : ℕ → List Slot → List (List ℕ) → List Slot
set_round at l [] = l
set_round at l (g ∷ gs) = set_round (at + 1) (set l (at % 32) (slot_with (length g) g)) gs

-- the slots that runs come to where n slots wait: cleared ones where none does
unfoldable pub cleared_for : ℕ → List Slot → List Slot
cleared_for n l = cond (eqb n 0) (replicate 32 (slot_with 0 [])) l

-- runs laid behind the n slots that wait from f on; without a run all stays
unfoldable pub with_runs : ℕ → ℕ → List Slot → List (List ℕ) → List Slot
with_runs f n l [] = l
with_runs f n l (g ∷ gs) = set_round (f + n) (cleared_for n l) (g ∷ gs)
