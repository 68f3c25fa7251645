-- Parts of the test of the slots. No public contract reaches this file. Assumes nothing.
use Rattle.std.specs.Prelude.{Bool, true, cond, ◌&&◌, ℕ, ◌+◌, ◌%◌, eqb, leb}
use Rattle.slots.specs.Slot.{written_slot}
use Rattle.slots.specs.declared.Slot.{Slot}

-- a slot is a written packet, if it is taken
abbrev pub written_if : Bool → Slot → Bool
written_if taken s = cond taken (written_slot s) true

-- an even number of a packet's bytes has left, and no more than there are
unfoldable pub sends_whole : ℕ → ℕ → Bool
sends_whole len sent = leb len 128 && (eqb (sent % 2) 0 && leb sent (len + len % 2))
