-- What the functions of this crate test. No public contract of `parser` reaches this file. Assumes nothing.
use Rattle.std.specs.Prelude.{List, Bool, ◌&&◌, ℕ, leb}
use Rattle.model.specs.Lists.{every}
use Rattle.slots.specs.declared.Slot.{Slot}
use Rattle.parser_rings.specs.Ring.{ring_from, slot_fine}

-- [S4] at most 32 packets: n slots from place f on
unfoldable pub ring_fine : ℕ → ℕ → List Slot → Bool
ring_fine f n l = leb f 31 && (leb n 32 && every slot_fine (ring_from f n l))
