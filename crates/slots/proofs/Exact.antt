-- The walk over a slot passes exactly the written packets. Assumes nothing.
use mathlib.Core.Path.{◌≡◌, refl, sym, ap, ◌∙◌}
use mathlib.Core.Bool.{Bool, true, false}
use mathlib.Core.List.{List, ◌++◌}
use lib.ListN.{drop, take-append-drop}
use Rattle.model.specs.Packet.{written_packet}
use Rattle.slots.specs.Slot.{written_length, written_bytes, read_slot, written_slot}
use Rattle.slots.specs.Walk.{walked_slot}
use Rattle.slots.proofs.Written.{carried, carried_written, carried_valid}
use Rattle.slots.proofs.Encodes.{written_passes}
use Rattle.slots.proofs.Decodes.{walked}
use Rattle.slots.specs.declared.Slot.{Slot}

-- two tests that follow from each other are one
either : (a b : Bool) → (a ≡ true → b ≡ true) → (b ≡ true → a ≡ true) → a ≡ b
either true b f g = sym (f refl)
either false true f g = g refl
either false false f g = refl

-- a written packet passes
passes : (s : Slot) → written_slot s ≡ true → walked_slot s ≡ true
unfolding written_bytes
passes s e =
    let v = carried_valid s e in
    let d : List _ = drop (written_length s) s.bytes in
    let b : s.bytes ≡ written_packet (read_slot s) ++ d = sym (take-append-drop (written_length s) s.bytes) ∙ ap (λ l. l ++ d) (carried_written s e) in
    rw (← b, (carried s e).measured) at (written_passes (read_slot s) v.0 v.1 d)

-- exactly these
pub walked_written : (s : Slot) → walked_slot s ≡ written_slot s
walked_written s = either (walked_slot s) (written_slot s) (walked s) (passes s)
