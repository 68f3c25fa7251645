-- The tables tell the pieces from a place on, which goes down by fives. Assumes nothing.
use mathlib.Core.Path.{◌≡◌}
use mathlib.Core.Bool.{true}
use Prim.Native.Nat.{◌%◌, ◌≤◌}
use lib.ListN.{length, drop}
use Rattle.model_packing.specs.Pieces.{pieces_of}
use Rattle.packing_limits.specs.Tables.{all_join, Tables}
use Rattle.packing_limits.proofs.enter_pieces.Given as goal

abbrev pub invariant-loop-at : goal.invariant-loop-at
invariant-loop-at l =
    (l.at % 5 ≡ 0) × (l.at ≤ length l.pieces) × (all_join l.services (pieces_of (drop l.at l.pieces)) ≡ true) × Tables l.services (pieces_of (drop l.at l.pieces)) l.numbers l.sizes

abbrev pub decreases-loop-at : goal.decreases-loop-at
decreases-loop-at l = l.at
