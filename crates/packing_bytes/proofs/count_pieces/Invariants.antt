-- The pieces that are counted and those that are left are all pieces. Assumes nothing.
use mathlib.Core.Path.{◌≡◌}
use Prim.Native.Nat.{◌+◌, ◌-◌, ◌≤◌}
use lib.ListN.{length, drop}
use Rattle.model_packing.specs.Pieces.{pieces_of}
use Rattle.packing_bytes.proofs.count_pieces.Given as goal

abbrev pub invariant-loop-o : goal.invariant-loop-o
invariant-loop-o l =
    (l.o ≤ length l.pieces)
    × (l.count ≤ l.most + 1)
    × (length (pieces_of l.pieces) ≡ l.count + length (pieces_of (drop l.o l.pieces)))

abbrev pub decreases-loop-o : goal.decreases-loop-o
decreases-loop-o l = length l.pieces - l.o
