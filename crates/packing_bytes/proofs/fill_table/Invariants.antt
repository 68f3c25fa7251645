-- From the last piece to the first, the table tells the holders of those that were met. Assumes nothing.
use Prim.Native.Nat.{◌≤◌}
use lib.ListN.{length, drop}
use Rattle.model_packing.specs.Pieces.{pieces_of}
use Rattle.packing_bytes.specs.Table.{TellsHolders}
use Rattle.packing_bytes.proofs.fill_table.Given as goal

abbrev pub invariant-loop-place : goal.invariant-loop-place
invariant-loop-place l =
    (l.place ≤ length (pieces_of l.pieces))
    × TellsHolders l.services l.lengths l.table l.place (drop l.place (pieces_of l.pieces))

abbrev pub decreases-loop-place : goal.decreases-loop-place
decreases-loop-place l = l.place
