-- What is left of the bytes decides, with the last one of each service before them. Assumes nothing.
use mathlib.Core.Path.{◌≡◌}
use Prim.Native.Nat.{◌-◌, ◌*◌, ◌≤◌, ◌<◌}
use lib.ListN.{length, replicate}
use Rattle.model_packing.specs.Pieces.{bytes_of}
use Rattle.packing_bytes.specs.Table.{follow}
use Rattle.packing_bytes.proofs.Walks.{bytes_left}
use Rattle.packing_bytes.proofs.all_follow.Given as goal

abbrev pub invariant-loop-run : goal.invariant-loop-run
invariant-loop-run l =
    (l.run ≤ length l.services)
    × (l.byte < 256)
    × (follow l.services l.pieces l.table (replicate 256 0) (bytes_of l.services l.lengths) ≡ follow l.services l.pieces l.table l.last (bytes_left l.services l.lengths l.run l.byte))

abbrev pub decreases-loop-run : goal.decreases-loop-run
decreases-loop-run l = 256 * (length l.services - l.run) - l.byte
