-- What is left of the bytes decides. Assumes nothing.
use mathlib.Core.Path.{◌≡◌}
use Prim.Native.Nat.{◌-◌, ◌*◌, ◌≤◌, ◌<◌}
use lib.ListN.{length}
use Rattle.model.specs.Lists.{every}
use Rattle.model_packing.specs.Pieces.{bytes_of}
use Rattle.packing_bytes.specs.Table.{has_holder}
use Rattle.packing_bytes.proofs.Walks.{bytes_left}
use Rattle.packing_bytes.proofs.all_held.Given as goal

abbrev pub invariant-loop-run : goal.invariant-loop-run
invariant-loop-run l =
    (l.run ≤ length l.services)
    × (l.byte < 256)
    × (every (has_holder l.table) (bytes_of l.services l.lengths) ≡ every (has_holder l.table) (bytes_left l.services l.lengths l.run l.byte))

abbrev pub decreases-loop-run : goal.decreases-loop-run
decreases-loop-run l = 256 * (length l.services - l.run) - l.byte
