-- What is left of the test and of the filling decides. Assumes nothing.
use mathlib.Core.Path.{◌≡◌}
use Prim.Native.Nat.{◌+◌}
use Rattle.packing_bytes.specs.Table.{free, filled}
use Rattle.packing_bytes.proofs.Cells.{free_left, filled_left}
use Rattle.packing_bytes.proofs.fill_cells.Given as goal

abbrev pub invariant-loop-at : goal.invariant-loop-at
invariant-loop-at l =
    (free l.size l.from l.value l.initial.table ≡ free_left (l.from + l.size) l.at l.value l.table)
    × (filled l.size l.from l.value l.initial.table ≡ filled_left (l.from + l.size) l.at l.value l.table)
