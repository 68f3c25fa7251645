-- The end goes on by fives, as long as five numbers are left. Assumes nothing.
use mathlib.Core.Path.{◌≡◌}
use Prim.Native.Nat.{◌-◌, ◌%◌, ◌≤◌}
use lib.ListN.{length}
use Rattle.packing_limits.proofs.pieces_end.Given as goal

abbrev pub invariant-loop-end : goal.invariant-loop-end
invariant-loop-end l = (l.end % 5 ≡ 0) × (l.end ≤ length l.pieces)

abbrev pub decreases-loop-end : goal.decreases-loop-end
decreases-loop-end l = length l.pieces - l.end
