-- The walk stops at the end of the arrays, whatever the packet says.
use Rattle.std.proofs.Common.{◌-◌, ◌≤◌}
use Rattle.read_speed.proofs.with_blocks.Given as goal

abbrev pub invariant-loop-i : goal.invariant-loop-i
invariant-loop-i l = l.i ≤ 63

abbrev pub decreases-loop-i : goal.decreases-loop-i
decreases-loop-i l = 63 - l.i
