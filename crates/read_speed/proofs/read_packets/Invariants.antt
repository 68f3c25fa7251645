-- The part read lies within the array, and the rounds end.
use Rattle.std.proofs.Common.{◌-◌, ◌≤◌}
use Rattle.read_speed.proofs.read_packets.Given as goal

abbrev pub invariant-loop-i : goal.invariant-loop-i
invariant-loop-i l = (l.n ≤ 95000) × (l.i ≤ 1000000)

abbrev pub decreases-loop-i : goal.decreases-loop-i
decreases-loop-i l = 1000000 - l.i
