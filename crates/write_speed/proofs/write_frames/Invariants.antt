-- The pairs pushed are counted.
use Rattle.std.proofs.Common.{◌-◌, ◌≤◌}
use Rattle.write_speed.proofs.write_frames.Given as goal

abbrev pub invariant-loop-i : goal.invariant-loop-i
invariant-loop-i l = l.i ≤ l.pairs

abbrev pub decreases-loop-i : goal.decreases-loop-i
decreases-loop-i l = l.pairs - l.i
