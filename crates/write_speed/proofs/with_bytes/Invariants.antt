-- No byte is read past the longest frame.
use Rattle.std.proofs.Common.{◌-◌, ◌≤◌}
use Rattle.write_speed.proofs.with_bytes.Given as goal

abbrev pub invariant-loop-i : goal.invariant-loop-i
invariant-loop-i l = l.i ≤ 95

abbrev pub decreases-loop-i : goal.decreases-loop-i
decreases-loop-i l = 95 - l.i
