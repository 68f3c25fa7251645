-- Every frame lies within the bytes, and the draws are counted.
use Rattle.std.proofs.Common.{◌≡◌, ◌-◌, ◌≤◌, length}
use Rattle.read_speed.proofs.read_frames.Given as goal

abbrev pub invariant-loop-n : goal.invariant-loop-n
invariant-loop-n l = (length l.frames ≡ 95000) × (l.i ≤ 1000000) × (l.n ≤ 64000001)

abbrev pub decreases-loop-n : goal.decreases-loop-n
decreases-loop-n l = 64000001 - l.n
