-- `writer_sending::move_down` meets its contract: what is still to be moved stands where it stood. Assumes nothing.
use mathlib.Core.Path.{◌≡◌}
use Prim.Native.Nat.{◌-◌, ◌≤◌}
use lib.ListN.{length}
use Rattle.writer_sending.proofs.Queues.{Moving}
use Rattle.writer_sending.proofs.move_down.Given as goal

abbrev pub invariant-loop-i : goal.invariant-loop-i
invariant-loop-i l = (l.begun ≤ l.i) × ((n : length l.initial.packets ≡ 16) → Moving l.initial.packets l.count n l.begun l.i l.packets)

abbrev pub decreases-loop-i : goal.decreases-loop-i
decreases-loop-i l = l.end - l.i
