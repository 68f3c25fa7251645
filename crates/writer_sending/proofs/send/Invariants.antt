-- `writer_sending::send` meets its contract: what will have been sent stays the same from packet to packet. Assumes nothing.
use mathlib.Core.Path.{◌≡◌}
use Prim.Native.Nat.{◌-◌}
use lib.ListN.{length}
use Rattle.writer_sending.proofs.Queues.{Running}
use Rattle.writer_sending.proofs.send.Given as goal

abbrev pub invariant-loop-i : goal.invariant-loop-i
invariant-loop-i l = (n : length l.packets ≡ 16) → Running l.packets l.count n l.initial.s l.s l.initial.m l.m l.i

abbrev pub decreases-loop-i : goal.decreases-loop-i
decreases-loop-i l = l.queued - l.i
