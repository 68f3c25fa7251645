-- `writer_sending::bytes_left` meets its contract: with what is left of the queue the sum stays the whole sum. Assumes nothing.
use mathlib.Core.Path.{◌≡◌}
use Prim.Native.Nat.{◌-◌, min}
use lib.ListN.{length}
use Rattle.writer_sending.proofs.Queues.{Summing}
use Rattle.writer_sending.proofs.bytes_left.Given as goal

abbrev pub invariant-loop-i : goal.invariant-loop-i
invariant-loop-i l = (n : length l.packets ≡ 16) → Summing l.packets l.count n (λ s. min s.len 128) l.initial.sum l.sum l.i

abbrev pub decreases-loop-i : goal.decreases-loop-i
decreases-loop-i l = l.queued - l.i
