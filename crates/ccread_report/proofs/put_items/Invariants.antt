-- The invariant `Going`: what is left to print, printed from here on, is the whole. Assumes nothing.
use Prim.Native.Nat.{◌≤◌}
use Rattle.ccread_report.proofs.Going.{Going}
use Rattle.ccread_report.proofs.put_items.Given as goal

abbrev pub invariant-loop-n : goal.invariant-loop-n
invariant-loop-n l = (l.n ≤ 63) × Going l.initial.parser l.initial.out l.at l.out l.parser l.laid l.n

abbrev pub decreases-loop-n : goal.decreases-loop-n
decreases-loop-n l = l.n
