-- What is laid, and the lines of the pieces that are left, are the whole at each turn. Assumes nothing.
use mathlib.Core.Path.{◌≡◌}
use Prim.Native.Nat.{◌-◌, ◌≤◌}
use lib.ListN.{length}
use Rattle.ccpack_report.proofs.Lays.{Listing}
use Rattle.ccpack_report.proofs.put_pieces.Given as goal

abbrev pub invariant-loop-i : goal.invariant-loop-i
invariant-loop-i l =
    (l.i ≤ length l.numbers) × (l.count ≤ l.i) × (l.laid ≤ length l.out) × (length l.out ≡ length l.initial.out) × Listing l.numbers l.initial.out l.at l.out l.i l.count l.laid

abbrev pub decreases-loop-i : goal.decreases-loop-i
decreases-loop-i l = l.n - l.i
