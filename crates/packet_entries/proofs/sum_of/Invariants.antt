-- The invariant: the sum so far is that of the sizes passed. Assumes nothing.
use Prim.Native.Nat.{◌≤◌, ◌*◌}
use mathlib.Core.Path.{◌≡◌}
use lib.ListN.{take}
use Rattle.packet_entries.specs.Fields.{sum_of}
use Rattle.packet_entries.proofs.sum_of.Given as goal

abbrev pub invariant-loop-size : goal.invariant-loop-size
invariant-loop-size l = (l.sum ≤ 255 * l.size-index) × (l.sum ≡ sum_of (take l.size-index l.size-items))
