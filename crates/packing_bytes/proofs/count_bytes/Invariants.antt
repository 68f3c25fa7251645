-- The sum so far and the bytes of the runs that are left are all bytes. Assumes nothing.
use mathlib.Core.Path.{◌≡◌}
use Prim.Native.Nat.{◌+◌, ◌*◌, ◌≤◌}
use lib.ListN.{length}
use Rattle.model_packing.specs.Pieces.{bytes_of}
use Rattle.packing_bytes.proofs.Walks.{bytes_left}
use Rattle.packing_bytes.proofs.count_bytes.Given as goal

abbrev pub invariant-loop-run : goal.invariant-loop-run
invariant-loop-run l = (l.sum ≤ 255 * l.run) × (length (bytes_of l.services l.lengths) ≡ l.sum + length (bytes_left l.services l.lengths l.run 0))
