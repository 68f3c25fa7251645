-- What is told of all payloads is what is told of those from place `i` on, which begin at `at`. Assumes nothing.
use mathlib.Core.Path.{◌≡◌}
use Prim.Native.Nat.{◌-◌, ◌≤◌}
use lib.ListN.{length, drop}
use Rattle.codes.proofs.Runs.{checked_from}
use Rattle.codes.proofs.check_payloads.Given as goal

abbrev pub invariant-loop-i : goal.invariant-loop-i
invariant-loop-i l =
    (l.count ≤ 63) × (length l.payload ≡ 127) × (l.at ≤ length l.payload) × (checked_from l.count l.sizes l.payload ≡ checked_from (l.count - l.i) (drop l.i l.sizes) (drop l.at l.payload))
