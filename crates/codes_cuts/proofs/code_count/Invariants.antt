-- The invariant: what is told of the whole payload is what is told of the bytes from `at` on, with `count` codes before them. Assumes nothing.
use mathlib.Core.Path.{◌≡◌}
use Prim.Native.Nat.{◌-◌, ◌≤◌}
use lib.ListN.{length, drop}
use Rattle.model.specs.Said.{mapped}
use Rattle.model.specs.Codes.{codes_of}
use Rattle.codes_cuts.specs.Cuts.{how_many}
use Rattle.codes_cuts.proofs.Cuts.{counted}
use Rattle.codes_cuts.proofs.code_count.Given as goal

abbrev pub invariant-loop-at : goal.invariant-loop-at
invariant-loop-at l = (l.at ≤ length l.payload) × (l.count ≤ l.at) × (mapped how_many (codes_of l.payload) ≡ counted l.count (codes_of (drop l.at l.payload)))

abbrev pub decreases-loop-at : goal.decreases-loop-at
decreases-loop-at l = length l.payload - l.at
