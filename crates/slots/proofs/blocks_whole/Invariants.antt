-- `slots::blocks_whole` meets its contract: what is left decides. Assumes nothing.
use mathlib.Core.Path.{◌≡◌}
use Prim.Native.Nat.{◌-◌, ◌≤◌}
use lib.ListN.{length, take, drop}
use Rattle.slots.specs.Walk.{whole_blocks}
use Rattle.slots.proofs.blocks_whole.Given as goal

abbrev pub invariant-loop-at : goal.invariant-loop-at
invariant-loop-at l = (length l.bytes ≡ 128) × (l.at ≤ l.len) × (whole_blocks 0 (drop l.at (take l.len l.bytes)) ≡ whole_blocks 0 (drop 1 (take l.len l.bytes)))

abbrev pub decreases-loop-at : goal.decreases-loop-at
decreases-loop-at l = l.len - l.at
