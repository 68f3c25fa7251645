-- What is summed up and what is left make the length of the whole. Assumes nothing.
use mathlib.Core.Path.{◌≡◌}
use Prim.Native.Nat.{◌+◌, ◌≤◌}
use Rattle.packing_limits.specs.Tables.{blocks_at, taken}
use Rattle.packing_limits.proofs.Sums.{rest}
use Rattle.packing_limits.proofs.packet_fits.Given as goal

abbrev pub invariant-loop-block : goal.invariant-loop-block
invariant-loop-block l = (l.length ≤ 128) × (1 + taken (blocks_at l.numbers l.sizes l.packet 0 256) ≡ l.length + rest l.numbers l.sizes l.packet 256 l.block)
