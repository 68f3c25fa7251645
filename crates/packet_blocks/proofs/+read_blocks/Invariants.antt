-- The bytes that are left fall with each block. Assumes nothing.
use Prim.Native.Nat.{◌-◌}
use lib.ListN.{length}
use Rattle.packet_blocks.proofs.+read_blocks.Given as goal

abbrev pub decreases-read_blocks : goal.decreases-read_blocks
decreases-read_blocks g l = length l.data.now - l.at
