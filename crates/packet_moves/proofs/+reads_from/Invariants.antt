-- The bytes that are left fall with each block; each way out is one law about whether the blocks from there on read. Assumes nothing.
use Prim.Native.Nat.{◌-◌}
use lib.ListN.{length}
use Rattle.packet_moves.proofs.+reads_from.Given as goal

abbrev pub decreases-reads_from : goal.decreases-reads_from
decreases-reads_from l = length l.data.now - l.at
