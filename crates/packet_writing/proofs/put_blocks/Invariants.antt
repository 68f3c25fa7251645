-- The invariant `Laying`: what is laid and what the rest will lay are all blocks as written. Assumes nothing.
use mathlib.Core.Path.{◌≡◌}
use lib.ListN.{length}
use Rattle.packet_writing.proofs.Writes.{Laying}
use Rattle.packet_writing.proofs.put_blocks.Given as goal

abbrev pub invariant-loop-i : goal.invariant-loop-i
invariant-loop-i l = Laying l.count l.numbers l.sizes l.payload l.initial.out l.at l.from l.i l.out × (length l.out ≡ length l.initial.out)
