-- `parser_gather::gather_within` meets its contract: what the whole frame leaves stays what is left of it leaves behind the slots that are there, by
-- whether a triple delivers; then the frame's end. Assumes nothing.
use Prim.Native.Nat.{◌+◌, ◌*◌, ◌-◌, ◌≤◌}
use lib.ListN.{length, take}
use Rattle.model.specs.Demux.{gather, ended}
use Rattle.parser_triples.specs.Walk.{seen_from}
use Rattle.parser_gather.specs.Gather.{Sized, left_of}
use Rattle.parser_gather.proofs.Gathers.{Going}
use Rattle.parser_gather.proofs.gather_within.Given as goal

abbrev pub invariant-loop-i : goal.invariant-loop-i
invariant-loop-i l =
    (3 * l.i ≤ length l.frame + 2)
    × (l.n ≤ 32 + l.i)
    × Sized l.s
    × Going (left_of l.first l.initial.n l.initial.slots l.pending (ended (gather (take l.len l.pending) (seen_from 0 l.frame)))) l.first l.pending l.n l.slots l.s l.bytes (seen_from l.i l.frame)

abbrev pub decreases-loop-i : goal.decreases-loop-i
decreases-loop-i l = length l.frame + 3 - 3 * l.i
