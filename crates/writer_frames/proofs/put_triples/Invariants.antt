-- `writer_frames::put_triples` meets its contract: what is stored, with what is left, stays what is to be stored. Assumes nothing.
use Prim.Native.Nat.{◌-◌}
use Rattle.writer_frames.proofs.Stores.{Storing}
use Rattle.writer_frames.proofs.put_triples.Given as goal

abbrev pub invariant-loop-i : goal.invariant-loop-i
invariant-loop-i l = Storing l.packet l.initial.bytes l.bytes l.len l.at l.n l.i

abbrev pub decreases-loop-i : goal.decreases-loop-i
decreases-loop-i l = l.n - l.i
