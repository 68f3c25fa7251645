-- `writer_frames::put_fillers` meets its contract: what is stored, with what is left, stays what is to be stored. Assumes nothing.
use Prim.Native.Nat.{◌-◌}
use Rattle.writer_frames.proofs.Stores.{Filling}
use Rattle.writer_frames.proofs.put_fillers.Given as goal

abbrev pub invariant-loop-at : goal.invariant-loop-at
invariant-loop-at l = Filling l.initial.bytes l.bytes l.initial.at l.at l.end l.n

abbrev pub decreases-loop-at : goal.decreases-loop-at
decreases-loop-at l = l.end - l.at
