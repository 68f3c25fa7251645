-- From `start` on the codes from the place on stand that is counted to; since there is a code at `place`, one begins at every place before it. Assumes nothing.
use Prim.Native.Nat.{◌<◌}
use lib.ListN.{length}
use Rattle.codes_cuts.specs.Cuts.{cut_of, Reached}
use Rattle.codes_cuts.proofs.start_of.Given as goal

abbrev pub invariant-loop : goal.invariant-loop
invariant-loop l = (l.place < length (cut_of l.payload)) × Reached l.payload l.counter l.start
