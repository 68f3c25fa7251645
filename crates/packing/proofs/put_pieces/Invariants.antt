-- Between two runs, what is put and what is left to put make the whole output (`Going`). Assumes nothing.
use Rattle.packing.proofs.Going.{Going}
use Rattle.packing.proofs.put_pieces.Given as goal

abbrev pub invariant-loop-i : goal.invariant-loop-i
invariant-loop-i l = Going l.services l.lengths l.initial.out l.i l.at l.out
