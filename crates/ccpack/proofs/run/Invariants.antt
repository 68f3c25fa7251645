use Rattle.ccpack.proofs.Inputs.{Stays}
use Rattle.ccpack.proofs.run.Given as goal

abbrev pub invariant-loop-turns : goal.invariant-loop-turns
invariant-loop-turns l = Stays l.buf l.s

abbrev pub decreases-loop-turns : goal.decreases-loop-turns
decreases-loop-turns l = l.turns
