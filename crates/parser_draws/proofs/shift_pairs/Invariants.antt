-- `parser_draws::shift_pairs` meets its contract: what was moved so far is the list slid so far. Assumes nothing.
use mathlib.Core.Path.{◌≡◌}
use Prim.Native.Nat.{◌≤◌}
use Rattle.parser_draws.specs.Take.{slid}
use Rattle.parser_draws.proofs.shift_pairs.Given as goal

abbrev pub invariant-loop-i : goal.invariant-loop-i
invariant-loop-i l = (l.i ≤ l.n) × (l.pairs ≡ slid 3 l.i l.initial.pairs)
