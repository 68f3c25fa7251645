-- The invariant `Going`: what was found so far and what the rest gives make the whole answer. Assumes nothing.
use Rattle.packet_entries.proofs.Walks.{Going}
use Rattle.packet_entries.proofs.walk.Given as goal

abbrev pub invariant-loop-i : goal.invariant-loop-i
invariant-loop-i l = Going l.count l.numbers l.sizes l.length l.used l.i
