use Rattle.std.proofs.Common.{◌≡◌, true, false}
use Rattle.program_streams.specs.Driven.{mark_of, Driven}
use Rattle.program_streams.proofs.run.Given as goal

-- more is to be read, and what was read so far is told
abbrev pub invariant-loop : goal.invariant-loop
invariant-loop g l =
    (l.held.going ≡ true)
    × Driven (mark_of g.T.Teller.kinds) g.T.Teller.telling false l.initial.teller (g.R.Read.remaining l.initial.input) (g.R.Read.remaining l.input)
    (g.W.Write.contents l.initial.output) (g.W.Write.contents l.output) l.buf l.held l.teller
