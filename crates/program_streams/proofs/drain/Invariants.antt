use Rattle.std.proofs.Common.{◌≡◌, ◌-◌, length}
use Rattle.program_streams.specs.Driven.{mark_of}
use Rattle.program_streams.proofs.Stands.{Stands}
use Rattle.program_streams.proofs.drain.Given as goal

-- what is laid, and behind it what is left to tell, is the whole
abbrev pub invariant-loop-place : goal.invariant-loop-place
invariant-loop-place g l =
    (length l.out ≡ length l.initial.out)
    × Stands (mark_of g.T.Teller.kinds) g.T.Teller.telling l.ended l.buf l.initial.place l.initial.teller l.out l.place l.teller

abbrev pub decreases-loop-place : goal.decreases-loop-place
decreases-loop-place g l = length l.buf - l.place.at
