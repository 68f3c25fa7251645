use Rattle.std.proofs.Common.{◌-◌, length}
use Rattle.program_streams.specs.Driven.{mark_of, HandedOut}
use Rattle.program_streams.specs.Walk.{told_from}
use Rattle.program_streams.proofs.tell_all.Given as goal

-- what is handed out, and behind it what is left to tell, is the whole
abbrev pub invariant-loop-place : goal.invariant-loop-place
invariant-loop-place g l =
    HandedOut (g.W.Write.contents l.initial.output) (g.W.Write.contents l.output)
    (told_from (mark_of g.T.Teller.kinds) g.T.Teller.telling l.ended l.buf l.initial.place l.initial.teller)
    (told_from (mark_of g.T.Teller.kinds) g.T.Teller.telling l.ended l.buf l.place l.teller)

abbrev pub decreases-loop-place : goal.decreases-loop-place
decreases-loop-place g l = length l.buf - l.place.at
