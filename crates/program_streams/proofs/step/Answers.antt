-- The bytes that the read gave follow those that wait; where what follows fails, those that wait stay. Assumes nothing.
use Rattle.std.proofs.Common.{take, drop}
use Rattle.std.proofs.lemmas.Result.{IfOk-weaker}
use Rattle.program_streams.proofs.Inputs.{given}
use Rattle.program_streams.specs.declared.Held.{Held}
use Rattle.program_streams.proofs.step.Goals as goal

pub returns-clause-ok : goal.returns-clause-ok
returns-clause-ok g c =
    let f = c.in_ok-got.ensures in
    let e = given f.follow in
    IfOk-weaker c.take_in.result _ _
    (λ (to : Held) k. (take c.in_ok-got.got (drop c.args.held.have c.read_more.new.buf), f.taken, rw (e.0, ← e.1) k)) c.take_in.ensures.ok
