-- Each refusal where what comes before it has passed; else the frame is laid, and the reader knows the counter. Assumes nothing.
use mathlib.Core.Path.{◌≡◌, refl, sym, ◌∙◌}
use native.Mathlib.Omega.{arith}
use borrow.Author.Rules.{rules}
use Rattle.caption.specs.Answers.{outcome, said_refusal}
use Rattle.model.specs.Said.{refused}
use Rattle.distribution.specs.States.{last_of}
use Rattle.distribution.proofs.Reading.{opens_held, few, captions_there, frame_count, receive_closed, receive_old, receive_short, receive_given}
use Rattle.distribution.proofs.DistributionReader.read.Goals as goal

pub returns-in_err-held : goal.returns-in_err-held
returns-in_err-held c =
    let e = receive_closed (last_of c.args.self.now.last) c.args.packet.now c.args.out.now _ c.in_err-held.ensures in
    let same : outcome c.from_residual.result ≡ refused (said_refusal c.in_err-held.field-0.0) = search rules in
    record { answer = rw (e, same); state = rw e; places = rw e; output = rw e; kept = search rules; unwritten = search rules }

pub returns-then-not-takes : goal.returns-then-not-takes
returns-then-not-takes c =
    let h = opens_held c.in_ok-held.held c.args.packet.now c.in_ok-held.ensures in
    let e = receive_old (last_of c.args.self.now.last) c.args.packet.now c.args.out.now _ h (sym c.takes.ensures ∙ c.if-not-takes.true) in
    record { answer = rw e; state = rw e; places = rw e; output = rw e; kept = refl; unwritten = refl }

pub overflow_mul-len : goal.overflow_mul-len
overflow_mul-len c = omega (arith, few (last_of c.args.self.now.last) c.args.packet.now c.args.out.now _ (opens_held c.in_ok-held.held c.args.packet.now c.in_ok-held.ensures))

pub overflow_add-len : goal.overflow_add-len
overflow_add-len c = omega (arith, few (last_of c.args.self.now.last) c.args.packet.now c.args.out.now _ (opens_held c.in_ok-held.held c.args.packet.now c.in_ok-held.ensures))

pub returns-then-out-len : goal.returns-then-out-len
returns-then-out-len c =
    let h = opens_held c.in_ok-held.held c.args.packet.now c.in_ok-held.ensures in
    let e = receive_short (last_of c.args.self.now.last) c.args.packet.now c.args.out.now _ h (sym c.takes.ensures ∙ c.if-not-takes.false) c.if-out-len.true in
    record { answer = rw e; state = rw e; places = rw e; output = rw e; kept = refl; unwritten = refl }

pub lay_frame-requires-clause-count_bound : goal.lay_frame-requires-clause-count_bound
lay_frame-requires-clause-count_bound c =
    few (last_of c.args.self.now.last) c.args.packet.now c.args.out.now _ (opens_held c.in_ok-held.held c.args.packet.now c.in_ok-held.ensures)

pub lay_frame-requires-clause-count_in_bounds : goal.lay_frame-requires-clause-count_in_bounds
lay_frame-requires-clause-count_in_bounds c =
    captions_there (last_of c.args.self.now.last) c.args.packet.now c.args.out.now _ (opens_held c.in_ok-held.held c.args.packet.now c.in_ok-held.ensures)

pub returns : goal.returns
returns c =
    let h = opens_held c.in_ok-held.held c.args.packet.now c.in_ok-held.ensures in
    let e = receive_given (last_of c.args.self.now.last) c.args.packet.now c.args.out.now _ h (sym c.takes.ensures ∙ c.if-not-takes.false) c.if-out-len.false in
    let n = frame_count (last_of c.args.self.now.last) c.args.packet.now c.args.out.now _ h in
    record { answer = rw (e, n, h.code, h.counter); state = rw e; places = rw (e, h.counter); output = rw e c.lay_frame.ensures; kept = tt; unwritten = tt }
