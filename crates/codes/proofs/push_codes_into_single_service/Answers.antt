-- A run that is codes without remainder is pushed as without the profile, and any other is stopped. Assumes nothing.
use mathlib.Core.Path.{◌≡◌}
use mathlib.Core.Bool.{false}
use borrow.Author.Rules.{rules}
use Rattle.caption.specs.Answers.{outcome, said_refusal}
use Rattle.model.specs.Said.{refused}
use Rattle.packet.specs.Packet.{packet_of, valid_dtvcc}
use Rattle.codes.proofs.Runs.{pushed_on, pushed_not}
use Rattle.codes.proofs.push_codes_into_single_service.Goals as goal

pub returns-in_err-screen : goal.returns-in_err-screen
returns-in_err-screen c =
    let a = c.args in
    let e = pushed_not false (valid_dtvcc a.packet.now) a.service_no a.run.now (packet_of a.packet.now) _ c.in_err-screen.ensures in
    let same : outcome c.from_residual.result ≡ refused (said_refusal c.in_err-screen.field-0.0) = search rules in
    record { answer = rw (e, same); state = rw e; places = rw e; kept = search rules }

pub returns : goal.returns
returns c =
    let a = c.args in
    let e = pushed_on false (valid_dtvcc a.packet.now) a.service_no a.run.now (packet_of a.packet.now) c.in_ok-screen.ensures in
    record { answer = rw e c.push_code_into_single_service.ensures.answer; state = rw e c.push_code_into_single_service.ensures.state; places = rw e c.push_code_into_single_service.ensures.places; kept = c.push_code_into_single_service.ensures.kept }
