-- What is told of all payloads is what is told of those from place `i` on, which begin at `at`. Assumes nothing.
use mathlib.Core.Path.{◌≡◌, refl}
use native.Mathlib.Omega.{arith}
use borrow.Author.Rules.{rules}
use Rattle.caption.specs.Answers.{outcome, said_refusal}
use Rattle.model.specs.Said.{refused}
use Rattle.codes.proofs.Runs.{all_checked, one_cut, one_not}
use Rattle.codes.proofs.check_payloads.Goals as goal

pub returns-in_err-check_run : goal.returns-in_err-check_run
returns-in_err-check_run c =
    let same : outcome c.from_residual.result ≡ refused (said_refusal c.in_err-check_run.field-0.0) = search rules in
    rw same (one_not c.args.count c.args.sizes.now c.args.payload.now c.loop-i.i c.loop-i.at c.loop-i.invariant.3 c.loop-i-test.true _ c.min-end.result refl c.min-end.ensures c.loop-i.invariant.2 _ c.in_err-check_run.ensures)

pub loop-i-preserved : goal.loop-i-preserved
loop-i-preserved c = (
  c.loop-i.invariant.0,
  c.loop-i.invariant.1,
  omega (arith, c.min-end.ensures),
  one_cut c.args.count c.args.sizes.now c.args.payload.now c.loop-i.i c.loop-i.at c.loop-i.invariant.3 c.loop-i-test.true _ c.min-end.result refl c.min-end.ensures c.loop-i.invariant.2 c.in_ok-check_run.ensures,
)

pub returns : goal.returns
returns c = all_checked c.args.count c.args.sizes.now c.args.payload.now c.loop-i.i c.loop-i.at c.loop-i.invariant.3 c.loop-i-test.false
