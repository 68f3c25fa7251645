-- The bytes are asked about first and a refusal of them is the answer; else the limits decide. Assumes nothing.
use mathlib.Core.Path.{◌≡◌}
use borrow.Author.Rules.{rules}
use Rattle.caption.specs.Answers.{outcome, said_refusal}
use Rattle.model.specs.Said.{refused}
use Rattle.packing.proofs.Checks.{bytes_refused, limits_kept, limits_broken}
use Rattle.packing.proofs.check.Goals as goal

pub returns-in_err-check_bytes : goal.returns-in_err-check_bytes
returns-in_err-check_bytes c =
    let same : outcome c.from_residual.result ≡ refused (said_refusal c.in_err-check_bytes.field-0.0) = search rules in
    rw same (bytes_refused _ _ _ _ c.in_err-check_bytes.ensures)

pub returns-then-within_limits : goal.returns-then-within_limits
returns-then-within_limits c = limits_kept _ _ _ c.in_ok-check_bytes.ensures _ c.within_limits.ensures c.if-within_limits.true

pub returns : goal.returns
returns c = limits_broken _ _ _ c.in_ok-check_bytes.ensures _ c.within_limits.ensures c.if-within_limits.false
