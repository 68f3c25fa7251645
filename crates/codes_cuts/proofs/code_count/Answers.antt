-- What is told of the whole payload is what is told of the bytes from `at` on, with `count` codes before them. Assumes nothing.
use mathlib.Core.Path.{◌≡◌, ◌∙◌}
use Prim.Native.Nat.{◌+◌, ◌≤◌}
use native.Mathlib.Omega.{arith}
use borrow.Author.Rules.{rules}
use lib.ListN.{length}
use Rattle.caption.specs.Answers.{outcome, said_refusal}
use Rattle.model.specs.Said.{refused}
use Rattle.codes_cuts.proofs.Cuts.{counted_all, counted_next, counted_not, code_within}
use Rattle.codes_cuts.proofs.code_count.Goals as goal
use Rattle.codes_cuts.proofs.code_count.Goals.{In_ok-at}

-- the code that was met is within the payload
fits : (c : In_ok-at) → (1 ≤ c.in_ok-at.field-0) × (c.loop-at.at + c.in_ok-at.field-0 ≤ length c.args.payload.now)
fits c = code_within _ _ _ c.in_ok-at.ensures

pub returns-in_err-at : goal.returns-in_err-at
returns-in_err-at c =
    let same : outcome c.from_residual.result ≡ refused (said_refusal c.in_err-at.field-0.0) = search rules in
    same ∙ counted_not _ _ _ c.loop-at.invariant.2 _ c.in_err-at.ensures c.loop-at-test.true

pub overflow_add-at : goal.overflow_add-at
overflow_add-at c = omega (arith, fits c)

pub loop-at-smaller : goal.loop-at-smaller
loop-at-smaller c = omega (arith, fits c)

pub loop-at-preserved : goal.loop-at-preserved
loop-at-preserved c = ((fits c).1, omega (arith, fits c), counted_next _ _ _ c.loop-at.invariant.2 _ c.in_ok-at.ensures)

pub returns : goal.returns
returns c = counted_all _ _ _ c.loop-at.invariant.2 c.loop-at-test.false
