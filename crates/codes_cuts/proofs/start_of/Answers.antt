-- Since there is a code at `place`, one begins at every place before it. Assumes nothing.
use Prim.Native.Nat.{◌+◌, ◌≤◌}
use native.Mathlib.Omega.{arith}
use lib.ListN.{length}
use Rattle.codes_cuts.proofs.Cuts.{code_within, reached_code, reached_next}
use Rattle.codes_cuts.proofs.start_of.Goals as goal
use Rattle.codes_cuts.proofs.start_of.Goals.{In-Ok}

-- the code that was met is within the payload
within : (c : In-Ok) → (1 ≤ c.in-Ok.n) × (c.loop.start + c.in-Ok.n ≤ length c.args.payload.now)
within c = code_within _ _ _ c.in-Ok.ensures

pub returns-in_default : goal.returns-in_default
returns-in_default c = absurd (reached_code _ _ _ c.loop.invariant.1 (omega (arith, c.loop.invariant.0)) _ c.in_default.ensures)

pub overflow_add-start : goal.overflow_add-start
overflow_add-start c = omega (arith, within c)

pub loop-preserved : goal.loop-preserved
loop-preserved c = (c.loop.invariant.0, reached_next _ _ _ c.loop.invariant.1 (omega (arith, c.loop.invariant.0)) _ c.in-Ok.ensures)
