-- At a place before the last the code stands where `start_of` says. Assumes nothing.
use Prim.Native.Nat.{◌+◌, ◌≤◌, ◌<◌}
use native.Mathlib.Nat.{add-sub_cancel_left}
use native.Mathlib.Omega.{arith}
use lib.ListN.{length}
use Rattle.codes_cuts.specs.Cuts.{cut_of}
use Rattle.codes_cuts.proofs.Cuts.{cut_length, code_within, reached_code, reached_is}
use Rattle.codes_cuts.proofs.code_at.Goals as goal
use Rattle.codes_cuts.proofs.code_at.Goals.{Else-count-place, In-Ok-code_length_at}

-- there is a code at the place
there : (c : Else-count-place) → c.args.place < length (cut_of c.args.payload.now)
there c = omega (arith, cut_length _ _ c.in-Ok.ensures, c.if-count-place.false)

-- and it is within the payload
fits : (c : In-Ok-code_length_at) → (1 ≤ c.in-Ok-code_length_at.n) × (c.start_of-at.result + c.in-Ok-code_length_at.n ≤ length c.args.payload.now)
fits c = code_within _ _ _ c.in-Ok-code_length_at.ensures

pub start_of-at-requires : goal.start_of-at-requires
start_of-at-requires c = there c

pub returns-in_default-code_length_at : goal.returns-in_default-code_length_at
returns-in_default-code_length_at c =
    absurd (reached_code _ _ _ c.start_of-at.ensures (there (goal.at.returns-in_default-code_length_at c).Else-count-place) _ c.in_default-code_length_at.ensures)

pub overflow_add-end : goal.overflow_add-end
overflow_add-end c = omega (arith, fits c)

pub slice_bounds-result-end-2 : goal.slice_bounds-result-end-2
slice_bounds-result-end-2 c = (fits c).1

pub returns : goal.returns
returns c = rw add-sub_cancel_left (reached_is _ _ _ c.start_of-at.ensures (there (goal.at.returns c).Else-count-place) _ c.in-Ok-code_length_at.ensures)
