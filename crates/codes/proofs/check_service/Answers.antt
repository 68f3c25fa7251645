-- The payload of a block that breaks no limit is checked: it has at most 31 bytes. Assumes nothing.
use mathlib.Core.Path.{◌≡◌, sym, ◌∙◌}
use Prim.Native.Nat.{◌≤◌}
use native.Mathlib.Omega.{arith}
use borrow.Author.Rules.{rules}
use lib.ListN.{length}
use Rattle.service.proofs.Services.{valid_len}
use Rattle.codes.proofs.check_service.Goals as goal
use Rattle.codes.proofs.check_service.Goals.{Start, Else-not-is_valid}

-- it has its 31 places
places : (c : Start) → length c.args.service.now.payload ≡ 31
places c = search rules

-- past the first test the block breaks no limit, and its payload has at most 31 bytes
small : (c : Else-not-is_valid) → c.args.service.now.len ≤ 31
small c = valid_len c.args.service.now (sym c.is_valid.ensures ∙ c.if-not-is_valid.false)

pub slice_bounds-check_run-end : goal.slice_bounds-check_run-end
slice_bounds-check_run-end c = omega (arith, small (goal.at.slice_bounds-check_run-end c).Else-not-is_valid, places (goal.at.slice_bounds-check_run-end c).Start)
