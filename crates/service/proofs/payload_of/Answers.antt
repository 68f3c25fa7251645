-- The header says where the payload stands, and all of its bytes are there. Assumes nothing.
use mathlib.Core.Path.{sym}
use native.Mathlib.Nat.{add-sub_cancel_left}
use native.Mathlib.Omega.{arith}
use Rattle.service_headers.proofs.Heads.{Headed}
use Rattle.service_headers.proofs.Headers.{header_known}
use Rattle.service.proofs.Parts.{part_short, part_null, part_some}
use Rattle.service.proofs.payload_of.Goals as goal
use Rattle.service.proofs.payload_of.Goals.{In-Some}

-- what is known of the header
known : (c : In-Some) → Headed c.args.«data».now c.in-Some.header.number c.in-Some.header.start c.in-Some.header.size
known c = header_known c.args.«data».now c.in-Some.header (sym c.in-Some.ensures)

pub returns-in_default : goal.returns-in_default
returns-in_default c = part_short c.args.«data».now (sym c.in_default.ensures)

pub returns-then-header-eq0 : goal.returns-then-header-eq0
returns-then-header-eq0 c = part_null _ _ _ _ (known (goal.at.returns-then-header-eq0 c).In-Some) c.if-header-eq0.true

pub overflow_add-end : goal.overflow_add-end
overflow_add-end c = omega (arith, (known (goal.at.overflow_add-end c).In-Some).fits)

pub slice_bounds-result-end-2 : goal.slice_bounds-result-end-2
slice_bounds-result-end-2 c = (known (goal.at.slice_bounds-result-end-2 c).In-Some).fits

pub returns : goal.returns
returns c = rw add-sub_cancel_left (part_some _ _ _ _ (known (goal.at.returns c).In-Some) c.if-header-eq0.false)
