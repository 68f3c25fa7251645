-- The header says which case of the reader it is, and the payload is laid into blank places. Assumes nothing.
use mathlib.Core.Path.{◌≡◌, sym, ap, ◌∙◌}
use mathlib.Core.List.{List}
use Prim.Native.Nat.{ℕ}
use native.Mathlib.Nat.{add-sub_cancel_left}
use native.Mathlib.Omega.{arith}
use lib.ListN.{take, drop}
use Rattle.caption.specs.Answers.{said_refusal}
use Rattle.model.specs.Said.{refused, gave}
use Rattle.model.specs.Block.{read_block}
use Rattle.service_headers.proofs.Heads.{Headed}
use Rattle.service_headers.proofs.Headers.{header_known, read_cut}
use Rattle.service.specs.Service.{block_of, blank}
use Rattle.service.proofs.Services.{blank_places, over_means, parse_null, parse_some, part_length, laid_as}
use Rattle.service.proofs.Service.parse.Goals as goal
use Rattle.service.proofs.Service.parse.Goals.{In-Some}

-- what is known of the header
known : (c : In-Some) → Headed c.args.«data».now c.in-Some.header.number c.in-Some.header.start c.in-Some.header.size
known c = header_known c.args.«data».now c.in-Some.header (sym c.in-Some.ensures)

-- the payload
abbrev P : In-Some → List ℕ
P c = take c.in-Some.header.size (drop c.in-Some.header.start c.args.«data».now)

-- bytes are missing
short : (c : goal.After-short_at) → read_block c.args.«data».now ≡ refused (said_refusal c.short_at.result)
short c = read_cut 0 c.args.«data».now (sym c.in_default.ensures) ∙ ap refused (sym c.short_at.ensures)

pub returns-in_default-clause-answer : goal.returns-in_default-clause-answer
returns-in_default-clause-answer c = sym (short c)

pub returns-in_default-clause-places : goal.returns-in_default-clause-places
returns-in_default-clause-places c = rw (short c)

pub returns-then-header-eq0-clause-answer : goal.returns-then-header-eq0-clause-answer
returns-then-header-eq0-clause-answer c = sym (parse_null _ _ _ _ (known (goal.at.returns-then-header-eq0-clause-answer c).In-Some) c.if-header-eq0.true)

pub returns-then-header-eq0-clause-places : goal.returns-then-header-eq0-clause-places
returns-then-header-eq0-clause-places c = rw (parse_null _ _ _ _ (known (goal.at.returns-then-header-eq0-clause-places c).In-Some) c.if-header-eq0.true)

pub overflow_add-end : goal.overflow_add-end
overflow_add-end c = omega (arith, (known (goal.at.overflow_add-end c).In-Some).fits)

pub slice_bounds-put_bytes-end-2 : goal.slice_bounds-put_bytes-end-2
slice_bounds-put_bytes-end-2 c = (known (goal.at.slice_bounds-put_bytes-end-2 c).In-Some).fits

pub returns-clause-answer : goal.returns-clause-answer
returns-clause-answer c =
    let w = (goal.at.returns-clause-answer c).In-Some in
    let k = part_length _ _ _ _ (known w) in
    let l = laid_as w.in-Some.header.number w.in-Some.header.size _ (P w) k (c.put_bytes.ensures ∙ rw add-sub_cancel_left) in
    ap gave (ap block_of l ∙ over_means blank _ blank_places (omega (arith, (known w).small, k))) ∙ sym (parse_some _ _ _ _ (known w) c.if-header-eq0.false)

pub returns-clause-places : goal.returns-clause-places
returns-clause-places c =
    let w = (goal.at.returns-clause-places c).In-Some in
    let k = part_length _ _ _ _ (known w) in
    rw (parse_some _ _ _ _ (known w) c.if-header-eq0.false)
    (ap gave (laid_as w.in-Some.header.number w.in-Some.header.size _ (P w) k (c.put_bytes.ensures ∙ rw add-sub_cancel_left)))
