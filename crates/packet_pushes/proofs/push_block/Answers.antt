-- A block without payload is refused; any other that breaks no limit is pushed as a run of its own. Assumes nothing.
use native.Mathlib.Nat.{sub-zero}
use mathlib.Core.Path.{◌≡◌, refl, sym, ◌∙◌}
use mathlib.Core.Bool.{true}
use Prim.Native.Nat.{◌≤◌}
use native.Mathlib.Omega.{arith}
use lib.ListN.{length}
use Rattle.service.specs.Service.{valid_service}
use Rattle.service.proofs.Services.{valid_len}
use Rattle.packet_entries.specs.Fields.{Fields, Places, fields}
use Rattle.packet_entries.specs.Extent.{Sized}
use Rattle.packet_entries.proofs.Walks.{extent_sized, extent_invalid}
use Rattle.packet_pushes.proofs.Outcomes.{block_invalid, service_invalid, block_empty, block_new, block_run, same_stores}
use borrow.Author.Rules.{rules}
use Rattle.packet_pushes.proofs.push_block.Goals as goal
use Rattle.packet_pushes.proofs.push_block.Goals.{Else-not-is_valid, In-Some, Start}

abbrev P : Start → Fields
P c = fields c.args.seq_no c.args.count c.args.numbers.now c.args.sizes.now c.args.payload.now

places : (c : Start) → Places (P c)
places c = record { numbers = search rules; sizes = search rules; payload = search rules }

-- where the extent is known: the places and their sums
abbrev at : In-Some → Fields
at c = fields c.args.seq_no c.args.count c.args.numbers.now c.args.sizes.now c.args.payload.now

sized : (c : In-Some) → Sized (at c) c.in-Some.extent.length c.in-Some.extent.used
sized c = extent_sized (at c) _ c.extent_of.ensures _ c.in-Some.is

full : (c : Start) → length c.args.service.now.payload ≡ 31
full c = search rules

-- the block breaks no limit past the second test
valid : (c : Else-not-is_valid) → valid_service c.args.service.now ≡ true
valid c = sym c.is_valid.ensures ∙ c.if-not-is_valid.false

pub returns-in_default : goal.returns-in_default
returns-in_default c =
    let s = (goal.at.returns-in_default c).Start in
    block_invalid (P s) (places s) (extent_invalid (P s) _ c.extent_of.ensures c.in_default.is) _ refl _

pub returns-then-not-is_valid : goal.returns-then-not-is_valid
returns-then-not-is_valid c =
    let w = goal.at.returns-then-not-is_valid c in
    service_invalid (at w.In-Some) _ _ (sized w.In-Some) (places w.Start) _ (sym c.is_valid.ensures ∙ c.if-not-is_valid.true) _ refl

pub returns-then-service-eq0 : goal.returns-then-service-eq0
returns-then-service-eq0 c =
    let w = goal.at.returns-then-service-eq0 c in
    block_empty (at w.In-Some) _ _ (sized w.In-Some) (places w.Start) _ (valid w.Else-not-is_valid) (full w.Start) c.if-service-eq0.true _ refl

pub slice_bounds-push_new-end : goal.slice_bounds-push_new-end
slice_bounds-push_new-end c =
    let w = goal.at.slice_bounds-push_new-end c in
    let p : c.args.service.now.len ≤ length c.args.service.now.payload = omega (arith, valid_len c.args.service.now (valid w.Else-not-is_valid), full w.Start) in
    p

pub push_new-requires : goal.push_new-requires
push_new-requires c =
    let w = goal.at.push_new-requires c in
    let r = block_run (at w.In-Some) _ _ (sized w.In-Some) c.args.service.now (valid w.Else-not-is_valid) (full w.Start) c.if-service-eq0.false in
    record { sized = sized w.In-Some; some = rw sub-zero r.0; known = r.1 }

pub returns : goal.returns
returns c =
    let w = goal.at.returns c in
    same_stores _ _ _ _ _ (block_new (at w.In-Some) _ _ (sized w.In-Some) (places w.Start) c.args.service.now (valid w.Else-not-is_valid) (full w.Start) c.if-service-eq0.false)
    (rw sub-zero at c.push_new.ensures)
