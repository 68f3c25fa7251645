-- The tests of `push_run_by` in its order; the latest block found in the array is the model's. Assumes nothing.
use mathlib.Core.Path.{refl}
use Prim.Native.Nat.{◌≤◌, ◌<◌}
use native.Mathlib.Omega.{arith}
use borrow.Author.Rules.{rules}
use Rattle.packet_entries.specs.Fields.{Fields, Places, fields}
use Rattle.packet_entries.specs.Extent.{Sized}
use Rattle.packet_entries.proofs.Holds.{within_facts}
use Rattle.packet_entries.proofs.Walks.{extent_sized, extent_invalid}
use Rattle.packet_pushes.proofs.Outcomes.{run_invalid, run_number, run_empty, run_none, run_full, run_at, found_there, same_stores}
use Rattle.packet_pushes.proofs.push_run.Goals as goal
use Rattle.packet_pushes.proofs.push_run.Goals.{In-Some, In-Some-latest, Start}

abbrev P : Start → Fields
P c = fields c.args.seq_no c.args.count c.args.numbers.now c.args.sizes.now c.args.payload.now

places : (c : Start) → Places (P c)
places c = record { numbers = search rules; sizes = search rules; payload = search rules }

-- where the extent is known: the places and their sums
abbrev at : In-Some → Fields
at c = fields c.args.seq_no c.args.count c.args.numbers.now c.args.sizes.now c.args.payload.now

sized : (c : In-Some) → Sized (at c) c.in-Some.extent.length c.in-Some.extent.used
sized c = extent_sized (at c) _ c.extent_of.ensures _ c.in-Some.is

few : (c : In-Some) → c.args.count ≤ 63
few c = (within_facts (at c) (sized c).valid).count

-- where the latest block of the number is known, and that it is one of the packet's
there : (c : In-Some-latest) → c.in-Some-latest.place < c.args.count
there c =
    let p : Fields = fields c.args.seq_no c.args.count c.args.numbers.now c.args.sizes.now c.args.payload.now in
    found_there p _ _ (extent_sized p _ c.extent_of.ensures _ c.in-Some.is) _ _ _ c.latest.ensures c.in-Some-latest.is

pub returns-in_default : goal.returns-in_default
returns-in_default c =
    let s = (goal.at.returns-in_default c).Start in
    run_invalid (P s) (places s) (extent_invalid (P s) _ c.extent_of.ensures c.in_default.is) _ refl _ _ _

pub returns-then-service_no-gt-MOST_NUMBER : goal.returns-then-service_no-gt-MOST_NUMBER
returns-then-service_no-gt-MOST_NUMBER c =
    let w = goal.at.returns-then-service_no-gt-MOST_NUMBER c in
    run_number (at w.In-Some) _ _ (sized w.In-Some) (places w.Start) _ _ _ c.if-service_no-gt-MOST_NUMBER.true _ refl

pub returns-then-code-eq0 : goal.returns-then-code-eq0
returns-then-code-eq0 c =
    let w = goal.at.returns-then-code-eq0 c in
    run_empty (at w.In-Some) _ _ (sized w.In-Some) (places w.Start) _ _ _ c.if-service_no-gt-MOST_NUMBER.false c.if-code-eq0.true _ refl

pub push_new-requires-clause-sized : goal.push_new-requires-clause-sized
push_new-requires-clause-sized c = sized (goal.at.push_new-requires-clause-sized c).In-Some

pub returns-in_default-latest : goal.returns-in_default-latest
returns-in_default-latest c =
    let w = goal.at.returns-in_default-latest c in
    let e = w.In-Some in
    same_stores _ _ _ _ _ (run_none (at e) _ _ (sized e) (places w.Start) _ _ _ c.if-service_no-gt-MOST_NUMBER.false c.if-code-eq0.false _ c.latest.ensures c.in_default-latest.is)
    c.push_new.ensures

pub bounds-sizes-place : goal.bounds-sizes-place
bounds-sizes-place c = omega (arith, there (goal.at.bounds-sizes-place c).In-Some-latest, few (goal.at.bounds-sizes-place c).In-Some)

pub push_new-requires-then-makes_new-clause-sized : goal.push_new-requires-then-makes_new-clause-sized
push_new-requires-then-makes_new-clause-sized c = sized (goal.at.push_new-requires-then-makes_new-clause-sized c).In-Some

pub returns-then-makes_new : goal.returns-then-makes_new
returns-then-makes_new c =
    let w = goal.at.returns-then-makes_new c in
    let e = w.In-Some in
    same_stores _ _ _ _ _
    (run_full (at e) _ _ (sized e) (places w.Start) _ _ _ c.if-service_no-gt-MOST_NUMBER.false c.if-code-eq0.false _ c.latest.ensures _ c.in-Some-latest.is (there w.In-Some-latest) _
    c.block_room-left.ensures _ c.makes_new.ensures c.if-makes_new.true)
    c.push_new-then-makes_new.ensures

pub push_at-requires : goal.push_at-requires
push_at-requires c = record { sized = sized (goal.at.push_at-requires c).In-Some; there = there (goal.at.push_at-requires c).In-Some-latest }

pub returns : goal.returns
returns c =
    let w = goal.at.returns c in
    let e = w.In-Some in
    same_stores _ _ _ _ _
    (run_at (at e) _ _ (sized e) (places w.Start) _ _ _ c.if-service_no-gt-MOST_NUMBER.false c.if-code-eq0.false _ c.latest.ensures _ c.in-Some-latest.is (there w.In-Some-latest) _
    c.block_room-left.ensures _ c.makes_new.ensures c.if-makes_new.false)
    c.push_at.ensures
