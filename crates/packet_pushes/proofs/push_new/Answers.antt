-- The tests of `push_new` in its order; a run that fits is stored as a block. Assumes nothing.
use mathlib.Core.Path.{refl}
use Prim.Native.Nat.{◌≤◌}
use native.Mathlib.Omega.{arith}
use borrow.Author.Rules.{rules}
use Rattle.packet_entries.specs.Fields.{Fields, Places, fields}
use Rattle.packet_entries.proofs.Measures.{length_small}
use Rattle.packet_pushes.proofs.Outcomes.{new_null, new_long, new_over, new_fits, new_room}
use Rattle.packet_pushes.proofs.push_new.Goals as goal
use Rattle.packet_pushes.proofs.push_new.Goals.{Else-room-needed, Start}

abbrev P : Start → Fields
P c = fields c.args.seq_no c.args.count c.args.numbers.now c.args.sizes.now c.args.payload.now

places : (c : Start) → Places (P c)
places c = record { numbers = search rules; sizes = search rules; payload = search rules }

-- where the run fits there are fewer than 63 blocks
few : (c : Else-room-needed) → c.args.count ≤ 62
few c =
    new_room (fields c.args.seq_no c.args.count c.args.numbers.now c.args.sizes.now c.args.payload.now) _ _ c.requires.sized c.args.service_no _ _ c.requires.some c.if-n-gt-MOST_PAYLOAD.false c.block_length-needed.ensures c.if-room-needed.false

pub returns-then-service_no-eq0 : goal.returns-then-service_no-eq0
returns-then-service_no-eq0 c =
    let s = (goal.at.returns-then-service_no-eq0 c).Start in new_null (P s) _ _ c.requires.sized (places s) _ _ c.if-service_no-eq0.true _ refl

pub returns-then-n-gt-MOST_PAYLOAD : goal.returns-then-n-gt-MOST_PAYLOAD
returns-then-n-gt-MOST_PAYLOAD c =
    let s = (goal.at.returns-then-n-gt-MOST_PAYLOAD c).Start in new_long (P s) _ _ c.requires.sized (places s) _ _ c.if-service_no-eq0.false c.if-n-gt-MOST_PAYLOAD.true _ refl

pub overflow_sub-room : goal.overflow_sub-room
overflow_sub-room c = length_small (P (goal.at.overflow_sub-room c).Start) _ _ c.requires.sized

pub returns-then-room-needed : goal.returns-then-room-needed
returns-then-room-needed c =
    let s = (goal.at.returns-then-room-needed c).Start in
    new_over (P s) _ _ c.requires.sized (places s) _ _ c.if-service_no-eq0.false c.requires.some c.if-n-gt-MOST_PAYLOAD.false _ c.block_length-needed.ensures c.if-room-needed.true _ refl

pub put_entry-requires : goal.put_entry-requires
put_entry-requires c = (few (goal.at.put_entry-requires c).Else-room-needed, c.if-n-gt-MOST_PAYLOAD.false)

pub overflow_add-result : goal.overflow_add-result
overflow_add-result c = omega (arith, few (goal.at.overflow_add-result c).Else-room-needed)

pub returns : goal.returns
returns c =
    let s = (goal.at.returns c).Start in
    new_fits (P s) _ _ c.requires.sized (places s) _ _ c.if-service_no-eq0.false c.requires.some c.if-n-gt-MOST_PAYLOAD.false _ c.block_length-needed.ensures c.if-room-needed.false _ c.put_entry.ensures
