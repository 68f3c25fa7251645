-- The tests of `push_at` in its order; a run that fits extends the block. Assumes nothing.
use mathlib.Core.Path.{refl}
use Prim.Native.Nat.{◌<◌}
use native.Mathlib.Omega.{arith}
use borrow.Author.Rules.{rules}
use Rattle.packet_entries.specs.Fields.{Fields, Places, fields}
use Rattle.packet_entries.proofs.Holds.{within_facts}
use Rattle.packet_entries.proofs.Measures.{length_small}
use Rattle.packet_pushes.proofs.Outcomes.{at_over, at_full, at_fits, at_room}
use Rattle.packet_pushes.proofs.push_at.Goals as goal
use Rattle.packet_pushes.proofs.push_at.Goals.{Start}

abbrev P : Start → Fields
P c = fields c.args.seq_no c.args.count c.args.numbers.now c.args.sizes.now c.args.payload.now

places : (c : Start) → Places (P c)
places c = record { numbers = search rules; sizes = search rules; payload = search rules }

inside : (c : Start) → c.args.place < 63
inside c = omega (arith, (within_facts (P c) c.requires.sized.valid).count, c.requires.there)

pub overflow_sub-room : goal.overflow_sub-room
overflow_sub-room c = length_small (P (goal.at.overflow_sub-room c).Start) _ _ c.requires.sized

pub returns-then-room-n : goal.returns-then-room-n
returns-then-room-n c =
    let s = (goal.at.returns-then-room-n c).Start in at_over (P s) _ _ c.requires.sized (places s) _ c.requires.there _ c.if-room-n.true _ refl

pub bounds-sizes-place : goal.bounds-sizes-place
bounds-sizes-place c = inside (goal.at.bounds-sizes-place c).Start

pub returns-then-left-n : goal.returns-then-left-n
returns-then-left-n c =
    let s = (goal.at.returns-then-left-n c).Start in
    at_full (P s) _ _ c.requires.sized (places s) _ c.requires.there _ c.if-room-n.false _ c.block_room-left.ensures c.if-left-n.true _ refl

pub extend-requires : goal.extend-requires
extend-requires c =
    at_room (P (goal.at.extend-requires c).Start) _ _ c.requires.sized _ _ _ c.requires.there c.if-room-n.false c.block_room-left.ensures c.if-left-n.false

pub returns : goal.returns
returns c =
    let s = (goal.at.returns c).Start in
    at_fits (P s) _ _ c.requires.sized (places s) _ c.requires.there _ c.if-room-n.false _ c.block_room-left.ensures c.if-left-n.false _ _ c.extend.ensures
