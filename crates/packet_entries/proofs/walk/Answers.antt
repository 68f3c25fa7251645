-- The invariant `Going`: what was found so far and what the rest gives make the whole answer. Assumes nothing.
use mathlib.Core.Path.{refl}
use native.Mathlib.Omega.{arith}
use Rattle.packet_entries.proofs.Walks.{going_first, going_bad, going_next, going_last, going_room}
use Rattle.packet_entries.proofs.walk.Goals as goal

pub loop-i-init : goal.loop-i-init
loop-i-init c = going_first _ _ _ c.requires

pub returns-then-not-good_entry : goal.returns-then-not-good_entry
returns-then-not-good_entry c =
    going_bad _ _ _ _ _ _ c.loop-i.invariant _ c.loop-i-test.true c.good_entry.ensures c.if-not-good_entry.true

pub overflow_add-length : goal.overflow_add-length
overflow_add-length c =
    let good = c.if-not-good_entry.false in
    let room = going_room _ _ _ _ _ _ c.loop-i.invariant _ c.block_length-length.result c.loop-i-test.true c.good_entry.ensures good c.block_length-length.ensures in
    omega (arith, room)

pub loop-i-preserved : goal.loop-i-preserved
loop-i-preserved c =
    going_next _ _ _ _ _ _ c.loop-i.invariant _ _ _ c.loop-i-test.true c.good_entry.ensures
    c.if-not-good_entry.false c.block_length-length.ensures refl

pub returns : goal.returns
returns c = going_last _ _ _ _ _ _ c.loop-i.invariant c.loop-i-test.false
