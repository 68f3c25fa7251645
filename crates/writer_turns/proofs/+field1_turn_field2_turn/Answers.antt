-- `writer_turns::field1_turn` and `writer_turns::field2_turn` meet their contracts: one law of `Steps` for each way out, and the turns left fall.
-- Assumes nothing.
use Rattle.writer_turns.proofs.Steps.{none_left1, none_left2, pair1, empty1, padded1, nothing1, pair2, padded2, nothing2}
use Rattle.writer_turns.proofs.+field1_turn_field2_turn.Goals as goal

pub field1_turn-returns-then-left-eq0 : goal.field1_turn-returns-then-left-eq0
field1_turn-returns-then-left-eq0 t c = rw c.course_end.ensures (none_left1 c.args.pad _ _ _ _ _ c.if-left-eq0.true)

pub field1_turn-returns-then-queue1-gt1 : goal.field1_turn-returns-then-queue1-gt1
field1_turn-returns-then-queue1-gt1 t c =
    pair1 c.args.pad _ _ _ _ _ c.if-left-eq0.false c.requires c.if-queue1-gt1.true c.put.ensures c.field2_turn.ensures

pub field1_turn-returns-then-queue2-gt1 : goal.field1_turn-returns-then-queue2-gt1
field1_turn-returns-then-queue2-gt1 t c =
    empty1 c.args.pad _ _ _ _ _ c.if-left-eq0.false c.requires c.if-queue1-gt1.false c.if-queue2-gt1.true c.put-then-queue2-gt1.ensures c.field2_turn-then-queue2-gt1.ensures

pub field1_turn-returns-then-pad : goal.field1_turn-returns-then-pad
field1_turn-returns-then-pad t c =
    padded1 c.args.pad _ _ _ _ _ c.if-left-eq0.false c.requires c.if-queue1-gt1.false c.if-queue2-gt1.false c.if-pad.true c.put-then-pad.ensures c.field2_turn-then-pad.ensures

pub field1_turn-returns : goal.field1_turn-returns
field1_turn-returns t c =
    nothing1 c.args.pad _ _ _ _ _ c.if-left-eq0.false c.requires c.if-queue1-gt1.false c.if-queue2-gt1.false c.if-pad.false c.field2_turn-2.ensures

pub field2_turn-returns-then-left-eq0 : goal.field2_turn-returns-then-left-eq0
field2_turn-returns-then-left-eq0 t c = rw c.course_end.ensures (none_left2 c.args.pad _ _ _ _ _ c.if-left-eq0.true)

pub field2_turn-returns-then-queue2-gt1 : goal.field2_turn-returns-then-queue2-gt1
field2_turn-returns-then-queue2-gt1 t c =
    pair2 c.args.pad _ _ _ _ _ c.if-left-eq0.false c.requires c.if-queue2-gt1.true c.put.ensures c.field1_turn.ensures

pub field2_turn-returns-then-pad : goal.field2_turn-returns-then-pad
field2_turn-returns-then-pad t c =
    padded2 c.args.pad _ _ _ _ _ c.if-left-eq0.false c.requires c.if-queue2-gt1.false c.if-pad.true c.put-then-pad.ensures c.field1_turn-then-pad.ensures

pub field2_turn-returns : goal.field2_turn-returns
field2_turn-returns t c =
    nothing2 c.args.pad _ _ _ _ _ c.if-left-eq0.false c.requires c.if-queue2-gt1.false c.if-pad.false c.field1_turn-2.ensures
