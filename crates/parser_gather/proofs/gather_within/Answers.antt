-- `parser_gather::gather_within` meets its contract: what the whole frame leaves stays what is left of it leaves behind the slots that are there, by
-- whether a triple delivers; then the frame's end. Assumes nothing.
use mathlib.Core.Path.{◌∙◌}
use native.Mathlib.Omega.{arith}
use borrow.Author.Rules.{rules}
use Rattle.parser_gather.proofs.Gathers.{turn_delivers, turn_keeps, end_delivers, end_keeps}
use Rattle.parser_gather.proofs.gather_within.Goals as goal
use Rattle.parser_gather.proofs.gather_within.Goals.{then-closes, else-closes, then-completes, else-completes}

pub loop-i-preserved : goal.loop-i-preserved
loop-i-preserved c =
    let asked = c.closes.ensures in
    let more = c.loop-i-test.true in
    let v = c.loop-i.invariant.3 in (
      omega arith,
      elim c.if-closes.branch [ then-closes w ↦ omega arith | else-closes w ↦ omega arith ],
      search rules,
      record {
        held = _;
        holds = c.put_triple-s.ensures.by_index v.held v.holds;
        rest =
            elim c.if-closes.branch [
              | then-closes w ↦ turn_delivers _ _ _ _ _ v.held _ _ v.holds _ _ more c.triple_at-w.result c.triple_at-w.ensures v.rest _ asked _ _ w.if-closes.true (w.slots-is ∙ w.keep.ensures) w.n-is
              | else-closes w ↦ turn_keeps _ _ _ _ _ v.held _ _ v.holds _ _ more c.triple_at-w.result c.triple_at-w.ensures v.rest _ asked _ _ w.if-closes.false w.slots-is w.n-is
            ];
      },
    )

pub returns : goal.returns
returns c =
    let asked = c.completes.ensures in
    let v = c.loop-i.invariant.3 in
    let done = c.loop-i-test.false in
    let left = c.keep_left-left.ensures in
    elim c.if-completes.branch [
      | then-completes w ↦ end_delivers _ _ _ _ _ v.held _ _ v.holds _ _ done v.rest _ asked _ left.value _ left.pending_after _ _ w.if-completes.true (w.slots-is ∙ w.keep-then-completes.ensures) w.n-is
      | else-completes w ↦ end_keeps _ _ _ _ _ v.held _ _ v.holds _ _ done v.rest _ asked _ left.value _ left.pending_after _ _ w.if-completes.false w.slots-is w.n-is
    ]
