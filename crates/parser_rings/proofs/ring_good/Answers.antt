-- `parser_rings::ring_good` meets its contract: one law of `Slots` for each way out. Assumes nothing.
use Rattle.std.proofs.Common.{◌∙◌, sym, arith}
use Rattle.parser_rings.proofs.Slots.{ring_first, ring_count, ring_start, slots_done, slots_again, slots_bad}
use Rattle.parser_rings.proofs.ring_good.Goals as goal

pub returns-then-first-ge-MOST_WAITING : goal.returns-then-first-ge-MOST_WAITING
returns-then-first-ge-MOST_WAITING c = ring_first _ _ _ c.if-first-ge-MOST_WAITING.true

pub returns-then-count-gt-MOST_WAITING : goal.returns-then-count-gt-MOST_WAITING
returns-then-count-gt-MOST_WAITING c = ring_count _ _ _ c.if-first-ge-MOST_WAITING.false c.if-count-gt-MOST_WAITING.true

pub loop-i-init : goal.loop-i-init
loop-i-init c =
    let f = c.if-first-ge-MOST_WAITING.false in
    let n = c.if-count-gt-MOST_WAITING.false in
    (f, n, omega arith, ring_start _ _ _ f n)

pub returns-then-not-slot_good : goal.returns-then-not-slot_good
returns-then-not-slot_good c =
    slots_bad _ _ _ _ c.loop-i-test.true (sym c.if-not-slot_good.true ∙ c.slot_good.ensures) ∙ c.loop-i.invariant.3

pub loop-i-preserved : goal.loop-i-preserved
loop-i-preserved c =
    let v = c.loop-i.invariant in
    (v.0, v.1, omega arith, slots_again _ _ _ _ c.loop-i-test.true (sym c.if-not-slot_good.false ∙ c.slot_good.ensures) ∙ v.3)

pub returns : goal.returns
returns c = sym (slots_done _ _ _ _ (omega arith)) ∙ c.loop-i.invariant.3
