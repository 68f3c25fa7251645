-- Every test has passed, so the packet that is held in the bytes is told. Assumes nothing.
use mathlib.Core.Path.{sym, ◌∙◌}
use Prim.Native.Nat.{◌-◌, ◌%◌}
use lib.ListN.{length}
use borrow.Author.Tests.{eq-eqb}
use Rattle.model.specs.Distribution.{sum_of, counter_at, sums_up, counters_agree, opened}
use Rattle.model.proofs.Distribution.{passes_ordered, held_count}
use Rattle.distribution_reading.proofs.open.Goals as goal

pub returns : goal.returns
unfolding opened sums_up counters_agree
returns c =
    let s = c.args.packet.now in
    let order = sym c.in_order.ensures ∙ c.if-not-in_order.false in
    simp (sym c.has_mark.ensures ∙ c.if-not-has_mark.false, order, eq-eqb (sum_of s % 256) 0 (sym c.sum_of.ensures ∙ c.if-sum_of-ne0.false), eq-eqb (counter_at 5 s) (counter_at (length s - 3) s) (sym c.counter_at-counter.ensures ∙ c.if-counter-counter_at.false ∙ c.counter_at.ensures), c.counter_at-counter.ensures, held_count s (passes_ordered s order))
