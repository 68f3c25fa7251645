-- The invariant: the sum so far is that of the sizes passed. Assumes nothing.
use mathlib.Core.Path.{sym, ap, ◌∙◌}
use native.Mathlib.Numerals.{add-one}
use native.Mathlib.Omega.{arith}
use lib.ListN.{take}
use lib.Seq.{take_all}
use Rattle.packet_entries.specs.Fields.{sum_of}
use Rattle.packet_entries.proofs.Walks.{sum_next, sum_few}
use Rattle.packet_entries.proofs.sum_of.Goals as goal

pub loop-size-preserved : goal.loop-size-preserved
loop-size-preserved c =
    let l = c.loop-size in
    (omega (arith, l.invariant.0), rw (add-one l.size-index, sum_next (take c.args.count c.args.sizes.now) l.size-index c.loop-size-test.true, ← l.invariant.1))

pub returns : goal.returns
returns c =
    let l = c.loop-size in
    l.invariant.1 ∙ ap sum_of (take_all l.size-index (take c.args.count c.args.sizes.now) c.loop-size-test.false) ∙ sym (sum_few _ _ c.if-count-gt-MOST_BLOCKS.false)
