-- The invariant: the set is that of the numbers passed. Assumes nothing.
use mathlib.Core.Path.{sym, ap, ◌∙◌}
use lib.ListN.{take}
use lib.Seq.{take_all}
use Rattle.model.specs.Services.{bits_of}
use Rattle.packet_services.proofs.Services.{set_first, set_next, set_few}
use Rattle.packet_services.proofs.services_to.Goals as goal

pub loop-number-init : goal.loop-number-init
loop-number-init c = set_first c.args.numbers.now

pub loop-number-preserved : goal.loop-number-preserved
loop-number-preserved c =
    let l = c.loop-number in set_next (take c.args.count c.args.numbers.now) l.number-index _ _ c.loop-number-test.true l.invariant c.with_number-set.ensures

pub returns : goal.returns
returns c =
    let l = c.loop-number in
    l.invariant ∙ ap (bits_of 64) (take_all l.number-index (take c.args.count c.args.numbers.now) c.loop-number-test.false) ∙ sym (set_few _ _ c.if-count-gt-MOST_BLOCKS.false)
