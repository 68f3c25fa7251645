-- `slots::all_written` meets its contract: `all` tells the test of each. Assumes nothing.
use Rattle.std.proofs.Common.{◌∙◌, rules, tests}
use Rattle.std.proofs.lemmas.Iterator.{YieldsList-from_slice}
use Rattle.std.proofs.lemmas.Iterator.Search.{all_from_yields_List}
use Rattle.slots.specs.Slot.{written_slot}
use Rattle.slots.proofs.Row.{every_all}
use Rattle.slots.proofs.all_written.Goals as goal

pub returns : goal.returns
returns c =
    let l = c.args.queue.now in
    all_from_yields_List written_slot _ _ _ c.all.ensures.ran (YieldsList-from_slice l cc) (λ x b q k. search (rules, tests)) ∙ every_all l
