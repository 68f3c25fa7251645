-- `parser_lists::list_frame` meets its contract: one law of `Asked` for each way out, in the order of the tests. Assumes nothing.
use Rattle.parser_lists.proofs.Asked.{list_asked, list_long, list_off}
use Rattle.parser_lists.proofs.list_frame.Goals as goal

pub returns-then-not-on : goal.returns-then-not-on
returns-then-not-on c = list_off _ _ _ c.if-not-on.true

pub returns-then-frame-gt-MOST_FRAME : goal.returns-then-frame-gt-MOST_FRAME
returns-then-frame-gt-MOST_FRAME c = list_long _ _ _ c.if-not-on.false c.if-frame-gt-MOST_FRAME.true

pub returns : goal.returns
returns c = list_asked _ _ _ c.if-not-on.false _ c.if-frame-gt-MOST_FRAME.false c.list_pairs.ensures
