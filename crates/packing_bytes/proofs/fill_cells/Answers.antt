-- What is left of the test and of the filling decides. Assumes nothing.
use Rattle.packing_bytes.proofs.Cells.{free_more, filled_more, free_none, filled_none}
use borrow.Author.Rules.{rules}
use Rattle.packing_bytes.proofs.fill_cells.Goals as goal

pub loop-at-preserved : goal.loop-at-preserved
loop-at-preserved c = (search (rules, free_more), search (rules, filled_more))

pub returns : goal.returns
returns c = record { empty = search (rules, free_none); done = λ h. search (rules, filled_none) }
