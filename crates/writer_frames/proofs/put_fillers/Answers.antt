-- `writer_frames::put_fillers` meets its contract: what is stored, with what is left, stays what is to be stored. Assumes nothing.
use borrow.Author.Rules.{rules}
use Rattle.writer_frames.proofs.Stores.{filling_none, filling_more, filling_done}
use Rattle.writer_frames.proofs.put_fillers.Goals as goal

pub loop-at-init : goal.loop-at-init
loop-at-init c = filling_none _ _ _ (search rules)

pub loop-at-preserved : goal.loop-at-preserved
loop-at-preserved c = filling_more _ _ _ _ _ _ c.loop-at-test.true c.loop-at.invariant

pub returns : goal.returns
returns c = filling_done _ _ _ _ _ c.loop-at-test.false c.loop-at.invariant
