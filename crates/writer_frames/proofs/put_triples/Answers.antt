-- `writer_frames::put_triples` meets its contract: what is stored, with what is left, stays what is to be stored. Assumes nothing.
use Rattle.writer_frames.proofs.Stores.{storing_none, storing_more, storing_done}
use Rattle.writer_frames.proofs.put_triples.Goals as goal

pub loop-i-init : goal.loop-i-init
loop-i-init c = storing_none _ _ _ _ _

pub loop-i-preserved : goal.loop-i-preserved
loop-i-preserved c = storing_more _ _ _ _ _ _ _ _ c.loop-i-test.true c.loop-i.invariant c.put_triple.ensures

pub returns : goal.returns
returns c = storing_done _ _ _ _ _ _ _ c.loop-i-test.false c.loop-i.invariant
