-- `writer_building::counted_of` meets its contract. Assumes nothing.
use Rattle.writer_building.proofs.Sends.{sent_padded}
use Rattle.writer_building.proofs.counted_of.Goals as goal

pub returns-then-pad : goal.returns-then-pad
returns-then-pad c = let a = c.args in
    rw (c.if-true_count.true, c.if-pad.true) (sent_padded a.turns a.field2_next a.n1 a.n2)
