-- `writer_building::sending_of` meets its contract. Assumes nothing.
use Rattle.writer_building.proofs.Sends.{one_less, sent_first, sent_second}
use Rattle.writer_building.proofs.sending_of.Goals as goal

pub returns-then-field2_next : goal.returns-then-field2_next
returns-then-field2_next c = let a = c.args in
    rw (c.if-field2_next.true, c.min-then-field2_next-2.ensures, c.max.ensures, c.min-then-field2_next.ensures)
    (sent_second a.turns a.n1 a.n2 (one_less a.n2 c.min.ensures))

pub returns : goal.returns
returns c = let a = c.args in
    rw (c.if-field2_next.false, c.min-3.ensures, c.min-2.ensures, c.max-2.ensures)
    (sent_first a.turns a.n1 a.n2)
