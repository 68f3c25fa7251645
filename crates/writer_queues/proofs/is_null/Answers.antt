-- `writer_queues::is_null` meets its contract: the second byte decides where the first is 0x80. Assumes nothing.
use borrow.Author.Tests.{eq-eqb, ne_eqb}
use Rattle.model.specs.Mux.{is_null}
use Rattle.writer_queues.proofs.is_null.Goals as goal

pub returns-then-a-eq128 : goal.returns-then-a-eq128
unfolding is_null
returns-then-a-eq128 c = simp (eq-eqb _ _ c.if-a-eq128.true)

pub returns : goal.returns
unfolding is_null
returns c = simp (ne_eqb _ _ c.if-a-eq128.false)
