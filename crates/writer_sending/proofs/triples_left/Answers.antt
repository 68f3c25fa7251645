-- `writer_sending::triples_left` meets its contract. Assumes nothing.
use native.Mathlib.Omega.{arith}
use borrow.Author.Tests.{le-leb, lt-leb}
use Rattle.writer_sending.specs.Slots.{triples_left}
use Rattle.writer_sending.proofs.triples_left.Goals as goal

pub returns-then-len-gt-MOST_PACKET : goal.returns-then-len-gt-MOST_PACKET
unfolding triples_left
returns-then-len-gt-MOST_PACKET c = (rw (lt-leb _ _ c.if-len-gt-MOST_PACKET.true), omega arith, omega arith)

pub returns-then-all-sent : goal.returns-then-all-sent
unfolding triples_left
returns-then-all-sent c = (rw (le-leb _ _ c.if-len-gt-MOST_PACKET.false) (omega (arith, c.if-all-sent.true)), omega arith, omega arith)

pub returns : goal.returns
unfolding triples_left
returns c = (rw (le-leb _ _ c.if-len-gt-MOST_PACKET.false) (omega (arith, c.if-all-sent.false)), omega (arith, c.if-len-gt-MOST_PACKET.false), omega (arith, c.if-len-gt-MOST_PACKET.false, c.if-all-sent.false))
