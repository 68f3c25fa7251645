-- `writer_sending::fill` meets its contract. Assumes nothing.
use Rattle.writer_sending.specs.Slots.{filled}
use Rattle.writer_sending.proofs.fill.Goals as goal

pub returns-then-padding : goal.returns-then-padding
unfolding filled
returns-then-padding c = rw (c.pad.ensures, c.lacking-more.ensures, c.rest-s.ensures, c.send.ensures, c.lacking-left.ensures, c.if-padding.true)

pub returns-else-padding : goal.returns-else-padding
unfolding filled
returns-else-padding c = rw (c.rest-s.ensures, c.send.ensures, c.lacking-left.ensures, c.if-padding.false)
