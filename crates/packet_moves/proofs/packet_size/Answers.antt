-- The two cases of the size bits are those of `packet_size`. Assumes nothing.
use borrow.Author.Tests.{eq-eqb, ne_eqb}
use Rattle.model.specs.Packet.{packet_size}
use Rattle.packet_moves.proofs.packet_size.Goals as goal

pub returns-then-n-eq0 : goal.returns-then-n-eq0
unfolding packet_size
returns-then-n-eq0 c = simp (eq-eqb _ _ c.if-n-eq0.true)

pub returns : goal.returns
unfolding packet_size
returns c = simp (ne_eqb _ _ c.if-n-eq0.false)
