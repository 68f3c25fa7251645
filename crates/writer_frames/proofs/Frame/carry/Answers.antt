-- `writer_frames::Frame::carry` meets its contract. Assumes nothing.
use mathlib.Core.Path.{sym, ◌∙◌}
use native.Mathlib.Omega.{arith}
use Rattle.writer_frames.proofs.Stores.{fits_room, carries_true, past_end, not_there, with_triples}
use Rattle.writer_frames.proofs.Frame.carry.Goals as goal

pub returns-then-at-gt-MOST_PACKET : goal.returns-then-at-gt-MOST_PACKET
returns-then-at-gt-MOST_PACKET c = rw (sym c.has_room.ensures ∙ c.if-not-has_room.false, past_end c.args.at c.args.n c.if-at-gt-MOST_PACKET.true)

pub overflow_mul-n : goal.overflow_mul-n
overflow_mul-n c = omega (arith, fits_room _ _ (sym c.has_room.ensures ∙ c.if-not-has_room.false))

pub returns-then-at-n : goal.returns-then-at-n
returns-then-at-n c = rw (sym c.has_room.ensures ∙ c.if-not-has_room.false, not_there c.args.at c.args.n c.if-at-gt-MOST_PACKET.false c.if-at-n.true)

pub put_triples-requires-clause-to_bound : goal.put_triples-requires-clause-to_bound
put_triples-requires-clause-to_bound c = fits_room _ _ (sym c.has_room.ensures ∙ c.if-not-has_room.false)

pub overflow_mul-self : goal.overflow_mul-self
overflow_mul-self c = omega (arith, fits_room _ _ (sym c.has_room.ensures ∙ c.if-not-has_room.false))

pub overflow_add-self : goal.overflow_add-self
overflow_add-self c = omega (arith, fits_room _ _ (sym c.has_room.ensures ∙ c.if-not-has_room.false))

pub returns : goal.returns
returns c =
    let there = carries_true c.args.at c.args.n (omega (arith, c.if-at-gt-MOST_PACKET.false, c.if-at-n.false)) in
    rw (sym c.has_room.ensures ∙ c.if-not-has_room.false, there) (with_triples _ c.args.self.now _ c.args.at c.args.n c.put_triples.ensures)
