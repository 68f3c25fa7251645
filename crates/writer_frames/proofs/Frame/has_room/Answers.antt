-- `writer_frames::Frame::has_room` meets its contract. Assumes nothing.
use Rattle.writer_frames.proofs.Stores.{too_many, not_many}
use Rattle.writer_frames.proofs.Frame.has_room.Goals as goal

pub returns-then-n-gt-MOST_TRIPLES : goal.returns-then-n-gt-MOST_TRIPLES
returns-then-n-gt-MOST_TRIPLES c = too_many _ _ c.if-n-gt-MOST_TRIPLES.true

pub returns : goal.returns
returns c = not_many c.args.self.now c.args.n c.if-n-gt-MOST_TRIPLES.false
