-- `writer_frames::Frame::pad` meets its contract. Assumes nothing.
use mathlib.Core.Path.{sym, ◌∙◌}
use native.Mathlib.Omega.{arith}
use Rattle.writer_frames.proofs.Stores.{fits_room, with_fillers}
use Rattle.writer_frames.proofs.Frame.pad.Goals as goal

pub put_fillers-requires : goal.put_fillers-requires
put_fillers-requires c = fits_room _ _ (sym c.has_room.ensures ∙ c.if-not-has_room.false)

pub overflow_mul-self : goal.overflow_mul-self
overflow_mul-self c = omega (arith, fits_room _ _ (sym c.has_room.ensures ∙ c.if-not-has_room.false))

pub overflow_add-self : goal.overflow_add-self
overflow_add-self c = omega (arith, fits_room _ _ (sym c.has_room.ensures ∙ c.if-not-has_room.false))

pub returns : goal.returns
returns c = rw (sym c.has_room.ensures ∙ c.if-not-has_room.false) (with_fillers c.args.self.now _ c.args.n c.put_fillers.ensures)
