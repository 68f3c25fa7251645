-- What holds of every state that calls have reached, flushes among them. Assumes nothing.
use mathlib.Core.Path.{◌≡◌}
use Rattle.model.specs.Mux.{flush_mux}
use Rattle.model_journey.proofs.Triples.{Follow, stop}
use Rattle.model_journey.proofs.Four.{follow_run}
use Rattle.writer.specs.Writer.{means, fresh}
use Rattle.writer.proofs.Kept.{Sound, fresh_sound, emptied_sound}
use Rattle.writer.specs.declared.CCDataWriter.{CCDataWriter}
use Rattle.theorems.specs.Writing as specs
use Rattle.theorems.specs.Writing.{Reached, called, flushed}
use Rattle.theorems.proofs.Contracts.{flush_says}
use Rattle.theorems.proofs.Sequences.{follows}
use Rattle.theorems.proofs.Answered.{given}

-- a state that calls have reached is within its limits, and the triples left of the packet being sent go on with it
pub record Holds (w : CCDataWriter) : Type 0 where
  pub sound : Sound w
  pub follow : Follow (means w).sending

-- call by call
pub holds : {w : CCDataWriter} → Reached w → Holds w
holds {w} (specs.fresh new) =
    let e : w ≡ fresh = new.1 in
    record { sound = rw e fresh_sound; follow = rw new.0 stop }
holds (called {w} d c) =
    let k = holds d in
    let f = follows c k.sound in
    record { sound = f.sound; follow = rw f.last at (follow_run f.calls (means w) k.follow) }
holds (flushed κs w w' r d a) =
    let k = holds d in
    let g = (given (flush_says w w' r κs a) (flush_mux (means w.now)) (rw k.sound.valid)).1 in
    record { sound = rw g.1 (emptied_sound w.now k.sound); follow = rw g.0 stop }
