-- What is handed out, and behind it what is left to tell, is the whole. Assumes nothing.
use Rattle.std.proofs.lemmas.Bool.{not-true, not-false}
use Rattle.program_streams.proofs.Pieces.{one_piece, next_piece, last_piece}
use Rattle.program_streams.proofs.tell_all.Goals as goal

pub loop-place-preserved : goal.loop-place-preserved
loop-place-preserved g c =
    next_piece _ _ c.drain-to.result.full _ _
    (one_piece _ _ _ _ c.loop-place.invariant (rw c.part.ensures at c.in_ok-send.ensures) c.drain-to.ensures.text) (not-false _ c.if-not-to.false)

pub returns-then-not-to : goal.returns-then-not-to
returns-then-not-to g c =
    record {
      ok = last_piece _ _ c.drain-to.result.full _ _
          (one_piece _ _ _ _ (rw c.front.ensures at c.loop-place.invariant) (rw c.part.ensures at c.in_ok-send.ensures) c.drain-to.ensures.text)
          (not-true _ c.if-not-to.true);
    }
