-- A packet pushed. Assumes nothing.
use mathlib.Core.Path.{sym, ◌∙◌}
use contract.Lifetimes.{Lfts}
use Rattle.caption.proofs.Outcomes.{outcome_injective}
use Rattle.writer_storing.proofs.place.Reads as Place
use Rattle.determined.specs.Determines.{DeterminesLent}

-- `place(packets, count, packet)`
pub place : (κs : Lfts 2) → DeterminesLent (λ e. e.0.now) (Place.Post κs)
place κs =
    record { result = λ a r q e f h k. outcome_injective r q (h.0 ∙ sym k.0); contents = λ a r q e f h k. h.1.0 ∙ sym k.1.0 }
