-- The function that opens a distribution packet. Assumes nothing.
use mathlib.Core.Path.{sym, ◌∙◌}
use contract.Lifetimes.{Lfts}
use Rattle.caption.proofs.Outcomes.{outcome_injective}
use Rattle.distribution_reading.proofs.«open».Reads as Open
use Rattle.determined.specs.Determines.{Determines}

-- `open(packet)`
pub «open» : (κs : Lfts 1) → Determines (Open.Post κs)
«open» κs = record { result = λ a r q e f h k. outcome_injective r q (h ∙ sym k) }
