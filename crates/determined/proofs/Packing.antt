-- The functions of proposals. Assumes nothing.
use mathlib.Core.Path.{sym, ◌∙◌}
use contract.Lifetimes.{Lfts}
use Rattle.caption.proofs.Outcomes.{outcome_injective, says_injective}
use Rattle.packing.proofs.check.Reads as Check
use Rattle.packing.proofs.propose.Reads as Propose
use Rattle.determined.specs.Determines.{Determines, DeterminesLent}

-- `check(services, lengths, pieces)`
pub check : (κs : Lfts 3) → Determines (Check.Post κs)
check κs = record { result = λ a r q e f h k. says_injective r q (h ∙ sym k) }

-- `propose(services, lengths, out)`
pub propose : (κs : Lfts 3) → DeterminesLent (λ e. e.1.1.0.now) (Propose.Post κs)
propose κs = record { result = λ a r q e f h k. outcome_injective r q (h.0 ∙ sym k.0); contents = λ a r q e f h k. h.1.0 ∙ sym k.1.0 }
