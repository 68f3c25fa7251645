-- The functions that cut a payload into codes. Assumes nothing.
use mathlib.Core.Path.{sym, ◌∙◌}
use contract.Lifetimes.{Lfts}
use Rattle.caption.proofs.Outcomes.{outcome_injective}
use Rattle.codes_cuts.proofs.code_length_at.Reads as CodeLengthAtReads
use Rattle.codes_cuts.proofs.code_count.Reads as CodeCountReads
use Rattle.codes_cuts.proofs.code_at.Reads as CodeAtReads
use Rattle.determined.specs.Determines.{Determines, DeterminesPart}
use Rattle.determined.proofs.Ways.{part_equal}

-- `code_length_at(payload, at)`
pub code_length_at : (κs : Lfts 1) → Determines (CodeLengthAtReads.Post κs)
code_length_at κs = record { result = λ a r q e f h k. outcome_injective r q (h ∙ sym k) }

-- `code_count(payload)`
pub code_count : (κs : Lfts 1) → Determines (CodeCountReads.Post κs)
code_count κs = record { result = λ a r q e f h k. outcome_injective r q (h ∙ sym k) }

-- `code_at(payload, place)`
pub code_at : (κs : Lfts 1) → DeterminesPart (CodeAtReads.Post κs)
code_at κs = part_equal
