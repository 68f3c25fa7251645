-- The function that writes a packet's arrays. Assumes nothing.
use mathlib.Core.Path.{sym, ◌∙◌}
use contract.Lifetimes.{Lfts}
use Rattle.caption.proofs.Outcomes.{outcome_injective}
use Rattle.packet_writing.proofs.write.Reads as Write
use Rattle.determined.specs.Determines.{DeterminesLent}

-- `write(seq_no, count, numbers, sizes, payload, out)`
pub write : (κs : Lfts 4) → DeterminesLent (λ e. e.1.1.1.1.1.0.now) (Write.Post κs)
write κs = record { result = λ a r q e f h k. outcome_injective r q (h.0 ∙ sym k.0); contents = λ a r q e f h k. h.1 ∙ sym k.1 }
