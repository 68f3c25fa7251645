-- The function that lays out a distribution packet. Assumes nothing.
use mathlib.Core.Path.{sym, ◌∙◌}
use contract.Lifetimes.{Lfts}
use Rattle.caption.proofs.Outcomes.{outcome_injective}
use Rattle.distribution_writing.proofs.write_packet.Reads as WritePacketReads
use Rattle.determined.specs.Determines.{DeterminesLent}

-- `write_packet(counter, code, frame, out)`
pub write_packet : (κs : Lfts 2) → DeterminesLent (λ e. e.1.1.1.0.now) (WritePacketReads.Post κs)
write_packet κs = record { result = λ a r q e f h k. outcome_injective r q (h.0 ∙ sym k.0); contents = λ a r q e f h k. h.1.0 ∙ sym k.1.0 }
