-- The check of the bytes of a proposal. Assumes nothing.
use mathlib.Core.Path.{sym, ◌∙◌}
use contract.Lifetimes.{Lfts}
use Rattle.caption.proofs.Outcomes.{says_injective}
use Rattle.packing_bytes.proofs.check_bytes.Reads as CheckBytesReads
use Rattle.determined.specs.Determines.{Determines}

-- `check_bytes(services, lengths, pieces)`
pub check_bytes : (κs : Lfts 3) → Determines (CheckBytesReads.Post κs)
check_bytes κs = record { result = λ a r q e f h k. says_injective r q (h ∙ sym k) }
