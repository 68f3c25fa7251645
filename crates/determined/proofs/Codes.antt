-- The functions of the profile that knows how long codes are. Assumes nothing.
use mathlib.Core.Path.{sym, ◌∙◌}
use contract.Lifetimes.{Lfts}
use Rattle.caption.proofs.Outcomes.{outcome_injective, says_injective}
use Rattle.codes.proofs.code_length_at.Reads as CodeLengthAtReads
use Rattle.codes.proofs.code_count.Reads as CodeCountReads
use Rattle.codes.proofs.code_at.Reads as CodeAtReads
use Rattle.codes.proofs.check_run.Reads as CheckRunReads
use Rattle.codes.proofs.check_service.Reads as CheckServiceReads
use Rattle.codes.proofs.check_packet.Reads as CheckPacketReads
use Rattle.codes.proofs.push_codes.Reads as PushCodesReads
use Rattle.codes.proofs.push_codes_into_single_service.Reads as PushCodesIntoSingleServiceReads
use Rattle.determined.specs.Determines.{Determines, DeterminesLent, DeterminesPart}
use Rattle.determined.proofs.Ways.{part_equal}

-- `code_length_at(payload, at)`
pub code_length_at : (κs : Lfts 1) → Determines (CodeLengthAtReads.Post κs)
code_length_at κs = record { result = λ a r q e f h k. outcome_injective r q (h ∙ sym k) }

-- `code_count(payload)`
pub code_count : (κs : Lfts 1) → Determines (CodeCountReads.Post κs)
code_count κs = record { result = λ a r q e f h k. outcome_injective r q (h ∙ sym k) }

-- `code_at(payload, place)`
pub code_at : (κs : Lfts 1) → DeterminesPart (CodeAtReads.Post κs)
code_at κs = part_equal

-- `check_run(run)`
pub check_run : (κs : Lfts 1) → Determines (CheckRunReads.Post κs)
check_run κs = record { result = λ a r q e f h k. says_injective r q (h ∙ sym k) }

-- `check_service(service)`
pub check_service : (κs : Lfts 1) → Determines (CheckServiceReads.Post κs)
check_service κs = record { result = λ a r q e f h k. says_injective r q (h ∙ sym k) }

-- `check_packet(packet)`
pub check_packet : (κs : Lfts 1) → Determines (CheckPacketReads.Post κs)
check_packet κs = record { result = λ a r q e f h k. says_injective r q (h ∙ sym k) }

-- `push_codes(packet, service_no, run)`
pub push_codes : (κs : Lfts 2) → DeterminesLent (λ e. e.0.now) (PushCodesReads.Post κs)
push_codes κs = record { result = λ a r q e f h k. says_injective r q (h.0 ∙ sym k.0); contents = λ a r q e f h k. h.1.1.0 ∙ sym k.1.1.0 }

-- `push_codes_into_single_service(packet, service_no, run)`
pub push_codes_into_single_service : (κs : Lfts 2) → DeterminesLent (λ e. e.0.now) (PushCodesIntoSingleServiceReads.Post κs)
push_codes_into_single_service κs = record { result = λ a r q e f h k. says_injective r q (h.0 ∙ sym k.0); contents = λ a r q e f h k. h.1.1.0 ∙ sym k.1.1.0 }
