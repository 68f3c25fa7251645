-- The block's functions. Assumes nothing.
use mathlib.Core.Path.{sym, ◌∙◌}
use contract.Lifetimes.{Lfts}
use Rattle.caption.proofs.Outcomes.{outcome_injective, says_injective}
use Rattle.service.proofs.payload_of.Reads as PayloadOfReads
use Rattle.service.proofs.Service.new.Reads as new
use Rattle.service.proofs.Service.is_valid.Reads as IsValidReads
use Rattle.service.proofs.Service.number.Reads as number
use Rattle.service.proofs.Service.free_space.Reads as FreeSpaceReads
use Rattle.service.proofs.Service.len.Reads as len
use Rattle.service.proofs.Service.is_empty.Reads as IsEmptyReads
use Rattle.service.proofs.Service.push_code.Reads as PushCodeReads
use Rattle.service.proofs.Service.parse.Reads as parse
use Rattle.service.proofs.Service.write.Reads as write
use Rattle.determined.specs.Determines.{Determines, DeterminesLent, DeterminesPart}
use Rattle.determined.proofs.Ways.{equal, said, part_equal}

-- `payload_of(data)`
pub payload_of : (κs : Lfts 1) → DeterminesPart (PayloadOfReads.Post κs)
payload_of κs = part_equal

-- `Service::new(service_no)`
pub service_new : Determines (new.Post (tt {0}))
service_new = record { result = λ a r q e f h k. outcome_injective r q (h.1 ∙ sym k.1) }

-- `service.is_valid()`
pub service_is_valid : (κs : Lfts 1) → Determines (IsValidReads.Post κs)
service_is_valid κs = equal

-- `service.number()`
pub service_number : (κs : Lfts 1) → Determines (number.Post κs)
service_number κs = said outcome_injective

-- `service.free_space()`
pub service_free_space : (κs : Lfts 1) → Determines (FreeSpaceReads.Post κs)
service_free_space κs = said outcome_injective

-- `service.len()`
pub service_len : (κs : Lfts 1) → Determines (len.Post κs)
service_len κs = said outcome_injective

-- `service.is_empty()`
pub service_is_empty : (κs : Lfts 1) → Determines (IsEmptyReads.Post κs)
service_is_empty κs = said outcome_injective

-- `service.push_code(code)`
pub service_push_code : (κs : Lfts 2) → DeterminesLent (λ e. e.0.now) (PushCodeReads.Post κs)
service_push_code κs =
    record { result = λ a r q e f h k. says_injective r q (h.0 ∙ sym k.0); contents = λ a r q e f h k. h.1.1.0 ∙ sym k.1.1.0 }

-- `Service::parse(data)`
pub service_parse : (κs : Lfts 1) → Determines (parse.Post κs)
service_parse κs = record { result = λ a r q e f h k. outcome_injective r q (h.1 ∙ sym k.1) }

-- `service.write(out)`
pub service_write : (κs : Lfts 2) → DeterminesLent (λ e. e.1.0.now) (write.Post κs)
service_write κs =
    record { result = λ a r q e f h k. outcome_injective r q (h.0 ∙ sym k.0); contents = λ a r q e f h k. h.1.0 ∙ sym k.1.0 }
