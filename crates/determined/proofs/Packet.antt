-- The packet's functions. Assumes nothing.
use mathlib.Core.Path.{sym, ◌∙◌}
use contract.Lifetimes.{Lfts}
use Rattle.caption.proofs.Outcomes.{outcome_injective, says_injective}
use Rattle.packet.proofs.packet_size.Reads as PacketSizeReads
use Rattle.packet.proofs.reads_in.Reads as ReadsIn
use Rattle.packet.proofs.DTVCCPacket.new.Reads as new
use Rattle.packet.proofs.DTVCCPacket.sequence_no.Reads as SequenceNoReads
use Rattle.packet.proofs.DTVCCPacket.free_space.Reads as FreeSpaceReads
use Rattle.packet.proofs.DTVCCPacket.len.Reads as len
use Rattle.packet.proofs.DTVCCPacket.is_empty.Reads as IsEmptyReads
use Rattle.packet.proofs.DTVCCPacket.service_count.Reads as ServiceCountReads
use Rattle.packet.proofs.DTVCCPacket.service_set.Reads as ServiceSetReads
use Rattle.packet.proofs.DTVCCPacket.distinct_services.Reads as DistinctServicesReads
use Rattle.packet.proofs.DTVCCPacket.write.Reads as write
use Rattle.packet.proofs.DTVCCPacket.service.Reads as service
use Rattle.packet.proofs.DTVCCPacket.push_service.Reads as PushServiceReads
use Rattle.packet.proofs.DTVCCPacket.push_code.Reads as PushCodeReads
use Rattle.packet.proofs.DTVCCPacket.push_code_into_single_service.Reads as PushCodeIntoSingleServiceReads
use Rattle.packet.proofs.DTVCCPacket.parse.Reads as parse
use Rattle.packet.proofs.DTVCCPacket.parse_in.Reads as ParseIn
use Rattle.packet.proofs.DTVCCPacket.parse_tidy.Reads as ParseTidyReads
use Rattle.packet.proofs.DTVCCPacket.is_valid.Reads as IsValidReads
use Rattle.determined.specs.Determines.{Determines, DeterminesLent}
use Rattle.determined.proofs.Ways.{equal, said}

-- `packet_size(h)`
pub packet_size : Determines (PacketSizeReads.Post (tt {0}))
packet_size = equal

-- `reads_in(bytes, len)`
pub reads_in : (κs : Lfts 1) → Determines (ReadsIn.Post κs)
reads_in κs = equal

-- `DTVCCPacket::new(seq_no)`
pub dtvcc_packet_new : Determines (new.Post (tt {0}))
dtvcc_packet_new = record { result = λ a r q e f h k. outcome_injective r q (h.1 ∙ sym k.1) }

-- `packet.sequence_no()`
pub dtvcc_packet_sequence_no : (κs : Lfts 1) → Determines (SequenceNoReads.Post κs)
dtvcc_packet_sequence_no κs = said outcome_injective

-- `packet.free_space()`
pub dtvcc_packet_free_space : (κs : Lfts 1) → Determines (FreeSpaceReads.Post κs)
dtvcc_packet_free_space κs = said outcome_injective

-- `packet.len()`
pub dtvcc_packet_len : (κs : Lfts 1) → Determines (len.Post κs)
dtvcc_packet_len κs = said outcome_injective

-- `packet.is_empty()`
pub dtvcc_packet_is_empty : (κs : Lfts 1) → Determines (IsEmptyReads.Post κs)
dtvcc_packet_is_empty κs = said outcome_injective

-- `packet.service_count()`
pub dtvcc_packet_service_count : (κs : Lfts 1) → Determines (ServiceCountReads.Post κs)
dtvcc_packet_service_count κs = said outcome_injective

-- `packet.service_set()`
pub dtvcc_packet_service_set : (κs : Lfts 1) → Determines (ServiceSetReads.Post κs)
dtvcc_packet_service_set κs = said outcome_injective

-- `packet.distinct_services()`
pub dtvcc_packet_distinct_services : (κs : Lfts 1) → Determines (DistinctServicesReads.Post κs)
dtvcc_packet_distinct_services κs = said outcome_injective

-- `packet.service(place)`
pub dtvcc_packet_service : (κs : Lfts 1) → Determines (service.Post κs)
dtvcc_packet_service κs = said outcome_injective

-- `packet.push_service(service)`
pub dtvcc_packet_push_service : (κs : Lfts 2) → DeterminesLent (λ e. e.0.now) (PushServiceReads.Post κs)
dtvcc_packet_push_service κs =
    record { result = λ a r q e f h k. says_injective r q (h.0 ∙ sym k.0); contents = λ a r q e f h k. h.1.1.0 ∙ sym k.1.1.0 }

-- `packet.push_code(service_no, code)`
pub dtvcc_packet_push_code : (κs : Lfts 2) → DeterminesLent (λ e. e.0.now) (PushCodeReads.Post κs)
dtvcc_packet_push_code κs =
    record { result = λ a r q e f h k. says_injective r q (h.0 ∙ sym k.0); contents = λ a r q e f h k. h.1.1.0 ∙ sym k.1.1.0 }

-- `packet.push_code_into_single_service(service_no, code)`
pub dtvcc_packet_push_code_into_single_service : (κs : Lfts 2) → DeterminesLent (λ e. e.0.now) (PushCodeIntoSingleServiceReads.Post κs)
dtvcc_packet_push_code_into_single_service κs =
    record { result = λ a r q e f h k. says_injective r q (h.0 ∙ sym k.0); contents = λ a r q e f h k. h.1.1.0 ∙ sym k.1.1.0 }

-- `DTVCCPacket::parse(data)`
pub dtvcc_packet_parse : (κs : Lfts 1) → Determines (parse.Post κs)
dtvcc_packet_parse κs = record { result = λ a r q e f h k. outcome_injective r q (h.1 ∙ sym k.1) }

-- `DTVCCPacket::parse_in(bytes, len)`
pub dtvcc_packet_parse_in : (κs : Lfts 1) → Determines (ParseIn.Post κs)
dtvcc_packet_parse_in κs = record { result = λ a r q e f h k. outcome_injective r q (h.1 ∙ sym k.1) }

-- `DTVCCPacket::parse_tidy(data)`
pub dtvcc_packet_parse_tidy : (κs : Lfts 1) → Determines (ParseTidyReads.Post κs)
dtvcc_packet_parse_tidy κs = record { result = λ a r q e f h k. outcome_injective r q (h.1 ∙ sym k.1) }

-- `packet.write(out)`
pub dtvcc_packet_write : (κs : Lfts 2) → DeterminesLent (λ e. e.1.0.now) (write.Post κs)
dtvcc_packet_write κs =
    record { result = λ a r q e f h k. outcome_injective r q (h.0 ∙ sym k.0); contents = λ a r q e f h k. h.1.0 ∙ sym k.1.0 }

-- `packet.is_valid()`
pub dtvcc_packet_is_valid : (κs : Lfts 1) → Determines (IsValidReads.Post κs)
dtvcc_packet_is_valid κs = equal
