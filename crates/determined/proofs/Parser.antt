-- The demultiplexer's functions. Assumes nothing.
use mathlib.Core.Path.{sym, ◌∙◌}
use contract.Lifetimes.{Lfts}
use Rattle.caption.proofs.Outcomes.{outcome_injective, says_injective}
use Rattle.parser.proofs.CCDataParser.new.Reads as new
use Rattle.parser.proofs.CCDataParser.is_valid.Reads as IsValidReads
use Rattle.parser.proofs.CCDataParser.handle_cea608.Reads as HandleCea608Reads
use Rattle.parser.proofs.CCDataParser.flush.Reads as flush
use Rattle.parser.proofs.CCDataParser.pairs_waiting.Reads as PairsWaitingReads
use Rattle.parser.proofs.CCDataParser.packets_waiting.Reads as PacketsWaitingReads
use Rattle.parser.proofs.CCDataParser.draw.Reads as draw
use Rattle.parser.proofs.CCDataParser.push.Reads as push
use Rattle.determined.specs.Determines.{Determines, DeterminesLent}
use Rattle.determined.proofs.Ways.{equal, said}

-- `CCDataParser::new()`
pub cc_data_parser_new : Determines (new.Post (tt {0}))
cc_data_parser_new = record { result = λ a r q e f h k. h.1 ∙ sym k.1 }

-- `parser.is_valid()`
pub cc_data_parser_is_valid : (κs : Lfts 1) → Determines (IsValidReads.Post κs)
cc_data_parser_is_valid κs = equal

-- `parser.handle_cea608()`
pub cc_data_parser_handle_cea608 : (κs : Lfts 1) → DeterminesLent (λ e. e.0.now) (HandleCea608Reads.Post κs)
cc_data_parser_handle_cea608 κs =
    record { result = λ a r q e f h k. says_injective r q (h.0 ∙ sym k.0); contents = λ a r q e f h k. h.1.1 ∙ sym k.1.1 }

-- `parser.flush()`
pub cc_data_parser_flush : (κs : Lfts 1) → DeterminesLent (λ e. e.0.now) (flush.Post κs)
cc_data_parser_flush κs =
    record { result = λ a r q e f h k. says_injective r q (h.0 ∙ sym k.0); contents = λ a r q e f h k. h.1.1 ∙ sym k.1.1 }

-- `parser.pairs_waiting()`
pub cc_data_parser_pairs_waiting : (κs : Lfts 1) → Determines (PairsWaitingReads.Post κs)
cc_data_parser_pairs_waiting κs = said outcome_injective

-- `parser.packets_waiting()`
pub cc_data_parser_packets_waiting : (κs : Lfts 1) → Determines (PacketsWaitingReads.Post κs)
cc_data_parser_packets_waiting κs = said outcome_injective

-- `parser.draw()`
pub cc_data_parser_draw : (κs : Lfts 1) → DeterminesLent (λ e. e.0.now) (draw.Post κs)
cc_data_parser_draw κs =
    record { result = λ a r q e f h k. outcome_injective r q (h.1.0 ∙ sym k.1.0); contents = λ a r q e f h k. h.1.1.1 ∙ sym k.1.1.1 }

-- `parser.push(frame)`
pub cc_data_parser_push : (κs : Lfts 2) → DeterminesLent (λ e. e.0.now) (push.Post κs)
cc_data_parser_push κs =
    record { result = λ a r q e f h k. says_injective r q (h.0 ∙ sym k.0); contents = λ a r q e f h k. h.1.1 ∙ sym k.1.1 }
