-- The multiplexer's functions. Assumes nothing.
use mathlib.Core.Path.{sym, ◌∙◌}
use mathlib.Core.List.{List}
use Prim.Native.Nat.{ℕ}
use contract.Lifetimes.{Lfts}
use Rattle.caption.proofs.Outcomes.{outcome_injective, says_injective}
use Rattle.writer.proofs.CCDataWriter.new.Reads as new
use Rattle.writer.proofs.CCDataWriter.is_valid.Reads as IsValidReads
use Rattle.writer.proofs.CCDataWriter.set_output_cea608_padding.Reads as SetOutputCea608PaddingReads
use Rattle.writer.proofs.CCDataWriter.output_cea608_padding.Reads as OutputCea608PaddingReads
use Rattle.writer.proofs.CCDataWriter.set_output_padding.Reads as SetOutputPaddingReads
use Rattle.writer.proofs.CCDataWriter.output_padding.Reads as OutputPaddingReads
use Rattle.writer.proofs.CCDataWriter.set_carrying.Reads as SetCarryingReads
use Rattle.writer.proofs.CCDataWriter.carrying.Reads as carrying
use Rattle.writer.proofs.CCDataWriter.set_true_count.Reads as SetTrueCountReads
use Rattle.writer.proofs.CCDataWriter.true_count.Reads as TrueCountReads
use Rattle.writer.proofs.CCDataWriter.push_packet.Reads as PushPacketReads
use Rattle.writer.proofs.CCDataWriter.push_cea608.Reads as PushCea608Reads
use Rattle.writer.proofs.CCDataWriter.flush.Reads as flush
use Rattle.writer.proofs.CCDataWriter.buffered_cea608_field1_duration.Reads as BufferedCea608Field1DurationReads
use Rattle.writer.proofs.CCDataWriter.buffered_cea608_field2_duration.Reads as BufferedCea608Field2DurationReads
use Rattle.writer.proofs.CCDataWriter.buffered_packet_duration.Reads as BufferedPacketDurationReads
use Rattle.writer.proofs.CCDataWriter.write.Reads as write
use Rattle.writer.specs.declared.CCDataWriter.{CCDataWriter}
use Rattle.determined.specs.Determines.{Determines, DeterminesLent}
use Rattle.determined.proofs.Ways.{said}

-- `CCDataWriter::new()`
pub cc_data_writer_new : Determines (new.Post (tt {0}))
cc_data_writer_new = record { result = λ a r q e f h k. h.1 ∙ sym k.1 }

-- `writer.is_valid()`
pub cc_data_writer_is_valid : (κs : Lfts 1) → Determines (IsValidReads.Post κs)
cc_data_writer_is_valid κs = record { result = λ a r q e f h k. h.0 ∙ sym k.0 }

-- `writer.set_output_cea608_padding(on)`
pub cc_data_writer_set_output_cea608_padding : (κs : Lfts 1) → DeterminesLent (λ e. e.0.now) (SetOutputCea608PaddingReads.Post κs)
cc_data_writer_set_output_cea608_padding κs =
    record { result = λ a r q e f h k. says_injective r q (h.0 ∙ sym k.0); contents = λ a r q e f h k. h.1.1.0 ∙ sym k.1.1.0 }

-- `writer.output_cea608_padding()`
pub cc_data_writer_output_cea608_padding : (κs : Lfts 1) → Determines (OutputCea608PaddingReads.Post κs)
cc_data_writer_output_cea608_padding κs = said outcome_injective

-- `writer.set_output_padding(on)`
pub cc_data_writer_set_output_padding : (κs : Lfts 1) → DeterminesLent (λ e. e.0.now) (SetOutputPaddingReads.Post κs)
cc_data_writer_set_output_padding κs =
    record { result = λ a r q e f h k. says_injective r q (h.0 ∙ sym k.0); contents = λ a r q e f h k. h.1.1.0 ∙ sym k.1.1.0 }

-- `writer.output_padding()`
pub cc_data_writer_output_padding : (κs : Lfts 1) → Determines (OutputPaddingReads.Post κs)
cc_data_writer_output_padding κs = said outcome_injective

-- `writer.set_carrying(on)`
pub cc_data_writer_set_carrying : (κs : Lfts 1) → DeterminesLent (λ e. e.0.now) (SetCarryingReads.Post κs)
cc_data_writer_set_carrying κs =
    record { result = λ a r q e f h k. says_injective r q (h.0 ∙ sym k.0); contents = λ a r q e f h k. h.1.1.0 ∙ sym k.1.1.0 }

-- `writer.carrying()`
pub cc_data_writer_carrying : (κs : Lfts 1) → Determines (carrying.Post κs)
cc_data_writer_carrying κs = said outcome_injective

-- `writer.set_true_count(on)`
pub cc_data_writer_set_true_count : (κs : Lfts 1) → DeterminesLent (λ e. e.0.now) (SetTrueCountReads.Post κs)
cc_data_writer_set_true_count κs =
    record { result = λ a r q e f h k. says_injective r q (h.0 ∙ sym k.0); contents = λ a r q e f h k. h.1.1.0 ∙ sym k.1.1.0 }

-- `writer.true_count()`
pub cc_data_writer_true_count : (κs : Lfts 1) → Determines (TrueCountReads.Post κs)
cc_data_writer_true_count κs = said outcome_injective

-- `writer.push_packet(packet)`
pub cc_data_writer_push_packet : (κs : Lfts 2) → DeterminesLent (λ e. e.0.now) (PushPacketReads.Post κs)
cc_data_writer_push_packet κs =
    record { result = λ a r q e f h k. says_injective r q (h.0 ∙ sym k.0); contents = λ a r q e f h k. h.1.1.0 ∙ sym k.1.1.0 }

-- `writer.push_cea608(pair)`
pub cc_data_writer_push_cea608 : (κs : Lfts 1) → DeterminesLent (λ e. e.0.now) (PushCea608Reads.Post κs)
cc_data_writer_push_cea608 κs =
    record { result = λ a r q e f h k. says_injective r q (h.0 ∙ sym k.0); contents = λ a r q e f h k. h.1.1.0 ∙ sym k.1.1.0 }

-- `writer.flush()`
pub cc_data_writer_flush : (κs : Lfts 1) → DeterminesLent (λ e. e.0.now) (flush.Post κs)
cc_data_writer_flush κs =
    record { result = λ a r q e f h k. says_injective r q (h.0 ∙ sym k.0); contents = λ a r q e f h k. h.1.1.0 ∙ sym k.1.1.0 }

-- `writer.buffered_cea608_field1_duration()`
pub cc_data_writer_buffered_cea608_field1_duration : (κs : Lfts 1) → Determines (BufferedCea608Field1DurationReads.Post κs)
cc_data_writer_buffered_cea608_field1_duration κs = said outcome_injective

-- `writer.buffered_cea608_field2_duration()`
pub cc_data_writer_buffered_cea608_field2_duration : (κs : Lfts 1) → Determines (BufferedCea608Field2DurationReads.Post κs)
cc_data_writer_buffered_cea608_field2_duration κs = said outcome_injective

-- `writer.buffered_packet_duration()`
pub cc_data_writer_buffered_packet_duration : (κs : Lfts 1) → Determines (BufferedPacketDurationReads.Post κs)
cc_data_writer_buffered_packet_duration κs = said outcome_injective

-- `writer.write(rate, out)`
pub cc_data_writer_write : (κs : Lfts 2) → DeterminesLent {X = CCDataWriter × List ℕ} (λ e. (e.0.now, e.1.1.0.now)) (write.Post κs)
cc_data_writer_write κs =
    record {
      result = λ a r q e f h k. outcome_injective r q (h.0 ∙ sym k.0);
      contents = λ a r q e f h k. rw (h.1.1.0 ∙ sym k.1.1.0, h.1.1.1.0 ∙ sym k.1.1.1.0);
    }
