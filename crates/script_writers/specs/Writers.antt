-- The operations of a script on its multiplexer, to which its packet can be pushed: what each does, and their rows. Assumes nothing.
use Rattle.std.specs.Prelude.{◌&&◌, List, [], ◌∷◌, ℕ, ◌/◌, ◌%◌, eqb, length, drop}
use Rattle.model.specs.Said.{Said, Outcome, gave, checked, says_with, mapped, after}
use Rattle.model.specs.Duration.{field1_duration, field2_duration, packet_duration}
use Rattle.model.specs.Mux.{with_pads, with_mode, with_true_count, flush_mux, push_packet, push_cea608}
use Rattle.caption.specs.declared.Framerate.{Framerate}
use Rattle.caption.specs.declared.Cea608.{Cea608}
use Rattle.caption.specs.declared.Cea608.TheVariants.{Field1, Field2}
use Rattle.caption.specs.Pairs.{cea608_of}
use Rattle.caption.specs.Rates.{rate}
use Rattle.packet.specs.declared.DTVCCPacket.{DTVCCPacket}
use Rattle.packet.specs.Packet.{packet_of, valid_dtvcc}
use Rattle.writer.specs.declared.CCDataWriter.{CCDataWriter}
use Rattle.writer.specs.Writer.{means, valid_writer, fresh, stored, emptied, moved}
use Rattle.writer.specs.Calls.{written}
use Rattle.program_records.specs.Reading.{highest_first}
use Rattle.script_answers.specs.Script.{answer_line, lent_line}
use Rattle.script_answers.specs.Steps.{Effect, lays, becomes, stays, lent_out}
use Rattle.script_answers.specs.Rows.{Row, row, exactly, byte}

-- a fresh one
abbrev pub renews_writer : Effect CCDataWriter
renews_writer = becomes fresh

-- its four switches: the 608 padding by bit 0, the output padding by bit 1, then the carrying mode by bit 2, and last the true count by bit 3
abbrev pub switches : List ℕ → CCDataWriter → Effect CCDataWriter
switches a w =
    let padded = with_pads (eqb (byte a 0 % 2) 1) (eqb (byte a 0 / 2 % 2) 1) (means w) in
    let carrying = with_mode (eqb (byte a 0 / 4 % 2) 1) padded in
    lays stored w (checked (valid_writer w) (gave (with_true_count (eqb (byte a 0 / 8 % 2) 1) carrying)))

-- a packet pushed
abbrev pub pushes_packet : DTVCCPacket → CCDataWriter → Effect CCDataWriter
pushes_packet p w = lays stored w (checked (valid_writer w && valid_dtvcc p) (push_packet (packet_of p) (means w)))

-- a pair pushed
abbrev pub pushes_pair : Cea608 → CCDataWriter → Effect CCDataWriter
pushes_pair pair w = lays stored w (checked (valid_writer w) (push_cea608 (cea608_of pair) (means w)))

-- a frame written to a lent output
abbrev pub wrote : Framerate → List ℕ → CCDataWriter → Effect CCDataWriter
wrote speed out w =
    let done = written speed out w in
    record {
      line = lent_line (says_with (λ x. length x.frame ∷ []) done) (after out (mapped (λ x. x.out) done));
      next = after w (mapped (λ x. moved w x.next) done);
    }

-- the same where the rate stands in two times four bytes, the highest first, and behind them the length of the output
abbrev pub writes_frame : List ℕ → CCDataWriter → Effect CCDataWriter
writes_frame a w = wrote (rate (highest_first a) (highest_first (drop 4 a))) (lent_out (byte a 8)) w

-- how many microseconds field 1, field 2 and the packets take [D],
abbrev pub measured_times : CCDataWriter → Outcome (List ℕ)
measured_times w = checked (valid_writer w) (gave (field1_duration (means w) ∷ field2_duration (means w) ∷ packet_duration (means w) ∷ []))

-- as they are told
abbrev pub durations : CCDataWriter → Said
durations w = says_with (λ ks. ks) (measured_times w)

-- its three durations
abbrev pub tells_durations : CCDataWriter → Effect CCDataWriter
tells_durations w = stays w (answer_line (durations w))

-- all of it thrown away
abbrev pub flushes_writer : CCDataWriter → Effect CCDataWriter
flushes_writer w = lays emptied w (checked (valid_writer w) (gave (flush_mux (means w))))

-- its three counts and, behind the first of them, how many bytes of the packet being sent have left, whatever they break
abbrev pub sets_writer : List ℕ → CCDataWriter → Effect CCDataWriter
sets_writer a w =
    becomes
    (record {
      output_cea608_padding = w.output_cea608_padding;
      output_padding = w.output_padding;
      packet_count = byte a 0;
      packets = w.packets;
      sending = w.sending;
      sent = byte a 1;
      field1 = record { bytes = w.field1.bytes; count = byte a 2 };
      field2 = record { bytes = w.field2.bytes; count = byte a 3 };
      field2_next = w.field2_next;
      true_count = w.true_count;
      carrying = w.carrying;
      carry = w.carry;
    })

-- its four carried parts, each in four bytes, the highest first, whatever they break
abbrev pub sets_carry : List ℕ → CCDataWriter → Effect CCDataWriter
sets_carry a w =
    becomes
    (record {
      output_cea608_padding = w.output_cea608_padding;
      output_padding = w.output_padding;
      packet_count = w.packet_count;
      packets = w.packets;
      sending = w.sending;
      sent = w.sent;
      field1 = w.field1;
      field2 = w.field2;
      field2_next = w.field2_next;
      true_count = w.true_count;
      carrying = w.carrying;
      carry = record { numer = highest_first (drop 0 a); denom = highest_first (drop 4 a); pairs = highest_first (drop 8 a); triples = highest_first (drop 12 a) };
    })

-- all: those that set it, behind them the ones that push to it, and the ones that frames and durations come out by
unfoldable pub writer_rows : DTVCCPacket → CCDataWriter → List (Row CCDataWriter)
writer_rows p w =
    row "W" (exactly 0) (λ a. renews_writer)
    ∷ row "S" (exactly 1) (λ a. switches a w)
    ∷ row "x" (exactly 0) (λ a. flushes_writer w)
    ∷ row "Q" (exactly 4) (λ a. sets_writer a w)
    ∷ row "C" (exactly 16) (λ a. sets_carry a w)
    ∷ row "q" (exactly 0) (λ a. pushes_packet p w)
    ∷ row "1" (exactly 2) (λ a. pushes_pair (Field1 (byte a 0) (byte a 1)) w)
    ∷ row "2" (exactly 2) (λ a. pushes_pair (Field2 (byte a 0) (byte a 1)) w)
    ∷ row "w" (exactly 9) (λ a. writes_frame a w)
    ∷ row "u" (exactly 0) (λ a. tells_durations w)
    ∷ []
