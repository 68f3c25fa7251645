-- What the contracts of the multiplexer's and the demultiplexer's functions allow. Each definition is the function's own contract, as the prover
-- reads it, at the arguments of one call, its result and the parameters at exit. A state that a call may change is a reference at both places: what
-- stands there before the call is `now` of the one, and what the call leaves there is `now` of the other. Assumes nothing.
use Rattle.std.specs.Prelude.{Result, Bool, List, ℕ}
use contract.Lifetimes.{Lfts}
use Rattle.std.specs.Borrow.{Bor, MutBor}
use Rattle.caption.specs.declared.Cea608.{Cea608}
use Rattle.caption.specs.declared.Framerate.{Framerate}
use Rattle.caption.specs.declared.Refusal.{Refusal}
use Rattle.packet.specs.declared.DTVCCPacket.{DTVCCPacket}
use Rattle.writer.specs.declared.CCDataWriter.{CCDataWriter}
use Rattle.writer.proofs.CCDataWriter.new.Reads as NewWriterReads
use Rattle.writer.proofs.CCDataWriter.push_packet.Reads as PushPacketReads
use Rattle.writer.proofs.CCDataWriter.push_cea608.Reads as PushCea608Reads
use Rattle.writer.proofs.CCDataWriter.set_output_cea608_padding.Reads as SetOutputCea608PaddingReads
use Rattle.writer.proofs.CCDataWriter.set_output_padding.Reads as SetOutputPaddingReads
use Rattle.writer.proofs.CCDataWriter.set_carrying.Reads as SetCarryingReads
use Rattle.writer.proofs.CCDataWriter.set_true_count.Reads as SetTrueCountReads
use Rattle.writer.proofs.CCDataWriter.flush.Reads as flush
use Rattle.writer.proofs.CCDataWriter.write.Reads as write
use Rattle.parser.specs.declared.CCDataParser.{CCDataParser}
use Rattle.parser.specs.declared.Drawn.{Drawn}
use Rattle.parser.proofs.CCDataParser.new.Reads as NewParserReads
use Rattle.parser.proofs.CCDataParser.handle_cea608.Reads as HandleCea608Reads
use Rattle.parser.proofs.CCDataParser.push.Reads as push
use Rattle.parser.proofs.CCDataParser.draw.Reads as draw

-- bytes that a caller lends: those that stand there are `now` of it
abbrev pub Lent : Type 0
Lent = Bor (List ℕ)

-- bytes that a caller lends to be written
abbrev pub Output : Type 0
Output = MutBor (List ℕ)

-- a multiplexer that a caller lends
abbrev pub Writer : Type 0
Writer = MutBor CCDataWriter

-- a demultiplexer that a caller lends
abbrev pub Parser : Type 0
Parser = MutBor CCDataParser

-- what is answered where there is nothing to tell but a refusal
abbrev pub Answer : Type 0
Answer = Result (Unit {0}) Refusal

-- `CCDataWriter::new()`
abbrev pub NewWriter : CCDataWriter → Type 0
NewWriter w = NewWriterReads.Post (tt {0}) tt w tt

-- `w.push_packet(&packet)`
abbrev pub PushPacket : Lfts 2 → Writer → Bor DTVCCPacket → Answer → Writer → Type 0
PushPacket κs w packet r w' = PushPacketReads.Post κs (w, (packet, tt)) r (w', (packet, tt))

-- `w.push_cea608(pair)`
abbrev pub PushCea608 : Lfts 1 → Writer → Cea608 → Answer → Writer → Type 0
PushCea608 κs w x r w' = PushCea608Reads.Post κs (w, (x, tt)) r (w', (x, tt))

-- `w.set_output_cea608_padding(on)`
abbrev pub SetCea608Padding : Lfts 1 → Writer → Bool → Answer → Writer → Type 0
SetCea608Padding κs w on r w' = SetOutputCea608PaddingReads.Post κs (w, (on, tt)) r (w', (on, tt))

-- `w.set_output_padding(on)`
abbrev pub SetPadding : Lfts 1 → Writer → Bool → Answer → Writer → Type 0
SetPadding κs w on r w' = SetOutputPaddingReads.Post κs (w, (on, tt)) r (w', (on, tt))

-- `w.set_carrying(on)`
abbrev pub SetCarrying : Lfts 1 → Writer → Bool → Answer → Writer → Type 0
SetCarrying κs w on r w' = SetCarryingReads.Post κs (w, (on, tt)) r (w', (on, tt))

-- `w.set_true_count(on)`
abbrev pub SetTrueCount : Lfts 1 → Writer → Bool → Answer → Writer → Type 0
SetTrueCount κs w on r w' = SetTrueCountReads.Post κs (w, (on, tt)) r (w', (on, tt))

-- `w.flush()`
abbrev pub Flush : Lfts 1 → Writer → Answer → Writer → Type 0
Flush κs w r w' = flush.Post κs (w, tt) r (w', tt)

-- `w.write(rate, &mut out)`, where `out` is as it was lent and `end` as it is at exit
abbrev pub Write : Lfts 2 → Writer → Framerate → Output → Result ℕ Refusal → Writer → Output → Type 0
Write κs w rate out r w' end = write.Post κs (w, (rate, (out, tt))) r (w', (rate, (end, tt)))

-- `CCDataParser::new()`
abbrev pub NewParser : CCDataParser → Type 0
NewParser p = NewParserReads.Post (tt {0}) tt p tt

-- `p.handle_cea608()`
abbrev pub HandleCea608 : Lfts 1 → Parser → Answer → Parser → Type 0
HandleCea608 κs p r p' = HandleCea608Reads.Post κs (p, tt) r (p', tt)

-- `p.push(&frame)`
abbrev pub Push : Lfts 2 → Parser → Lent → Answer → Parser → Type 0
Push κs p frame r p' = push.Post κs (p, (frame, tt)) r (p', (frame, tt))

-- `p.draw()`
abbrev pub Draw : Lfts 1 → Parser → Result Drawn Refusal → Parser → Type 0
Draw κs p r p' = draw.Post κs (p, tt) r (p', tt)
