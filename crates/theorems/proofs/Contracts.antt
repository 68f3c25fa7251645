-- What the contract of each call says, fact by fact. Assumes nothing.
use mathlib.Core.Path.{◌≡◌}
use mathlib.Core.Bool.{Bool, true, cond}
use mathlib.Core.List.{List}
use Prim.Native.Nat.{ℕ}
use lib.ListN.{length}
use contract.Lifetimes.{Lfts}
use denote.Ref.{Bor}
use Rattle.std.specs.Prelude.{Result, Ok}
use Rattle.model.specs.Said.{Outcome, says, after, mapped, bad_value}
use Rattle.model.specs.Mux.{Mux, Switch, paddings, carrying_mode, true_counting}
use Rattle.model.specs.Demux as model
use Rattle.model.specs.Demux.{Taken, quiet, turn608_on, take_frame}
use Rattle.caption.specs.Answers.{outcome}
use Rattle.caption.proofs.Outcomes.{outcome_injective}
use Rattle.caption.specs.declared.Cea608.{Cea608}
use Rattle.caption.specs.declared.Framerate.{Framerate}
use Rattle.caption.specs.declared.Refusal.{Refusal}
use Rattle.packet.specs.declared.DTVCCPacket.{DTVCCPacket}
use Rattle.writer.specs.Writer as writer
use Rattle.writer.specs.Writer.{valid_writer, stored, emptied, moved}
use Rattle.writer.specs.Calls.{packet_outcome, pair_outcome, switch_outcome, flush_outcome, written}
use Rattle.writer.specs.declared.CCDataWriter.{CCDataWriter}
use Rattle.parser.specs.Means as parser
use Rattle.parser.specs.Valid.{valid}
use Rattle.parser.specs.Calls.{laid_after}
use Rattle.parser.specs.After.{left_by}
use Rattle.parser.specs.Items.{drawn_of}
use Rattle.parser.specs.declared.CCDataParser.{CCDataParser}
use Rattle.parser.specs.declared.Drawn.{Drawn}
use Rattle.theorems.specs.Allowed.{Output, Lent, Writer, Parser, Answer, PushPacket, PushCea608, SetCea608Padding, SetPadding, SetCarrying, SetTrueCount, Flush, Write, HandleCea608, Push, Draw}

-- a call of the multiplexer answers what the model's does; the state that it leaves means what the model's is then, and stands in the places given
pub record Answers (o : Outcome Mux) (placed : Mux → CCDataWriter) (w : CCDataWriter) (r : Answer) (w' : CCDataWriter) : Type 0 where
  pub answer : says (outcome r) ≡ says o
  pub means : writer.means w' ≡ after (writer.means w) o
  pub places : w' ≡ after w (mapped placed o)

-- a write answers the frame's length; the frame is in the output, and the state is as after the other calls
pub record Writes (rate : Framerate) (out : List ℕ) (w : CCDataWriter) (r : Result ℕ Refusal) (w' : CCDataWriter) (end : List ℕ) : Type 0 where
  pub answer : outcome r ≡ mapped (λ x. length x.frame) (written rate out w)
  pub means : writer.means w' ≡ after (writer.means w) (mapped (λ x. x.next) (written rate out w))
  pub places : w' ≡ after w (mapped (λ x. moved w x.next) (written rate out w))
  pub output : end ≡ after out (mapped (λ x. x.out) (written rate out w))

-- a call of the demultiplexer answers what the model's does and leaves what that leaves, in its places; [A4] 11 comes first, and then all stays
pub record Takes (t : Taken) (p : CCDataParser) (r : Answer) (p' : CCDataParser) : Type 0 where
  pub answer : says (outcome r) ≡ cond (valid p) t.answer bad_value
  pub means : valid p ≡ true → parser.means p' ≡ t.next
  pub places : p' ≡ left_by (laid_after p) p t

-- a draw gives what the model draws and leaves what that leaves; [A4] 11 comes first, and then all stays
pub record Draws (p : CCDataParser) (r : Result Drawn Refusal) (p' : CCDataParser) : Type 0 where
  pub answer : valid p ≡ true → r ≡ Ok (drawn_of (model.draw (parser.means p)).item)
  pub means : valid p ≡ true → parser.means p' ≡ (model.draw (parser.means p)).next
  pub places : p' ≡ left_by (laid_after p) p (quiet (model.draw (parser.means p)).next)

-- the multiplexer's calls
module _ (w w' : Writer) (r : Answer) where
  -- a contract of these clauses, and one behind them
  answers : {o : Outcome Mux} {placed : Mux → CCDataWriter} {kept : Type 0}
      → (says (outcome r) ≡ says o) × ((writer.means w'.now ≡ after (writer.means w.now) o) × ((w'.now ≡ after w.now (mapped placed o)) × kept))
      → Answers o placed w.now r w'.now
  answers a = record { answer = a.0; means = a.1.0; places = a.1.1.0 }

  pub packet_says : (κs : Lfts 2) (d : Bor DTVCCPacket) → PushPacket κs w d r w' → Answers (packet_outcome d.now w.now) (stored w.now) w.now r w'.now
  packet_says κs d a = answers a

  pub pair_says : (κs : Lfts 1) (x : Cea608) → PushCea608 κs w x r w' → Answers (pair_outcome x w.now) (stored w.now) w.now r w'.now
  pair_says κs x a = answers a

  -- a switch
  abbrev Switches : Switch → Type 0
  Switches x = Answers (switch_outcome x w.now) (stored w.now) w.now r w'.now

  pub cea608_padding_says : (κs : Lfts 1) (on : Bool) → SetCea608Padding κs w on r w' → Switches (paddings on w.now.output_padding)
  cea608_padding_says κs on a = answers a

  pub padding_says : (κs : Lfts 1) (on : Bool) → SetPadding κs w on r w' → Switches (paddings w.now.output_cea608_padding on)
  padding_says κs on a = answers a

  pub carrying_says : (κs : Lfts 1) (on : Bool) → SetCarrying κs w on r w' → Switches (carrying_mode on)
  carrying_says κs on a = answers a

  pub true_count_says : (κs : Lfts 1) (on : Bool) → SetTrueCount κs w on r w' → Switches (true_counting on)
  true_count_says κs on a = answers a

  pub flush_says : (κs : Lfts 1) → Flush κs w r w' → Answers (flush_outcome w.now) (emptied w.now) w.now r w'.now
  flush_says κs a = answers a

pub write_says : (κs : Lfts 2) (w w' : Writer) (rate : Framerate) (out end : Output) (r : Result ℕ Refusal) → Write κs w rate out r w' end → Writes rate out.now w.now r w'.now end.now
write_says κs w w' rate out end r a = record { answer = a.0; means = a.1.0; places = a.1.1.0; output = a.1.1.1.0 }

-- the demultiplexer's calls
module _ (p p' : Parser) (r : Answer) where
  pub handle_says : (κs : Lfts 1) → HandleCea608 κs p r p' → Takes (quiet (turn608_on (parser.means p.now))) p.now r p'.now
  handle_says κs a = record { answer = a.0; means = a.1.0; places = a.1.1 }

  pub push_says : (κs : Lfts 2) (frame : Lent) → Push κs p frame r p' → Takes (take_frame frame.now (parser.means p.now)) p.now r p'.now
  push_says κs frame a = record { answer = a.0; means = a.1.0; places = a.1.1 }

pub draw_says : (κs : Lfts 1) (p p' : Parser) (r : Result Drawn Refusal) → Draw κs p r p' → Draws p.now r p'.now
draw_says κs p p' r a = record { answer = λ v. outcome_injective r (Ok _) (rw v at a.1.0); means = a.1.1.0; places = a.1.1.1 }
