-- What is told of a packet that is read, and what is left of the reader. Assumes nothing.
use mathlib.Core.Path.{◌≡◌, refl, sym, ap, ap₂, subst, ◌∙◌}
use mathlib.Core.List.{List, [], ◌∷◌, append-nil, append_assoc}
use Prim.Native.Nat.{ℕ}
use lib.ListN.{take, drop}
use Rattle.std.specs.Prelude.{Result, Ok, Err}
use Rattle.model.specs.Said.{mapped, after, accepted}
use Rattle.model.specs.Distribution.{receive}
use Rattle.caption.specs.declared.Refusal.{Refusal}
use Rattle.caption.specs.Answers.{outcome}
use Rattle.distribution.specs.declared.Received.{Received}
use Rattle.distribution.specs.declared.DistributionReader.{DistributionReader}
use Rattle.distribution.specs.States.{last_of, reader_at}
use Rattle.distribution.specs.Calls.{read_by, told_of}
use Rattle.distribution.proofs.Given.{reads_gave, reads_why}
use Rattle.program_text.specs.Laid.{Laid}
use Rattle.program_text.specs.Text.{word}
use Rattle.program_text.proofs.Layings.{laid_append}
use Rattle.program_lines.specs.Lines.{value_text, values_text, run_text, answer_text}
use Rattle.script_answers.specs.Steps.{Did, lent_out}
use Rattle.script_answers.proofs.Parts.{line_lent}
use Rattle.script_distribution.specs.Lines.{packet_line, received_line, front_line}
use Rattle.script_distribution.specs.Links.{with_reader, reads_packet}
use Rattle.script_distribution.specs.declared.Link.{Link}

-- two numbers behind `ok`
told_two : {out m₁ m₂ m₃ : List ℕ} {at p q s : ℕ} (code counter : ℕ) → Laid (word "ok") out at p m₁ → Laid (value_text code) m₁ p q m₂ → Laid (value_text counter) m₂ q s m₃
    → Laid (answer_text (accepted (code ∷ counter ∷ []))) out at s m₃
unfolding answer_text values_text
told_two code counter f v w = rw (append-nil (value_text counter), ← append_assoc (word "ok") (value_text code) (value_text counter)) (laid_append (laid_append f v) w)

-- the line of a packet, part by part
pub line_packet : {out m₁ m₂ m₃ m₄ now : List ℕ} {at p q s t r : ℕ} (code counter : ℕ) (frame : List ℕ) → Laid (word "ok") out at p m₁
    → Laid (value_text code) m₁ p q m₂ → Laid (value_text counter) m₂ q s m₃ → Laid (run_text frame) m₃ s t m₄ → Laid (word "\n") m₄ t r now
    → Laid (packet_line code counter frame) out at r now
line_packet code counter frame f v w b l = line_lent (accepted (code ∷ counter ∷ [])) frame (told_two code counter f v w) b l

-- by what a reader answers
module _ {out now : List ℕ} {at r : ℕ} (lent : List ℕ) where
  pub front_packet : (x : Received) (frame : List ℕ) → frame ≡ take x.len (drop 0 lent) → Laid (packet_line x.code x.counter frame) out at r now → Laid (front_line (Ok x) lent) out at r now
  front_packet x frame f l = rw (← f) l

-- what is laid is what is to be told
module _ (reader : DistributionReader) (s lent : List ℕ) (r : Result Received Refusal) (end : List ℕ) (h : outcome r ≡ mapped told_of (read_by reader s lent))
    (put : end ≡ after lent (mapped (λ x. x.out) (read_by reader s lent))) where
  told_front : (x : Result Received Refusal) → r ≡ x → front_line x end ≡ received_line (receive (last_of reader.last) s lent)
  told_front (Ok x) e =
      let g = reads_gave reader s lent r h end put x e in
      ap (λ (k : ℕ). packet_line k x.counter (take x.len end)) g.code
      ∙ ap₂ (λ (k : ℕ) (l : List ℕ). packet_line g.read.packet.code k l) g.counter g.frame
      ∙ sym (ap received_line g.whole)
  told_front (Err why) e = sym (ap received_line (reads_why reader s lent r h why e))

-- a packet read
pub did_read : {out now end : List ℕ} {at laid : ℕ} (s : List ℕ) (link : Link) (r : Result Received Refusal) (next : DistributionReader)
    → outcome r ≡ mapped told_of (read_by link.reader s (lent_out 95)) → next ≡ after link.reader (mapped (λ x. reader_at x.packet.counter) (read_by link.reader s (lent_out 95)))
    → end ≡ after (lent_out 95) (mapped (λ x. x.out) (read_by link.reader s (lent_out 95)))
    → Laid (front_line r end) out at laid now → Did (reads_packet s link) out at laid (with_reader link next) now
did_read {out} {now} {end} {at} {laid} s link r next h places put l =
    record {
      told = subst (λ (t : List ℕ). Laid t out at laid now) (told_front link.reader s (lent_out 95) r end h put r refl) l;
      left = ap (with_reader link) places;
    }
