-- The lines of a distribution packet: what it is answered and, where it is accepted, those of its frame. Assumes nothing.
use mathlib.Core.Path.{◌≡◌, refl, sym, ap, ap₂, subst, ◌∙◌}
use mathlib.Core.List.{List, [], ◌∷◌, ◌++◌, append-nil}
use Prim.Native.Nat.{ℕ}
use lib.ListN.{take, drop}
use borrow.Author.Tests.{eq-eqb, ne_eqb}
use Rattle.caption.specs.declared.Refusal.{Refusal}
use Rattle.std.specs.Prelude.{Result, Ok, Err}
use Rattle.caption.specs.Answers.{outcome, said_refusal}
use Rattle.model.specs.Said.{Said, Outcome, gave, refused, accepted, mapped, after}
use Rattle.model.specs.Distribution.{frame_of}
use Rattle.model.specs.Distribution as packets
use Rattle.distribution.specs.States.{reader_at}
use Rattle.distribution.specs.Calls.{read_by, told_of}
use Rattle.distribution.specs.declared.Received.{Received}
use Rattle.distribution.specs.declared.DistributionReader.{DistributionReader}
use Rattle.distribution.proofs.Given.{Gave, reads_why, reads_gave}
use Rattle.parser.specs.declared.CCDataParser.{CCDataParser}
use Rattle.program_text.specs.Laid.{Laid}
use Rattle.program_text.specs.Text.{word, decimal}
use Rattle.program_text.proofs.Layings.{laid_append}
use Rattle.program_lines.specs.Lines.{value_text, values_text, answer_text}
use Rattle.ccread_report.specs.Report.{frame_lines, settled, lent, cdp_read, cdp_values, cdp_line, cdp_told, cdp_lines, cdp_taken, record_lines, recorded, said_cdp, besides}
use Rattle.ccread_report.specs.declared.Told.{Told}
use Rattle.ccread_report.specs.declared.Capture.{Capture}
use Rattle.ccread_report.specs.declared.Recorded.{Recorded}

-- what a packet is answered, by its parts: accepted, and refused
module _ (x : Result Received Refusal) {out after : List ℕ} {at r : ℕ} where
  pub laid_accepted : {mid more : List ℕ} {p q : ℕ} (packet : Received) → x ≡ Ok packet → Laid (word "ok") out at p mid
      → Laid (value_text packet.code) mid p q more → Laid (value_text packet.counter) more q r after → Laid (answer_text (said_cdp x)) out at r after
  unfolding answer_text values_text
  laid_accepted packet e f v w = rw (e, append-nil) (laid_append f (laid_append v w))

  pub laid_refused : (why : Refusal) → x ≡ Err why → Laid (answer_text (said_refusal why)) out at r after → Laid (answer_text (said_cdp x)) out at r after
  laid_refused why e w = rw e w

-- the line of a packet, by its parts
pub laid_cdp_line : {out m₁ m₂ m₃ m₄ after : List ℕ} {at p q s t r : ℕ} (n : ℕ) (x : Result Received Refusal) → Laid (word "cdp ") out at p m₁ → Laid (decimal n) m₁ p q m₂
    → Laid (word " ") m₂ q s m₃ → Laid (answer_text (said_cdp x)) m₃ s t m₄ → Laid (word "\n") m₄ t r after → Laid (cdp_line n (said_cdp x)) out at r after
unfolding cdp_line
laid_cdp_line n x a b c d e = laid_append (laid_append (laid_append (laid_append a b) c) d) e

-- the line of a packet that is refused stands alone
pub refused_alone : (n : ℕ) (p : CCDataParser) (why : Said) → cdp_told n p (refused why) ≡ cdp_line n why
unfolding cdp_told
refused_alone n p why = append-nil (cdp_line n why)

-- the lines of a packet that is given, and what the program has after it
module _ (n : ℕ) (s : List ℕ) (c : Capture) (x : packets.Received) (whole : cdp_read s c.reader ≡ gave x) where
  given_lines : cdp_lines n s c ≡ cdp_line n (accepted (cdp_values x)) ++ frame_lines n (frame_of x.packet) c.parser
  unfolding cdp_lines cdp_told
  given_lines = rw whole

  given_taken : cdp_taken s c ≡ record { parser = settled c.parser (frame_of x.packet); reader = reader_at x.packet.counter }
  unfolding cdp_taken
  given_taken = rw whole

-- a packet that is read, its frame laid into what is lent
module _ (n : ℕ) (s : List ℕ) (c : Capture) (r : Result Received Refusal) (told : outcome r ≡ mapped told_of (read_by c.reader s lent))
    (reader : DistributionReader) (next : reader ≡ after c.reader (mapped (λ x. reader_at x.packet.counter) (read_by c.reader s lent))) where
  -- what it gives
  abbrev o : Outcome packets.Received
  o = cdp_read s c.reader

  -- the reader afterwards
  reader_is : reader ≡ after c.reader (mapped (λ x. reader_at x.packet.counter) o)
  unfolding cdp_read
  reader_is = next

  -- it is accepted, and its frame stands in front of what was lent
  module _ (end : List ℕ) (output : end ≡ after lent (mapped (λ x. x.out) (read_by c.reader s lent))) (read : Received) (e : r ≡ Ok read)
      (part : List ℕ) (is : part ≡ take read.len (drop 0 end)) where
    given : Gave read end o
    unfolding cdp_read
    given = reads_gave c.reader s lent r told end output read e

    abbrev x : packets.Received
    x = given.read

    frame_is : part ≡ frame_of x.packet
    frame_is = is ∙ given.frame

    values_are : said_cdp r ≡ accepted (cdp_values x)
    values_are = ap said_cdp e ∙ ap₂ (λ (a b : ℕ). accepted (a ∷ b ∷ [])) given.code given.counter

    state_is : (p : CCDataParser) → p ≡ settled c.parser part → record { parser = p; reader = reader } ≡ cdp_taken s c
    state_is p q =
        ap₂ (λ (a : CCDataParser) (d : DistributionReader). record { parser = a; reader = d }) (q ∙ ap (settled c.parser) frame_is)
        (reader_is ∙ ap (λ (y : Outcome packets.Received). after c.reader (mapped (λ z. reader_at z.packet.counter) y)) given.whole)
        ∙ sym (given_taken n s c x given.whole)

    pub accepted_cdp : (told : Told) (w : Recorded) {out mid after : List ℕ} {at p : ℕ} → Laid (cdp_line n (said_cdp r)) out at p mid
        → Laid (frame_lines n part c.parser) mid p told.laid after → told.parser ≡ settled c.parser part → w ≡ besides told reader
        → Laid (cdp_lines n s c) out at w.laid after × (w.capture ≡ cdp_taken s c)
    accepted_cdp told w {out} {mid} {after} {at} {p} v l q e =
        let lines = ap₂ (λ (y : Said) (f : List ℕ). cdp_line n y ++ frame_lines n f c.parser) values_are frame_is ∙ sym (given_lines n s c x given.whole) in
        let laid = subst (λ (l : List ℕ). Laid l out at told.laid after) lines (laid_append v l) in
        (rw e laid, ap (λ (y : Recorded). y.capture) e ∙ state_is told.parser q)

  -- it is refused
  module _ (why : Refusal) (e : r ≡ Err why) where
    refused_is : o ≡ refused (said_refusal why)
    unfolding cdp_read
    refused_is = reads_why c.reader s lent r told why e

    refused_lines : cdp_line n (said_cdp r) ≡ cdp_lines n s c
    unfolding cdp_lines
    refused_lines = rw (refused_is, refused_alone n c.parser (said_refusal why), e)

    refused_taken : record { parser = c.parser; reader = reader } ≡ cdp_taken s c
    unfolding cdp_taken
    refused_taken = rw (reader_is, refused_is)

    pub refused_cdp : (w : Recorded) {out after : List ℕ} {at t : ℕ} → Laid (cdp_line n (said_cdp r)) out at t after
        → w ≡ besides (record { laid = t; parser = c.parser }) reader → Laid (cdp_lines n s c) out at w.laid after × (w.capture ≡ cdp_taken s c)
    refused_cdp w v q = (rw (q, ← refused_lines) v, ap (λ (y : Recorded). y.capture) q ∙ refused_taken)

-- a record, by its kind: a packet, and a frame
module _ (n kind : ℕ) (s : List ℕ) (c : Capture) (r : Recorded) {out after : List ℕ} {at : ℕ} where
  pub packet_record : kind ≡ 0xCD → Laid (cdp_lines n s c) out at r.laid after → r.capture ≡ cdp_taken s c
      → Laid (record_lines n kind s c) out at r.laid after × (r.capture ≡ recorded kind s c)
  unfolding record_lines recorded
  packet_record e v q = rw (eq-eqb _ _ e) (v, q)

  pub frame_record : (told : Told) → (kind ≡ 0xCD → ⊥) → Laid (frame_lines n s c.parser) out at told.laid after → told.parser ≡ settled c.parser s
      → r ≡ besides told c.reader → Laid (record_lines n kind s c) out at r.laid after × (r.capture ≡ recorded kind s c)
  unfolding record_lines recorded
  frame_record told e v q h = rw (ne_eqb _ _ e, h, ← q) (v, refl)
