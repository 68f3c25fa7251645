-- The lines of a frame: what it is answered and, where it is accepted, what then waits. Assumes nothing.
use mathlib.Core.Path.{◌≡◌, sym, ap, ◌∙◌}
use mathlib.Core.Bool.{true, false}
use mathlib.Core.List.{List, ◌++◌, append-nil}
use Prim.Native.Nat.{ℕ}
use native.Mathlib.Omega.{arith}
use lib.Dec.{eqb}
use borrow.Author.Tests.{eq-eqb, ne_eqb}
use Rattle.caption.specs.declared.Refusal.{Refusal}
use Rattle.std.specs.Prelude.{Result, Ok, Err}
use Rattle.caption.specs.Answers.{outcome}
use Rattle.caption.proofs.Answers.{refusal_numbered}
use Rattle.model.specs.Said.{Said, says}
use Rattle.model.specs.Demux.{take_frame}
use Rattle.model.proofs.Cases.{by_test}
use Rattle.program_text.specs.Laid.{Laid}
use Rattle.program_text.proofs.Layings.{laid_append}
use Rattle.program_lines.specs.Lines.{frame_line}
use Rattle.parser.specs.Valid.{valid}
use Rattle.parser.specs.Means.{means, Shaped}
use Rattle.parser.specs.Calls.{laid_after}
use Rattle.parser.proofs.Calls.{Answers}
use Rattle.parser.specs.After.{said_of}
use Rattle.parser.specs.declared.CCDataParser.{CCDataParser}
use Rattle.parser.proofs.Laid.{Sound}
use Rattle.parser.proofs.Kept.{pushed_sound}
use Rattle.ccread_report.specs.Report.{waiting_lines, taken_lines, frame_lines, drawn_out, settled}

-- a frame pushed
module _ (p : CCDataParser) (f : List ℕ) (shaped : Shaped p) (a : Result (Unit {0}) Refusal) (q : CCDataParser) (h : Answers (take_frame f (means p)) (laid_after p) p a q) where
  abbrev number : Said → ℕ
  number s = s.number

  -- it is accepted
  module _ (e : a ≡ Ok (tt {0})) where
    zero_said : (said_of p (take_frame f (means p))).number ≡ 0
    zero_said = ap number (sym h.answer ∙ ap (λ (x : Result (Unit {0}) Refusal). says (outcome x)) e)

    sound : Sound p
    sound =
        record {
          valid = by_test (valid p) (λ v. v) (λ v. let z : 11 ≡ 0 = rw v at zero_said in absurd (omega arith));
          shaped = shaped;
        }

    pub pushed_valid : valid q ≡ true
    pushed_valid = rw h.places (pushed_sound p f sound).valid

    lines_are : (r : ℕ) → frame_lines r f p ≡ frame_line r (says (outcome a)) ++ waiting_lines (means q)
    unfolding frame_lines taken_lines
    lines_are r =
        let z : (take_frame f (means p)).answer.number ≡ 0 = rw sound.valid at zero_said in
        let s : says (outcome a) ≡ (take_frame f (means p)).answer = rw sound.valid at h.answer in
        rw (sound.valid, eq-eqb _ _ z, h.state sound.valid, s)

    pub accepted_lines : (r : ℕ) {out mid after : List ℕ} {at k t : ℕ} → Laid (frame_line r (says (outcome a))) out at k mid
        → Laid (waiting_lines (means q)) mid k t after → Laid (frame_lines r f p) out at t after
    accepted_lines r v w = rw (lines_are r) (laid_append v w)

    pub accepted_state : drawn_out 63 q ≡ settled p f
    unfolding settled
    accepted_state = rw (eq-eqb _ _ zero_said, h.places)

  -- it is refused
  module _ (why : Refusal) (e : a ≡ Err why) where
    some_said : eqb (said_of p (take_frame f (means p))).number 0 ≡ false
    some_said = ne_eqb _ _ (λ z. refusal_numbered why (ap number (ap (λ (x : Result (Unit {0}) Refusal). says (outcome x)) (sym e) ∙ h.answer) ∙ z))

    pub refused_lines : (r : ℕ) → frame_line r (says (outcome a)) ≡ frame_lines r f p
    unfolding frame_lines taken_lines
    refused_lines r =
        by_test (valid p)
        (λ v. let n : eqb (take_frame f (means p)).answer.number 0 ≡ false = rw v at some_said in
        let s : says (outcome a) ≡ (take_frame f (means p)).answer = rw v at h.answer in
        rw (v, n, s, append-nil))
        (λ v. rw v (ap (frame_line r) (rw v at h.answer)))

    pub refused_state : q ≡ settled p f
    unfolding settled
    refused_state = rw some_said h.places
