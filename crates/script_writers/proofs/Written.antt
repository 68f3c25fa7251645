-- What is left of the multiplexer, by what its calls promise. Assumes nothing.
use mathlib.Core.Path.{◌≡◌, ap}
use mathlib.Core.Bool.{Bool}
use mathlib.Core.List.{List, [], ◌∷◌}
use Prim.Native.Nat.{ℕ}
use lib.ListN.{length, drop, get_or}
use Rattle.std.specs.Prelude.{Result}
use Rattle.model.specs.Said.{Outcome, gave, refused, says, says_with, after, mapped, checked}
use Rattle.model.specs.Mux.{Written, with_pads, with_mode, with_true_count, paddings, carrying_mode, true_counting}
use Rattle.caption.specs.declared.Framerate.{Framerate}
use Rattle.caption.specs.declared.Refusal.{Refusal}
use Rattle.caption.specs.Answers.{outcome, said}
use Rattle.caption.specs.Rates.{rate}
use Rattle.writer.specs.declared.CCDataWriter.{CCDataWriter}
use Rattle.writer.specs.Writer.{means, valid_writer, stored, moved}
use Rattle.writer.specs.Calls.{switch_outcome, written}
use Rattle.writer.proofs.Calls.{Answers}
use Rattle.writer.proofs.Switches.{Switched, none_set, switched_within, switched_as, one_set, set_answer}
use Rattle.program_text.specs.Laid.{Laid}
use Rattle.program_records.specs.Reading.{highest_first}
use Rattle.script_answers.specs.Script.{answer_line, lent_line}
use Rattle.script_answers.specs.Steps.{Did, lays, lent_out}
use Rattle.script_writers.specs.Writers.{wrote, writes_frame}

-- a length that was written is told as the call's answer says it
told_length : (o : Outcome Written) (r : Result ℕ Refusal) → outcome r ≡ mapped (λ x. length x.frame) o → said (λ n. n ∷ []) r ≡ says_with (λ x. length x.frame ∷ []) o
told_length (gave x) r e = ap (says_with (λ n. n ∷ [])) e
told_length (refused why) r e = ap (says_with (λ n. n ∷ [])) e

-- a frame written
pub did_write : {out now lent' : List ℕ} {at laid : ℕ} (lent : List ℕ) (speed : Framerate) (w w' : CCDataWriter) (r : Result ℕ Refusal)
    → outcome r ≡ mapped (λ x. length x.frame) (written speed lent w) → w' ≡ after w (mapped (λ x. moved w x.next) (written speed lent w))
    → lent' ≡ after lent (mapped (λ x. x.out) (written speed lent w)) → Laid (lent_line (said (λ n. n ∷ []) r) lent') out at laid now
    → Did (wrote speed lent w) out at laid w' now
did_write lent speed w w' r e f g l = record { told = rw (← told_length (written speed lent w) r e, ← g) l; left = f }

-- the switches set, one after the other
module _ (a b on exact : Bool) (w f s t u : CCDataWriter) (k l m n : Result (Unit {0}) Refusal)
    (x : Answers (switch_outcome (paddings a w.output_padding) w) (stored w) w k f)
    (y : Answers (switch_outcome (paddings f.output_cea608_padding b) f) (stored f) f l s)
    (z : Answers (switch_outcome (carrying_mode on) s) (stored s) s m t)
    (q : Answers (switch_outcome (true_counting exact) t) (stored t) t n u) where
  -- the paddings
  padded : Switched w (with_pads a b (means w)) s
  unfolding means
  padded =
      let first = one_set (none_set w) (paddings a w.output_padding) k f x in
      let second = one_set first (paddings f.output_cea608_padding b) l s y in
      switched_as second (with_pads a b (means w)) (λ e. rw (switched_within first e))

  -- and the mode
  carried : Switched w (with_mode on (with_pads a b (means w))) t
  carried = one_set padded (carrying_mode on) m t z

  pub did_switch : {out now : List ℕ} {at laid : ℕ} → Laid (answer_line (said (λ _. []) n)) out at laid now
      → Did (lays stored w (checked (valid_writer w) (gave (with_true_count exact (with_mode on (with_pads a b (means w))))))) out at laid u now
  did_switch h = record { told = rw (← set_answer carried (true_counting exact) n u q) h; left = (one_set carried (true_counting exact) n u q).places }

-- the rate and the length of the output by the argument bytes
pub told_frame : {out now : List ℕ} {at laid : ℕ} {next : CCDataWriter} (a lent : List ℕ) (w : CCDataWriter) (speed : Framerate) (x y n : ℕ)
    → Did (wrote speed lent w) out at laid next now → speed ≡ rate x y → x ≡ highest_first (drop 0 a) → y ≡ highest_first (drop 4 a)
    → n ≡ get_or a 8 0 → lent ≡ lent_out n → Did (writes_frame a w) out at laid next now
told_frame a lent w speed x y n d p q s t e = rw (p, q, s, e, t) at d
