-- Each line of a script is its parts, laid one behind another. Assumes nothing.
use mathlib.Core.Path.{◌≡◌}
use mathlib.Core.List.{List}
use Prim.Native.Nat.{ℕ}
use Rattle.model.specs.Said.{Said}
use Rattle.caption.specs.declared.Refusal.{Refusal}
use Rattle.std.specs.Prelude.{Result, Ok}
use Rattle.caption.specs.Answers.{said}
use Rattle.program_text.specs.Laid.{Laid}
use Rattle.program_text.specs.Text.{word}
use Rattle.program_text.proofs.Layings.{laid_append}
use Rattle.program_lines.specs.Lines.{values_text, run_text, answer_text}
use Rattle.script_answers.specs.Script.{answer_line, lent_line, run_line}

module _ {out mid after : List ℕ} {at p r : ℕ} where
  pub line_answer : (s : Said) → Laid (answer_text s) out at p mid → Laid (word "\n") mid p r after → Laid (answer_line s) out at r after
  unfolding answer_line
  line_answer s f l = laid_append f l

  pub line_numbers : {m : List ℕ} {q : ℕ} (a : Result (List ℕ) Refusal) (ns : List ℕ) → a ≡ Ok ns → Laid (word "ok") out at p mid
      → Laid (values_text ns) mid p q m → Laid (word "\n") m q r after → Laid (answer_line (said (λ ks. ks) a)) out at r after
  unfolding answer_line answer_text
  line_numbers a ns e f v l = rw e (laid_append (laid_append f v) l)

  pub line_lent : {m : List ℕ} {q : ℕ} (s : Said) (lent : List ℕ) → Laid (answer_text s) out at p mid → Laid (run_text lent) mid p q m
      → Laid (word "\n") m q r after → Laid (lent_line s lent) out at r after
  unfolding lent_line
  line_lent s lent f b l = laid_append (laid_append f b) l

  pub line_run : {m : List ℕ} {q : ℕ} (bs : List ℕ) → Laid (word "ok") out at p mid → Laid (run_text bs) mid p q m → Laid (word "\n") m q r after
      → Laid (run_line bs) out at r after
  unfolding run_line
  line_run bs f b l = laid_append (laid_append f b) l
