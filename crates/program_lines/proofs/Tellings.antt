-- What an answer says, laid. Assumes nothing.
use mathlib.Core.Path.{◌≡◌, refl, sym, ap, ◌∙◌}
use mathlib.Core.List.{List, [], ◌∷◌, ◌++◌, append-nil, append_assoc}
use Prim.Native.Nat.{ℕ, ◌+◌, ◌≤◌, ◌<◌, min}
use native.Mathlib.Omega.{arith}
use lib.ListN.{length, take, get_or}
use borrow.Author.Tests.{eq-eqb, ne_eqb}
use Rattle.std.proofs.lemmas.List.{take_more}
use Rattle.model.specs.Said.{Said}
use Rattle.program_answers.specs.declared.Numbers.{Numbers}
use Rattle.program_answers.specs.Telling.{said_by, told_by}
use Rattle.program_answers.proofs.Tellings.{told_back}
use Rattle.program_text.specs.Laid.{Laid}
use Rattle.program_text.specs.Text.{word, decimal}
use Rattle.program_lines.specs.Lines.{value_text, values_text, number_text, answer_text, frame_line}
use Rattle.program_text.proofs.Layings.{laid_append}

-- one more behind others
pub values_more : (ns : List ℕ) (n : ℕ) → values_text ns ++ value_text n ≡ values_text (ns ++ (n ∷ []))
unfolding values_text
values_more [] n = sym (append-nil (value_text n))
values_more (m ∷ ns) n = append_assoc (value_text m) (values_text ns) (value_text n) ∙ ap (λ (l : List ℕ). value_text m ++ l) (values_more ns n)

-- several numbers laid one behind another: none at first,
pub laid_none : (out : List ℕ) (at p : ℕ) → p ≡ min at (length out) → Laid (values_text []) out at p out
unfolding values_text
laid_none out at p e = record { place = omega (arith, e); bytes = refl }

-- and one more at each turn
pub laid_more : (ns : List ℕ) (i : ℕ) {out mid after : List ℕ} {at p q : ℕ} → i < length ns → Laid (values_text (take i ns)) out at p mid
    → Laid (value_text (get_or ns i 0)) mid p q after → Laid (values_text (take (i + 1) ns)) out at q after
laid_more ns i h f v = rw (take_more ns i 0 h, ← values_more (take i ns) (get_or ns i 0)) (laid_append f v)

-- an answer: whether it accepts, and its values behind
pub laid_answer : (t : Numbers) {out mid after : List ℕ} {at p r : ℕ} → Laid (number_text t.number) out at p mid
    → Laid (values_text (take t.count t.values)) mid p r after → Laid (answer_text (said_by t)) out at r after
unfolding answer_text
laid_answer t f v = laid_append f v

-- what is told of an answer is the answer's
pub laid_told : {out after : List ℕ} {at r : ℕ} (t : Numbers) (s : Said) → t ≡ told_by s → length s.values ≤ 3 → Laid (answer_text (said_by t)) out at r after
    → Laid (answer_text s) out at r after
laid_told t s e few w = rw (ap said_by e ∙ told_back s few) at w

-- the number that is told
same : (t : Numbers) (s : Said) → t ≡ told_by s → t.number ≡ s.number
same t s e = ap (λ (x : Numbers). x.number) e

-- the line of a frame
module _ (t : Numbers) (s : Said) (e : t ≡ told_by s) (n : ℕ) {out mid after : List ℕ} {at p r : ℕ} where
  pub frame_ok : t.number ≡ 0 → Laid (word "frame " ++ decimal n) out at p mid → Laid (word " ok\n") mid p r after → Laid (frame_line n s) out at r after
  unfolding frame_line
  frame_ok z f k = rw (← same t s e, eq-eqb _ _ z) (laid_append f k)

  pub frame_refused : {mid' : List ℕ} {q : ℕ} → (t.number ≡ 0 → ⊥) → Laid (word "frame " ++ decimal n) out at p mid
      → Laid (word " refused " ++ decimal t.number) mid p q mid' → Laid (word "\n") mid' q r after → Laid (frame_line n s) out at r after
  unfolding frame_line
  frame_refused z f k l = rw (← same t s e, ne_eqb _ _ z) (laid_append f (laid_append k l))
