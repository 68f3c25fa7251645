-- What an operation does, by the call that it makes. Assumes nothing.
use mathlib.Core.Path.{◌≡◌, refl, ap, ◌∙◌}
use mathlib.Core.Bool.{Bool}
use mathlib.Core.List.{List, [], ◌∷◌}
use Prim.Native.Nat.{ℕ}
use lib.ListN.{length}
use Rattle.std.specs.Prelude.{Result}
use Rattle.model.specs.Said.{Said, Outcome, gave, refused, says, says_with, mapped, after, checked, put_into}
use Rattle.caption.specs.declared.Refusal.{Refusal}
use Rattle.caption.specs.Answers.{outcome, said}
use Rattle.program_text.specs.Laid.{Laid}
use Rattle.program_text.specs.Text.{word}
use Rattle.program_lines.specs.Lines.{answer_text, values_text}
use Rattle.script_answers.specs.Script.{answer_line, lent_line}
use Rattle.script_answers.specs.Steps.{Did, tells, lays, renews, takes}

-- a number that was written is told as the call's answer says it
told_written : (bytes : List ℕ) (o : Outcome (List ℕ)) (r : Result ℕ Refusal) → outcome r ≡ mapped (λ _. length bytes) o
    → said (λ n. n ∷ []) r ≡ says_with (λ _. length bytes ∷ []) o
told_written bytes (gave x) r e = ap (says_with (λ n. n ∷ [])) e
told_written bytes (refused why) r e = ap (says_with (λ n. n ∷ [])) e

module _ {S : Type 0} {out now : List ℕ} {at laid : ℕ} where
  -- the same, by what the call promises of its answer
  pub did_as : (said said' : Said) (state next next' : S) → Did (tells said next) out at laid state now → said ≡ said' → next ≡ next'
      → Did (tells said' next') out at laid state now
  did_as said said' state next next' d e f = record { told = rw (← e) d.told; left = d.left ∙ f }

  -- an outcome is told as the call's answer says it, and what the outcome leaves is there
  pub did_lay : {M : Type 0} (over : S → M → S) (old state : S) (o : Outcome M) (r : Result (Unit {0}) Refusal) → says (outcome r) ≡ says o
      → state ≡ after old (mapped (over old) o) → Laid (answer_line (said (λ _. []) r)) out at laid now → Did (lays over old o) out at laid state now
  did_lay over old state o r e f l = record { told = rw (← e) l; left = f }

  -- a new one takes the place of the old one where the call gives it,
  pub did_renew : (made old : S) (o : Outcome S) → gave made ≡ o → Laid (word "ok\n") out at laid now → Did (renews o old) out at laid made now
  unfolding answer_line answer_text values_text
  did_renew made old o e l = rw (← e) (record { told = l; left = refl })

  -- and the old one stays where it refuses
  pub did_keep : (why : Said) (old : S) (o : Outcome S) → refused why ≡ o → Laid (answer_line why) out at laid now → Did (renews o old) out at laid old now
  did_keep why old o e l = rw (← e) (record { told = l; left = refl })

  -- the same where a line tells of the new one
  pub did_take : (line : S → List ℕ) (made old : S) (o : Outcome S) → gave made ≡ o → Laid (line made) out at laid now
      → Did (takes line o old) out at laid made now
  did_take line made old o e l = rw (← e) (record { told = l; left = refl })

  pub did_not_take : (line : S → List ℕ) (why : Said) (old : S) (o : Outcome S) → refused why ≡ o → Laid (answer_line why) out at laid now
      → Did (takes line o old) out at laid old now
  did_not_take line why old o e l = rw (← e) (record { told = l; left = refl })

-- bytes written to a lent output,
pub lends_written : {out now lent' : List ℕ} {at laid : ℕ} (lent bytes : List ℕ) (o : Outcome (List ℕ)) (r : Result ℕ Refusal)
    → outcome r ≡ mapped (λ _. length bytes) o → lent' ≡ after lent o
    → Laid (lent_line (said (λ n. n ∷ []) r) lent') out at laid now → Laid (lent_line (says_with (λ _. length bytes ∷ []) o) (after lent o)) out at laid now
lends_written lent bytes o r e f l = rw (← f, ← told_written bytes o r e) l
