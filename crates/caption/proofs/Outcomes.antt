-- No two answers are the same outcome, so that an outcome tells the answer. Assumes nothing.
use mathlib.Core.Path.{◌≡◌, refl, sym, ap, ◌∙◌}
use mathlib.Core.Bool.{Bool, true, false, true≢false}
use mathlib.Core.List.{List}
use mathlib.Mathlib.Logic.Function.Defs.{LeftInverse, Injective, LeftInverse-Injective}
use Prim.Native.Nat.{ℕ}
use Rattle.std.specs.Prelude.{Result, Ok, Err}
use Rattle.caption.specs.declared.Refusal.{Refusal}
use Rattle.caption.specs.declared.Refusal.TheVariants.{BadValue}
use Rattle.caption.specs.Answers.{outcome, said}
use Rattle.caption.proofs.Answers.{answer_of, refused_again}
use Rattle.model.specs.Said.{Outcome, gave, refused, is_given, checked, says, says_with, mapped}

module _ {A : Type 0} where
  -- what 0 would be refused with: no refusal says it
  abbrev none : List ℕ → Result A Refusal
  none v = Err BadValue

  -- the answer is taken back from its outcome
  abbrev answer : Outcome A → Result A Refusal
  answer (gave x) = Ok x
  answer (refused why) = answer_of none Err why

  answer_again : LeftInverse answer (outcome {A = A})
  answer_again (Ok x) = refl
  answer_again (Err why) = refused_again none Err why

  -- no two answers are the same outcome
  pub outcome_injective : Injective (outcome {A = A})
  outcome_injective = LeftInverse-Injective answer outcome answer_again

  -- so a contract that gives the outcome leaves one answer
  pub same_outcome : (o : Outcome A) (r q : Result A Refusal) → outcome r ≡ o → outcome q ≡ o → r ≡ q
  same_outcome o r q e f = outcome_injective r q (e ∙ sym f)

  -- and what the answer says is what the outcome says
  pub said_outcome : (values : A → List ℕ) (o : Outcome A) (r : Result A Refusal) → outcome r ≡ o → said values r ≡ says_with values o
  said_outcome values o r e = ap (says_with values) e

  -- a call that gives something had a value within the limits
  pub given_valid : (v : Bool) (x y : A) → gave x ≡ checked v (gave y) → v ≡ true
  given_valid true x y e = refl
  given_valid false x y e = absurd (true≢false (ap is_given e))

-- what is given may be told by what it means in the model, if that can be taken back
module _ {A B : Type 0} (means : A → B) (back : B → A) (again : LeftInverse back means) where
  -- the answer is taken back from its outcome in the model
  abbrev back_from : Outcome B → Result A Refusal
  back_from o = answer (mapped back o)

  back_again : LeftInverse back_from (λ (r : Result A Refusal). mapped means (outcome r))
  back_again (Ok x) = ap Ok (again x)
  back_again (Err why) = refused_again none Err why

  pub mapped_injective : Injective (λ (r : Result A Refusal). mapped means (outcome r))
  mapped_injective = LeftInverse-Injective back_from (λ (r : Result A Refusal). mapped means (outcome r)) back_again

-- where nothing is given, what is said is enough
abbrev done : List ℕ → Result (Unit {0}) Refusal
done v = Ok (tt {0})

done_again : LeftInverse (answer_of done Err) (λ (r : Result (Unit {0}) Refusal). says (outcome r))
done_again (Ok x) = refl
done_again (Err why) = refused_again done Err why

pub says_injective : Injective (λ (r : Result (Unit {0}) Refusal). says (outcome r))
says_injective = LeftInverse-Injective (answer_of done Err) (λ (r : Result (Unit {0}) Refusal). says (outcome r)) done_again
