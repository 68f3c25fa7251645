-- What an answer says tells which answer it is: each map into `Said` has a left inverse, so no two answers say the same.
-- Assumes nothing.
use mathlib.Core.Path.{◌≡◌, refl, sym, ap, subst, ◌∙◌}
use mathlib.Core.Bool.{Bool, true, false, cond, true≢false}
use mathlib.Core.List.{List, [], ◌∷◌}
use mathlib.Mathlib.Logic.Function.Defs.{id, Injective, LeftInverse, LeftInverse-Injective}
use Prim.Native.Nat.{ℕ, ◌-◌}
use lib.Dec.{eqb}
use lib.ListN.{get_or}
use borrow.Author.Tests.{eq-eqb}
use Rattle.model.specs.Said.{Said, accepted}
use Rattle.model.specs.Said as model
use Rattle.model.proofs.Cases.{NotAccepted, Refuses}
use Rattle.caption.specs.Answers.{said_refusal}
use Rattle.caption.specs.declared.Refusal.{Refusal}
use Rattle.caption.specs.declared.Refusal.TheVariants.{Cea608AfterCea708, WouldOverflow, ReadOnly, EmptyService, BadNumber, BadRun, BadRate, OutShort, Full, BadValue, FrameLengthWrong, PacketLengthWrong, BlockHeaderShort, BlockBodyShort, BadMark, BadSection, BadSum, CountersDiffer, NotNewer, UnknownLength, CodeCutShort, BadCover, OutOfOrder, RunSplit, OverLimit}

-- the table's rows from 2 on, with the values that they carry
abbrev refusals : List ℕ → List Refusal
refusals v =
    Cea608AfterCea708 (get_or v 0 0)
    ∷ WouldOverflow (get_or v 0 0)
    ∷ ReadOnly
    ∷ EmptyService
    ∷ BadNumber
    ∷ BadRun
    ∷ BadRate
    ∷ OutShort (get_or v 0 0)
    ∷ Full
    ∷ BadValue
    ∷ FrameLengthWrong (get_or v 0 0) (get_or v 1 0)
    ∷ PacketLengthWrong (get_or v 0 0) (get_or v 1 0) (get_or v 2 0)
    ∷ BlockHeaderShort (get_or v 0 0) (get_or v 1 0) (get_or v 2 0)
    ∷ BlockBodyShort (get_or v 0 0) (get_or v 1 0) (get_or v 2 0)
    ∷ BadMark
    ∷ BadSection
    ∷ BadSum
    ∷ CountersDiffer
    ∷ NotNewer
    ∷ UnknownLength
    ∷ CodeCutShort
    ∷ BadCover
    ∷ OutOfOrder
    ∷ RunSplit
    ∷ OverLimit
    ∷ []

-- Every answer that gives values or refuses is taken back from what it says in the same way.
module _ {A : Type 0} (given : List ℕ → A) (refused : Refusal → A) where
  -- 0 gives the values, a number from 2 on the table's row
  abbrev pub answer_of : Said → A
  answer_of s = cond (eqb s.number 0) (given s.values) (refused (get_or (refusals s.values) (s.number - 2) BadValue))

  -- so no refusal says what another says, and none says accepted
  pub refused_again : (why : Refusal) → answer_of (said_refusal why) ≡ refused why
  refused_again (Cea608AfterCea708 byte_pos) = refl
  refused_again (WouldOverflow bytes_over) = refl
  refused_again ReadOnly = refl
  refused_again EmptyService = refl
  refused_again BadNumber = refl
  refused_again BadRun = refl
  refused_again BadRate = refl
  refused_again (OutShort needed) = refl
  refused_again Full = refl
  refused_again BadValue = refl
  refused_again (FrameLengthWrong expected actual) = refl
  refused_again (PacketLengthWrong expected actual offset) = refl
  refused_again (BlockHeaderShort expected actual offset) = refl
  refused_again (BlockBodyShort expected actual offset) = refl
  refused_again BadMark = refl
  refused_again BadSection = refl
  refused_again BadSum = refl
  refused_again CountersDiffer = refl
  refused_again NotNewer = refl
  refused_again UnknownLength = refl
  refused_again CodeCutShort = refl
  refused_again BadCover = refl
  refused_again OutOfOrder = refl
  refused_again RunSplit = refl
  refused_again OverLimit = refl

-- so none has the number of what is accepted
pub refusal_numbered : (why : Refusal) → NotAccepted (said_refusal why)
refusal_numbered why z =
    let e : answer_of (λ _. true) (λ _. false) (said_refusal why) ≡ true = rw (eq-eqb _ _ z) in
    true≢false (sym e ∙ refused_again (λ _. true) (λ _. false) why)

-- an answer that refuses is the refusal of the outcome that it tells, whatever else that could give
pub refused_with : {A : Type 0} (values : A → List ℕ) (why : Refusal) (o : model.Outcome A) → said_refusal why ≡ model.says_with values o → o ≡ model.refused (said_refusal why)
refused_with values why (model.gave x) h = absurd (refusal_numbered why (ap (λ (s : Said). s.number) h))
refused_with values why (model.refused y) h = ap model.refused (sym h)

pub refused_as : {A : Type 0} (why : Refusal) (o : model.Outcome A) → said_refusal why ≡ model.says o → o ≡ model.refused (said_refusal why)
refused_as why o h = refused_with (λ _. []) why o h

-- and one that accepts tells what it gives, if no refusal of it has the number of what is accepted
pub given_with : {A : Type 0} (values : A → List ℕ) (vs : List ℕ) (o : model.Outcome A) → Refuses NotAccepted o → accepted vs ≡ model.says_with values o
    → (x : A) × (o ≡ model.gave x) × (vs ≡ values x)
given_with values vs (model.gave x) n h = (x, refl, ap (λ (s : Said). s.values) h)
given_with values vs (model.refused why) n h = absurd (n (sym (ap (λ (s : Said). s.number) h)))

-- so what holds of every refusal of that outcome holds of it
pub refused_so : {A : Type 0} (P : Said → Type 0) (why : Refusal) (o : model.Outcome A) → Refuses P o → said_refusal why ≡ model.says o → P (said_refusal why)
refused_so P why o q h = subst (Refuses P) (refused_as why o h) q

-- no two refusals say the same
pub said_refusal_injective : Injective said_refusal
said_refusal_injective = LeftInverse-Injective (answer_of none id) said_refusal (refused_again none id)
  where
    -- what 0 would give: no refusal says it
    none : List ℕ → Refusal
    none v = BadValue
