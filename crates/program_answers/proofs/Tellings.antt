-- What is told of an answer says it again: no answer carries more than three values. Assumes nothing.
use mathlib.Core.Path.{◌≡◌, refl}
use mathlib.Core.List.{List, [], ◌∷◌, ◌++◌}
use Prim.Native.Nat.{ℕ, ◌≤◌}
use native.Mathlib.Omega.{arith}
use lib.ListN.{length, take, drop, get_or, replicate}
use Rattle.std.specs.Prelude.{Result, Ok, Err}
use Rattle.model.specs.Said.{Said}
use Rattle.caption.specs.Answers.{said, said_refusal}
use Rattle.caption.specs.declared.Refusal.{Refusal}
use Rattle.caption.specs.declared.Refusal.TheVariants as refusal
use Rattle.program_answers.specs.declared.Numbers.{Numbers}
use Rattle.program_answers.specs.Telling.{told_by, said_by}

-- at most three values, laid into three places
pub three_laid : (vs three : List ℕ) → length vs ≤ 3 → three ≡ vs ++ drop (length vs) (replicate 3 0) → three ≡ get_or vs 0 0 ∷ get_or vs 1 0 ∷ get_or vs 2 0 ∷ []
three_laid [] three h e = e
three_laid (v ∷ []) three h e = e
three_laid (v ∷ w ∷ []) three h e = e
three_laid (v ∷ w ∷ x ∷ []) three h e = e
three_laid (v ∷ w ∷ x ∷ y ∷ vs) three h e = absurd (omega arith)

-- and told whole
told_values : (vs : List ℕ) → length vs ≤ 3 → take (length vs) (get_or vs 0 0 ∷ get_or vs 1 0 ∷ get_or vs 2 0 ∷ []) ≡ vs
told_values [] h = refl
told_values (v ∷ []) h = refl
told_values (v ∷ w ∷ []) h = refl
told_values (v ∷ w ∷ x ∷ []) h = refl
told_values (v ∷ w ∷ x ∷ y ∷ vs) h = absurd (omega arith)

pub told_back : (s : Said) → length s.values ≤ 3 → said_by (told_by s) ≡ s
told_back s h = rw (told_values s.values h)

-- no refusal carries more,
pub few_refusal : (why : Refusal) → length (said_refusal why).values ≤ 3
few_refusal (refusal.Cea608AfterCea708 p) = omega arith
few_refusal (refusal.WouldOverflow o) = omega arith
few_refusal refusal.ReadOnly = omega arith
few_refusal refusal.EmptyService = omega arith
few_refusal refusal.BadNumber = omega arith
few_refusal refusal.BadRun = omega arith
few_refusal refusal.BadRate = omega arith
few_refusal (refusal.OutShort n) = omega arith
few_refusal refusal.Full = omega arith
few_refusal refusal.BadValue = omega arith
few_refusal (refusal.FrameLengthWrong e a) = omega arith
few_refusal (refusal.PacketLengthWrong e a o) = omega arith
few_refusal (refusal.BlockHeaderShort e a o) = omega arith
few_refusal (refusal.BlockBodyShort e a o) = omega arith
few_refusal refusal.BadMark = omega arith
few_refusal refusal.BadSection = omega arith
few_refusal refusal.BadSum = omega arith
few_refusal refusal.CountersDiffer = omega arith
few_refusal refusal.NotNewer = omega arith
few_refusal refusal.UnknownLength = omega arith
few_refusal refusal.CodeCutShort = omega arith
few_refusal refusal.BadCover = omega arith
few_refusal refusal.OutOfOrder = omega arith
few_refusal refusal.RunSplit = omega arith
few_refusal refusal.OverLimit = omega arith

-- so no answer does,
pub few_said : {A : Type 0} (values : A → List ℕ) → ((x : A) → length (values x) ≤ 3) → (r : Result A Refusal) → length (said values r).values ≤ 3
few_said values few (Ok x) = few x
few_said values few (Err why) = few_refusal why

-- one that gives nothing, and one that gives a number
pub few_done : (r : Result (Unit {0}) Refusal) → length (said (λ _. []) r).values ≤ 3
few_done r = few_said (λ _. []) (λ x. omega arith) r

pub few_count : (r : Result ℕ Refusal) → length (said (λ n. n ∷ []) r).values ≤ 3
few_count r = few_said (λ n. n ∷ []) (λ x. omega arith) r
