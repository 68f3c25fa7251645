-- Reasoning by cases on a test and on an outcome. Assumes nothing.
use mathlib.Core.Path.{◌≡◌, refl, ap, subst}
use mathlib.Core.Bool.{Bool, true, false, cond, ◌&&◌, false≢true}
use Rattle.model.specs.Said.{Said, Outcome, gave, refused, is_given, and_then, mapped}

-- what holds under either outcome of a test holds
pub by_test : {P : Type 0} (b : Bool) → (b ≡ true → P) → (b ≡ false → P) → P
by_test true f g = f refl
by_test false f g = g refl

-- what holds of both sides of a `cond`, each under its test, holds of the `cond`
pub by_cond : {A : Type 0} (P : A → Type 0) (b : Bool) {x y : A} → (b ≡ true → P x) → (b ≡ false → P y) → P (cond b x y)
by_cond P true f g = f refl
by_cond P false f g = g refl

-- both parts of a conjunction
pub both : (a b : Bool) → a && b ≡ true → (a ≡ true) × (b ≡ true)
both true b e = (refl, e)
both false b e = absurd (false≢true e)

-- a conjunction of both parts
pub and_both : (a b : Bool) → a ≡ true → b ≡ true → a && b ≡ true
and_both a b p q = rw (p, q)

-- P holds of what an outcome gives, if it gives anything
abbrev pub Gives : {A : Type 0} → (A → Type 0) → Outcome A → Type 0
Gives P (gave x) = P x
Gives P (refused why) = Unit {0}

module _ {A B : Type 0} where
  -- what the second of two calls gives, by what the first gives
  pub gives_then : (P : B → Type 0) (Q : A → Type 0) (o : Outcome A) (f : A → Outcome B) → Gives Q o → ((x : A) → Q x → Gives P (f x)) → Gives P (and_then o f)
  gives_then P Q (gave x) f q h = h x q
  gives_then P Q (refused why) f q h = tt

  -- what is made of a value that a call gives
  pub gives_mapped : (P : B → Type 0) (Q : A → Type 0) (o : Outcome A) (f : A → B) → Gives Q o → ((x : A) → Q x → P (f x)) → Gives P (mapped f o)
  gives_mapped P Q (gave x) f q h = h x q
  gives_mapped P Q (refused why) f q h = tt

-- an outcome that gives x
pub gives_at : {A : Type 0} (P : A → Type 0) {x : A} (o : Outcome A) → o ≡ gave x → Gives P o → P x
gives_at P o e g = subst (Gives P) e g

-- a call that gives something, and what that is
pub given_is : {A : Type 0} (o : Outcome A) → is_given o ≡ true → (x : A) × (o ≡ gave x)
given_is (gave x) e = (x, refl)
given_is (refused why) e = absurd (false≢true e)

-- a refusal: its number is not that of what is accepted
abbrev pub NotAccepted : Said → Type 0
NotAccepted why = why.number ≡ 0 → ⊥

-- P holds of what an outcome is refused with, if it is refused
abbrev pub Refuses : {A : Type 0} → (Said → Type 0) → Outcome A → Type 0
Refuses P (gave x) = Unit {0}
Refuses P (refused why) = P why

-- and of what an outcome is refused with, all that follows from P holds
pub refuses_weaker : {A : Type 0} {P Q : Said → Type 0} → ((why : Said) → P why → Q why) → (o : Outcome A) → Refuses P o → Refuses Q o
refuses_weaker h (gave x) p = tt
refuses_weaker h (refused why) p = h why p

module _ {A B : Type 0} (P : Said → Type 0) where
  -- what the first of two calls is refused with, or the second
  pub refuses_then : (o : Outcome A) (f : A → Outcome B) → Refuses P o → ((x : A) → Refuses P (f x)) → Refuses P (and_then o f)
  refuses_then (gave x) f p h = h x
  refuses_then (refused why) f p h = p

  -- a map leaves it
  pub refuses_mapped : (f : A → B) (o : Outcome A) → Refuses P o → Refuses P (mapped f o)
  refuses_mapped f (gave x) p = tt
  refuses_mapped f (refused why) p = p

-- two maps, one after the other
pub mapped_mapped : {A B C : Type 0} (f : B → C) (g : A → B) (o : Outcome A) → mapped f (mapped g o) ≡ mapped (λ x. f (g x)) o
mapped_mapped f g (gave x) = refl
mapped_mapped f g (refused why) = refl

-- a map that changes nothing
pub mapped_same : {A : Type 0} (o : Outcome A) → mapped (λ x. x) o ≡ o
mapped_same (gave x) = refl
mapped_same (refused why) = refl

-- two maps that agree
pub mapped_by : {A B : Type 0} {f g : A → B} → ((x : A) → f x ≡ g x) → (o : Outcome A) → mapped f o ≡ mapped g o
mapped_by same (gave x) = ap gave (same x)
mapped_by same (refused why) = refl
