-- The ways in which contracts determine: by an equation for the result, for what the result says, or for what a lent place holds. Assumes nothing.
use mathlib.Core.Path.{◌≡◌, refl, sym, ap, ◌∙◌}
use mathlib.Mathlib.Logic.Function.Defs.{Injective}
use denote.Ref.{Bor}
use Rattle.model.specs.Said.{Said}
use Rattle.determined.specs.Determines.{Determines, DeterminesLent, DeterminesPart}

module _ {A R E : Type 0} where
  -- the result is given by an equation
  pub equal : {f : A → R} → Determines (λ (a : A) (r : R) (e : E). r ≡ f a)
  equal = record { result = λ a r q e f h k. h ∙ sym k }

  -- what the result says is given, and no two results say the same
  pub said : {S : Type 0} {say : R → S} {f : A → S} → Injective say → Determines (λ (a : A) (r : R) (e : E). say r ≡ f a)
  said i = record { result = λ a r q e f h k. i r q (h ∙ sym k) }

module _ {A E X : Type 0} {f : A → X} where
  -- what a lent place holds is given, and there is no result
  pub filled : {lent : E → X} → DeterminesLent lent (λ (a : A) (r : Unit {0}) (e : E). lent e ≡ f a)
  filled = record { result = λ a r q e f h k. refl; contents = λ a r q e f h k. h ∙ sym k }

  -- what a part holds is given
  pub part_equal : DeterminesPart (λ (a : A) (r : Bor X) (e : E). r.now ≡ f a)
  part_equal = record { part = λ a r q e f h k. h ∙ sym k }

-- the result and what is lent, both at once
pub at_once : {A R E X : Type 0} {lent : E → X} {post : A → R → E → Type 0}
    → ((a : A) (r q : R) (e g : E) → post a r e → post a q g → (r ≡ q) × (lent e ≡ lent g)) → DeterminesLent lent post
at_once f = record { result = λ a r q e g h k. (f a r q e g h k).0; contents = λ a r q e g h k. (f a r q e g h k).1 }

-- a value of two parts
pub two : {X Y R : Type 0} (make : X → Y → R) {x x' : X} {y y' : Y} → x ≡ x' → y ≡ y' → make x y ≡ make x' y'
two make e f = rw (e, f)
