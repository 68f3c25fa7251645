-- What an outcome was before what it gives was told. Assumes nothing.
use mathlib.Core.Path.{◌≡◌, refl}
use Rattle.model.specs.Said.{Said, Outcome, gave, refused, mapped}

module _ {A B : Type 0} (f : A → B) where
  -- what is told was given
  pub told_gave : (o : Outcome A) (y : B) → gave y ≡ mapped f o → (x : A) × (o ≡ gave x) × (y ≡ f x)
  told_gave (gave x) y e = (x, refl, cc)
  told_gave (refused why) y e = cc

  -- and a refusal was one
  pub told_refused : (o : Outcome A) (why : Said) → refused why ≡ mapped f o → o ≡ refused why
  told_refused (gave x) why e = cc
  told_refused (refused v) why e = cc
