-- What is made along numbers one after the other is the same of functions that agree on these. Assumes nothing.
use mathlib.Core.Path.{◌≡◌, refl, sym, ◌∙◌}
use mathlib.Core.Bool.{Bool, true, ◌&&◌}
use mathlib.Core.List.{List, [], ◌++◌, flat_map}
use Prim.Native.Nat.{ℕ, zero, suc, ◌+◌, ◌<◌}
use native.Mathlib.Omega.{arith}
use Rattle.model.specs.Lists.{every}
use Rattle.model_packing.specs.Pieces.{count_from}

-- `made` is `nothing` of no number, and `more` with each
same_along : {B C : Type 0} (more : B → C → C) (nothing : C) (made : (ℕ → B) → ℕ → ℕ → C) → ((f : ℕ → B) (a : ℕ) → made f a 0 ≡ nothing)
    → ((f : ℕ → B) (a n : ℕ) → made f a (suc n) ≡ more (f a) (made f (suc a) n)) → (f g : ℕ → B) (a n : ℕ) → ((k : ℕ) → k < a + n → f k ≡ g k)
    → made f a n ≡ made g a n
same_along more nothing made first next f g a zero h = first f a ∙ sym (first g a)
same_along more nothing made first next f g a (suc n) h =
    let e : f a ≡ g a = h a (omega arith) in
    let m = same_along more nothing made first next f g (suc a) n (λ k o. h k (omega arith)) in
    next f a n ∙ rw (e, m) (sym (next g a n))

-- the lists of them, one behind the other
pub flat_same : {A : Type 0} (f g : ℕ → List A) (n : ℕ) → ((k : ℕ) → k < n → f k ≡ g k) → flat_map f (count_from 0 n) ≡ flat_map g (count_from 0 n)
unfolding count_from flat_map
flat_same f g n h = same_along ◌++◌ [] (λ x a m. flat_map x (count_from a m)) (λ _ _. refl) (λ _ _ _. refl) f g 0 n (λ k o. h k (omega arith))

-- and whether every number passes them
pub every_same : (f g : ℕ → Bool) (n : ℕ) → ((k : ℕ) → k < n → f k ≡ g k) → every f (count_from 0 n) ≡ every g (count_from 0 n)
unfolding count_from every
every_same f g n h = same_along ◌&&◌ true (λ x a m. every x (count_from a m)) (λ _ _. refl) (λ _ _ _. refl) f g 0 n (λ k o. h k (omega arith))
