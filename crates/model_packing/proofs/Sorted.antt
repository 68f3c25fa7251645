-- Lists in a strict order, and that such a list is known by what is in it. Assumes nothing.
use mathlib.Core.Path.{◌≡◌, refl, sym, ap, subst, ◌∙◌}
use mathlib.Core.Bool.{Bool, true}
use mathlib.Core.List.{List, [], ◌∷◌, ◌++◌, map, flat_map}
use Prim.Native.Nat.{ℕ, zero, suc, ◌≤◌, ◌<◌}
use native.Mathlib.Omega.{arith}
use lib.ListN.{length}
use Rattle.model.specs.Lists.{every}
use Rattle.model.proofs.Cases.{by_test, both}
use Rattle.model_packing.specs.Pieces.{count_from, those, every_two, In, here, there}
use Rattle.model_packing.proofs.Lists.{in_either, every_in, those_in, map_in, flat_map_in, count_in}

-- each element is before all that are behind it
pub data Sorted {A : Type 0} (Before : A → A → Type 0) : List A → Type 0 where
  none : Sorted Before []
  next : {x : A} {l : List A} → ((y : A) → In y l → Before x y) → Sorted Before l → Sorted Before (x ∷ l)

-- a list with an element is not empty
pub in_some : {A : Type 0} {x : A} {l : List A} → In x l → 1 ≤ length l
in_some (here e) = omega arith
in_some (there i) = omega arith

module _ {A : Type 0} {Before : A → A → Type 0} where
  -- two lists, one behind the other
  pub sorted_append : {l m : List A} → Sorted Before l → Sorted Before m → ((x y : A) → In x l → In y m → Before x y) → Sorted Before (l ++ m)
  sorted_append none t f = t
  sorted_append {l = x ∷ l} {m} (next h s) t f =
      next (λ y i. in_either l m i (h y) (f x y (here refl))) (sorted_append s t (λ z y i j. f z y (there i) j))

  -- those that pass a test
  pub sorted_those : (test : A → Bool) {l : List A} → Sorted Before l → Sorted Before (those test l)
  unfolding those
  sorted_those test none = none
  sorted_those test {l = x ∷ l} (next h s) =
      let rest : Sorted Before (those test l) = sorted_those test s in
      by_test (test x)
      (λ e. rw e (next (λ y i. h y (those_in test l i).0) rest))
      (λ e. rw e rest)

-- in another order, which holds of the elements where the first does
pub sorted_by : {A : Type 0} {First Before : A → A → Type 0} {l : List A} → Sorted First l → ((x y : A) → In x l → In y l → First x y → Before x y) → Sorted Before l
sorted_by none f = none
sorted_by {l = x ∷ l} (next h s) f = next (λ y i. f x y (here refl) (there i) (h y i)) (sorted_by s (λ y z i j. f y z (there i) (there j)))

-- lists made of the elements of a sorted one
pub sorted_flat_map : {A B : Type 0} {First : A → A → Type 0} {Before : B → B → Type 0} (f : A → List B) {l : List A} → Sorted First l
    → ((a : A) → In a l → Sorted Before (f a)) → ((a b : A) (x y : B) → First a b → In a l → In b l → In x (f a) → In y (f b) → Before x y) → Sorted Before (flat_map f l)
unfolding flat_map
sorted_flat_map f none each across = none
sorted_flat_map {Before = Before} f {l = a ∷ l} (next h s) each across =
    let rest : Sorted Before (flat_map f l) = sorted_flat_map f s (λ b i. each b (there i)) (λ b c x y r i j. across b c x y r (there i) (there j)) in
    sorted_append (each a (here refl)) rest (λ x y i j. let t = flat_map_in f l j in across a t.0 x y (h t.0 t.1) (here refl) (there t.1) i t.2)

-- elements made of them
pub sorted_map : {A B : Type 0} {First : A → A → Type 0} {Before : B → B → Type 0} (f : A → B) {l : List A} → Sorted First l
    → ((a b : A) → First a b → Before (f a) (f b)) → Sorted Before (map f l)
sorted_map f none keep = none
sorted_map {Before = Before} f {l = a ∷ l} (next h s) keep =
    next (λ y i. let t = map_in f l i in subst (Before (f a)) (sym t.2) (keep a t.0 (h t.0 t.1))) (sorted_map f s keep)

-- numbers one after the other
pub sorted_count : (a n : ℕ) → Sorted ◌<◌ (count_from a n)
unfolding count_from
sorted_count a zero = none
sorted_count a (suc n) = next {x = a} {l = count_from (suc a) n} (λ k i. omega (arith, (count_in k (suc a) n i).0)) (sorted_count (suc a) n)

-- where no two elements are each before the other
module _ {A : Type 0} (Before : A → A → Type 0) (one_way : (x y : A) → Before x y → Before y x → ⊥) where
  -- no element is before itself
  not_itself : (x y : A) → x ≡ y → Before x y → ⊥
  not_itself x y e b = one_way x y b (subst (λ (z : A). Before z x) e (subst (Before x) (sym e) b))

  -- of two sorted lists with the same elements, the first elements are the same
  first_same : {x y : A} {l m : List A} → Sorted Before (x ∷ l) → Sorted Before (y ∷ m) → In x (y ∷ m) → In y (x ∷ l) → x ≡ y
  first_same (next h s) (next g t) (here e) j = e
  first_same (next h s) (next g t) (there i) (here e) = sym e
  first_same {x} {y} (next h s) (next g t) (there i) (there j) = absurd (one_way x y (h y j) (g x i))

  -- an element behind the first is behind it in the other list too
  behind : {x y z : A} {m : List A} → x ≡ y → Before x z → In z (y ∷ m) → In z m
  behind {x} {y} {z} e b (here p) = absurd (not_itself x z (e ∙ sym p) b)
  behind e b (there i) = i

  -- two sorted lists with the same elements are the same
  pub sorted_same : (l m : List A) → Sorted Before l → Sorted Before m → ((x : A) → In x l → In x m) → ((x : A) → In x m → In x l) → l ≡ m
  sorted_same [] [] s t f g = refl
  sorted_same [] (y ∷ m) s t f g = absurd (omega (arith, in_some (g y (here refl))))
  sorted_same (x ∷ l) [] s t f g = absurd (omega (arith, in_some (f x (here refl))))
  sorted_same (x ∷ l) (y ∷ m) (next h s) (next k t) f g =
      let e : x ≡ y = first_same (next h s) (next k t) (f x (here refl)) (g y (here refl)) in
      let rest : l ≡ m = sorted_same l m s t (λ z i. behind e (h z i) (f z (there i))) (λ z i. behind (sym e) (k z i) (g z (there i))) in
      rw (e, rest)

  -- of two elements of a sorted list, the earlier one first, a test of every two holds
  pub every_two_before : (test : A → A → Bool) {x y : A} (l : List A) → Sorted Before l → every_two test l ≡ true → In x l → In y l → Before x y → test x y ≡ true
  unfolding every_two
  every_two_before test {x = x} {y = y} [] s e x6 _ b = elim x6 [ ]
  every_two_before test {x} {y} (z ∷ l) s e (here p) (here q) b = absurd (not_itself x y (p ∙ sym q) b)
  every_two_before test {x} {y} (z ∷ l) s e (here p) (there j) b =
      ap (λ (w : A). test w y) p ∙ every_in (test z) l (both _ _ e).0 j
  every_two_before test {x} {y} (z ∷ l) (next h s) e (there i) (here q) b = absurd (one_way x y b (subst (λ (w : A). Before w x) (sym q) (h x i)))
  every_two_before test {x} {y} (z ∷ l) (next h s) e (there i) (there j) b = every_two_before test l s (both (every (test z) l) _ e).1 i j b
