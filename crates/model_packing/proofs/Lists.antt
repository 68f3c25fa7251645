-- What is in a list, and what every element of a list passes. Assumes nothing.
use mathlib.Core.Path.{◌≡◌, refl, sym, ap, subst, ◌∙◌}
use mathlib.Core.Bool.{Bool, true, ◌&&◌}
use mathlib.Core.List.{List, [], ◌∷◌, ◌++◌, map, flat_map}
use Prim.Native.Nat.{ℕ, zero, suc, ◌+◌, ◌≤◌, ◌<◌}
use native.Mathlib.Omega.{arith}
use lib.Dec.{eqb}
use lib.ListN.{length, get_or}
use borrow.Author.Tests.{eqb-true, eqb-false}
use Rattle.model.specs.Lists.{every}
use Rattle.model.proofs.Cases.{by_test, both, and_both}
use Rattle.model_packing.specs.Pieces.{Byte, byte, count_from, run_bytes, bytes_of, those, In, here, there}

module _ {A : Type 0} where
  -- there is none in an empty list
  pub nothing_in : {x : A} (l : List A) → length l ≡ 0 → In x l → ⊥
  nothing_in [] e i = elim i [ ]
  nothing_in (y ∷ l) e i = omega arith

  -- an element of two lists, one behind the other
  pub in_left : {x : A} (l m : List A) → In x l → In x (l ++ m)
  in_left [] m x'' = elim x'' [ ]
  in_left (y ∷ l) m (here e) = here e
  in_left (y ∷ l) m (there i) = there (in_left l m i)

  pub in_right : {x : A} (l m : List A) → In x m → In x (l ++ m)
  in_right [] m i = i
  in_right (y ∷ l) m i = there (in_right l m i)

  -- is in the one or in the other
  pub in_either : {P : Type 0} {x : A} (l m : List A) → In x (l ++ m) → (In x l → P) → (In x m → P) → P
  in_either [] m i f g = g i
  in_either (y ∷ l) m (here e) f g = f (here e)
  in_either (y ∷ l) m (there i) f g = in_either l m i (λ j. f (there j)) g

  -- every element passes the test
  pub every_in : (test : A → Bool) {x : A} (l : List A) → every test l ≡ true → In x l → test x ≡ true
  unfolding every
  every_in test [] e x3 = elim x3 [ ]
  every_in test (y ∷ l) e (here p) = ap test p ∙ (both (test y) (every test l) e).0
  every_in test (y ∷ l) e (there i) = every_in test l (both (test y) (every test l) e).1 i

  -- where each of them does
  pub in_every : (test : A → Bool) (l : List A) → ((x : A) → In x l → test x ≡ true) → every test l ≡ true
  unfolding every
  in_every test [] f = refl
  in_every test (y ∷ l) f = and_both (test y) (every test l) (f y (here refl)) (in_every test l (λ x i. f x (there i)))

  -- every element of two lists
  pub every_both : (test : A → Bool) (l m : List A) → every test (l ++ m) ≡ every test l && every test m
  unfolding every
  every_both test [] m = refl
  every_both test (y ∷ l) m = by_test (test y) (λ e. rw e (every_both test l m)) (λ e. rw e)

  -- those that pass a test
  pub in_those : (test : A → Bool) {x : A} (l : List A) → In x l → test x ≡ true → In x (those test l)
  unfolding those
  in_those test {x = x} [] x3 e = elim x3 [ ]
  in_those test {x} (y ∷ l) (here p) e = let q : test y ≡ true = ap test (sym p) ∙ e in rw q (here p)
  in_those test {x} (y ∷ l) (there i) e = by_test (test y) (λ q. rw q (there (in_those test l i e))) (λ q. rw q (in_those test l i e))

  pub those_in : (test : A → Bool) {x : A} (l : List A) → In x (those test l) → In x l × (test x ≡ true)
  unfolding those
  those_in test {x = x} [] i = elim i [ ]
  those_in test {x} (y ∷ l) i =
      by_test (test y)
      (λ q. passed q (λ j. those_in test l j) (rw q at i))
      (λ q. let t = those_in test l (rw q at i) in (there t.0, t.1))
    where
      passed : test y ≡ true → (In x (those test l) → In x l × (test x ≡ true)) → In x (y ∷ those test l) → In x (y ∷ l) × (test x ≡ true)
      passed q more (here p) = (here p, ap test p ∙ q)
      passed q more (there j) = let t = more j in (there t.0, t.1)

-- what is made of elements
module _ {A B : Type 0} where
  pub in_map : (f : A → B) {x : A} (l : List A) → In x l → In (f x) (map f l)
  in_map f [] x'' = elim x'' [ ]
  in_map f (y ∷ l) (here p) = here (ap f p)
  in_map f (y ∷ l) (there i) = there (in_map f l i)

  pub map_in : (f : A → B) {z : B} (l : List A) → In z (map f l) → (x : A) × In x l × (z ≡ f x)
  map_in f {z = z} [] x' = elim x' [ ]
  map_in f (y ∷ l) (here p) = (y, here refl, p)
  map_in f (y ∷ l) (there i) = let t = map_in f l i in (t.0, there t.1, t.2)

  pub in_flat_map : (f : A → List B) {x : A} {z : B} (l : List A) → In x l → In z (f x) → In z (flat_map f l)
  unfolding flat_map
  in_flat_map f {x = x} {z = z} [] x3 j = elim x3 [ ]
  in_flat_map f {x} {z} (y ∷ l) (here p) j = in_left (f y) (flat_map f l) (subst (λ (w : A). In z (f w)) p j)
  in_flat_map f (y ∷ l) (there i) j = in_right (f y) (flat_map f l) (in_flat_map f l i j)

  pub flat_map_in : (f : A → List B) {z : B} (l : List A) → In z (flat_map f l) → (x : A) × In x l × In z (f x)
  unfolding flat_map
  flat_map_in f {z = z} [] i = elim i [ ]
  flat_map_in f (y ∷ l) i =
      in_either (f y) (flat_map f l) i (λ j. (y, here refl, j)) (λ j. let t = flat_map_in f l j in (t.0, there t.1, t.2))

-- numbers one after the other
pub in_count : (k a n : ℕ) → a ≤ k → k < a + n → In k (count_from a n)
unfolding count_from
in_count k a zero h g = absurd (omega arith)
in_count k a (suc n) h g =
    by_test (eqb k a) (λ e. here (eqb-true k a e)) (λ e. there (in_count k (suc a) n (omega (arith, eqb-false k a e)) (omega arith)))

pub count_in : (k a n : ℕ) → In k (count_from a n) → (a ≤ k) × (k < a + n)
unfolding count_from
count_in k a zero x' = elim x' [ ]
count_in k a (suc n) (here p) = (omega arith, omega arith)
count_in k a (suc n) (there i) = let t = count_in k (suc a) n i in (omega (arith, t.0), omega (arith, t.1))

-- so every number of them passes a test, where each does
pub count_every : (test : ℕ → Bool) (a n : ℕ) → ((k : ℕ) → a ≤ k → k < a + n → test k ≡ true) → every test (count_from a n) ≡ true
count_every test a n f = in_every test (count_from a n) (λ k i. let t = count_in k a n i in f k t.0 t.1)

pub every_count : (test : ℕ → Bool) (a n k : ℕ) → every test (count_from a n) ≡ true → a ≤ k → k < a + n → test k ≡ true
every_count test a n k e h g = every_in test (count_from a n) e (in_count k a n h g)

-- the bytes of runs: those whose run is there, and that are there in it
pub in_bytes : (services lengths : List ℕ) (x : Byte) → x.run < length services → x.place < get_or lengths x.run 0 → In x (bytes_of services lengths)
unfolding bytes_of run_bytes
in_bytes services lengths x h g =
    in_flat_map (run_bytes lengths) (count_from 0 (length services)) (in_count x.run 0 (length services) (omega arith) (omega arith))
    (in_map (byte x.run) (count_from 0 (get_or lengths x.run 0)) (in_count x.place 0 (get_or lengths x.run 0) (omega arith) (omega arith)))

pub byte_within : (services lengths : List ℕ) (x : Byte) → In x (bytes_of services lengths) → (x.run < length services) × (x.place < get_or lengths x.run 0)
unfolding bytes_of run_bytes
byte_within services lengths x i =
    let t = flat_map_in (run_bytes lengths) (count_from 0 (length services)) i in
    let u = map_in (byte t.0) (count_from 0 (get_or lengths t.0 0)) t.2 in
    let v = count_in t.0 0 (length services) t.1 in
    let w = count_in u.0 0 (get_or lengths t.0 0) u.1 in
    subst (λ (y : Byte). (y.run < length services) × (y.place < get_or lengths y.run 0)) (sym u.2) (omega (arith, v.1), omega (arith, w.1))
