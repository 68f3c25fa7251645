-- Bytes that are tested to be the same are equal, and equal ones pass the test; lists whose elements pass a test, put together, changed at a place or looked
-- at there. Assumes nothing.
use mathlib.Core.Path.{◌≡◌, refl}
use mathlib.Core.Bool.{Bool, true, false≢true}
use mathlib.Core.List.{List, [], ◌∷◌, ◌++◌}
use Prim.Native.Nat.{ℕ, zero, suc, ◌<◌}
use native.Mathlib.Omega.{arith}
use borrow.Author.Tests.{eq-eqb, eqb-true}
use lib.Dec.{eqb}
use lib.ListN.{length, get_or, set}
use Rattle.model.specs.Lists.{every, same}
use Rattle.model.proofs.Cases.{both, and_both}

-- bytes that are the same
pub same_true : (d e : List ℕ) → same d e ≡ true → d ≡ e
unfolding same
same_true [] [] z = refl
same_true [] (y ∷ e) z = absurd (false≢true z)
same_true (x ∷ d) [] z = absurd (false≢true z)
same_true (x ∷ d) (y ∷ e) z = let t = both (eqb x y) (same d e) z in (cc (eqb-true x y t.0, same_true d e t.1))

-- bytes are the same as they are
pub same_self : (d : List ℕ) → same d d ≡ true
unfolding same
same_self [] = refl
same_self (x ∷ d) = and_both _ _ (eq-eqb x x refl) (same_self d)

-- two lists whose elements pass a test
pub every_append : {A : Type 0} (test : A → Bool) (xs ys : List A) → every test xs ≡ true → every test ys ≡ true → every test (xs ++ ys) ≡ true
unfolding every
every_append test [] ys v w = w
every_append test (x ∷ xs) ys v w =
    let u = both (test x) (every test xs) v in
    and_both (test x) (every test (xs ++ ys)) u.0 (every_append test xs ys u.1 w)

-- another element in the place of one of them
pub every_set : {A : Type 0} (test : A → Bool) (xs : List A) (i : ℕ) (y : A) → every test xs ≡ true → test y ≡ true → every test (set xs i y) ≡ true
unfolding every
every_set test [] i y v w = refl
every_set test (x ∷ xs) zero y v w = and_both (test y) (every test xs) w (both (test x) (every test xs) v).1
every_set test (x ∷ xs) (suc i) y v w =
    let u = both (test x) (every test xs) v in
    and_both (test x) (every test (set xs i y)) u.0 (every_set test xs i y u.1 w)

-- one of them
pub every_at : {A : Type 0} (test : A → Bool) (xs : List A) (i : ℕ) (z : A) → every test xs ≡ true → i < length xs → test (get_or xs i z) ≡ true
unfolding every
every_at test [] i z v h = absurd (omega arith)
every_at test (x ∷ xs) zero z v h = (both (test x) (every test xs) v).0
every_at test (x ∷ xs) (suc i) z v h = every_at test xs i z (both (test x) (every test xs) v).1 (omega arith)
