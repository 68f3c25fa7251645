-- Laws of the test of a list of pairs, one for each way out of a function, and what the test says. Assumes nothing.
use mathlib.Core.Path.{◌≡◌, refl, sym, ap, ◌∙◌}
use mathlib.Core.List.{List, [], ◌∷◌}
use mathlib.Core.Bool.{Bool, true, false, cond, ◌&&◌, ◌||◌}
use Prim.Native.Nat.{ℕ, zero, suc, ◌+◌, ◌-◌, ◌*◌, ◌≤◌, ◌<◌}
use native.Mathlib.Omega.{arith}
use lib.ListN.{length, get_or, take, drop}
use lib.Seq.{get_or-drop, drop-drop}
use lib.Dec.{eqb, leb}
use borrow.Author.Tests.{eq-eqb, eqb-true, eqb-false, lt-leb, le-leb, leb-true}
use Rattle.model.specs.Lists.{same}
use Rattle.model.proofs.Cases.{by_test, both}
use Rattle.model.proofs.Lists.{same_true, same_self}
use Rattle.parser_lists.specs.Pairs.{placed_all, pairs_of}
use Rattle.parser_lists.specs.Listing.{fields_fine, list_fine}

-- the list of pairs
module _ (on : Bool) (n : ℕ) (l : List ℕ) where
  -- too many pairs
  pub list_long : 31 < n → false ≡ list_fine on n l
  unfolding list_fine
  list_long h = rw (lt-leb n 31 h)

  module _ (few : n ≤ 31) where
    -- 608 is on
    pub list_on : (b : Bool) → on ≡ true → b ≡ fields_fine n l → b ≡ list_fine on n l
    unfolding list_fine
    list_on b e q = rw (le-leb n 31 few, e) q

    -- 608 is off
    pub list_off : on ≡ false → eqb n 0 ≡ list_fine on n l
    unfolding list_fine
    list_off e = rw (le-leb n 31 few, e)

-- all are left
pub fields_start : (n : ℕ) (l : List ℕ) → fields_fine n l ≡ fields_fine (n - 0) l
fields_start n l = let z : n - 0 ≡ n = omega arith in rw z

-- For the loop over the fields.
module _ (a : Bool) (l : List ℕ) (n i : ℕ) (e : a ≡ fields_fine (n - i) (drop (3 * i) l)) where
  -- none are left
  pub fields_done : n ≤ i → true ≡ a
  unfolding fields_fine
  fields_done h = let z : n - i ≡ 0 = omega arith in sym (rw z at e)

  module _ (h : i < n) where
    -- the next one
    fields_here : a ≡ leb (get_or l (3 * i) 0) 1 && fields_fine (n - (i + 1)) (drop (3 * (i + 1)) l)
    unfolding fields_fine
    fields_here =
        let z : n - i ≡ suc (n - (i + 1)) = omega arith in
        let w : 3 * i + 3 ≡ 3 * (i + 1) = omega arith in
        let v : 3 * i + 0 ≡ 3 * i = omega arith in
        rw (z, get_or-drop (3 * i) l 0 0, drop-drop 3 (3 * i) l, w, v) at e

    -- of field 1 or 2
    pub fields_again : get_or l (3 * i) 0 ≤ 1 → a ≡ fields_fine (n - (i + 1)) (drop (3 * (i + 1)) l)
    fields_again k = rw (le-leb _ _ k) at fields_here

    -- of neither
    pub fields_bad : 1 < get_or l (3 * i) 0 → false ≡ a
    fields_bad k = sym (rw (lt-leb _ _ k) at fields_here)

-- pairs stand in their places as they are laid exactly where they are of field 1 or 2
fields_stand : (n : ℕ) (l : List ℕ) → 3 * n ≤ length l → same (placed_all (pairs_of n l)) (take (3 * n) l) ≡ fields_fine n l
unfolding placed_all pairs_of fields_fine same
fields_stand zero l h = refl
fields_stand (suc n) [] h = absurd (omega arith)
fields_stand (suc n) (x ∷ []) h = absurd (omega arith)
fields_stand (suc n) (x ∷ y ∷ []) h = absurd (omega arith)
fields_stand (suc n) (x ∷ y ∷ z ∷ l) h =
    let m : 3 * suc n ≡ suc (suc (suc (3 * n))) = omega arith in
    let r = fields_stand n l (omega arith) in
    by_test (eqb x 0)
    (λ t. let o : x ≡ 0 = eqb-true _ _ t in rw (o, m, eq-eqb y y refl, eq-eqb z z refl, r))
    (λ t. rw (t, m, eq-eqb y y refl, eq-eqb z z refl, r) (ap (λ (b : Bool). b && fields_fine n l) (second x (eqb-false x 0 t))))
  where
    second : (x : ℕ) → (x ≡ 0 → ⊥) → eqb 1 x ≡ leb x 1
    second x n =
        by_test (eqb 1 x)
        (λ t. let o : 1 ≡ x = eqb-true _ _ t in rw (t, le-leb x 1 (omega arith)))
        (λ t. rw (t, lt-leb x 1 (omega (arith, n, eqb-false 1 x t))))

-- from the fields,
pub placed_again : (n : ℕ) (l : List ℕ) → fields_fine n l ≡ true → 3 * n ≤ length l → placed_all (pairs_of n l) ≡ take (3 * n) l
placed_again n l e h = same_true _ _ (fields_stand n l h ∙ e)

-- and to them
pub again_placed : (n : ℕ) (l : List ℕ) → placed_all (pairs_of n l) ≡ take (3 * n) l → 3 * n ≤ length l → fields_fine n l ≡ true
again_placed n l e h = sym (fields_stand n l h) ∙ rw e (same_self (take (3 * n) l))

-- the list's
module _ (on : Bool) (n : ℕ) (l : List ℕ) where
  -- from the test
  pub list_facts : list_fine on n l ≡ true → (n ≤ 31) × (fields_fine n l ≡ true) × (on || eqb n 0 ≡ true)
  unfolding list_fine fields_fine
  list_facts e =
      let f = both (leb n 31) (cond on (fields_fine n l) (eqb n 0)) e in
      by_test on
      (λ t. (leb-true _ _ f.0, rw t at f.1, rw t))
      (λ t. let z : n ≡ 0 = eqb-true _ _ (rw t at f.1) in (leb-true _ _ f.0, rw z, rw (t, z)))

  -- to the test
  pub facts_list : n ≤ 31 → fields_fine n l ≡ true → on || eqb n 0 ≡ true → list_fine on n l ≡ true
  unfolding list_fine
  facts_list few fields listed = by_test on (λ t. rw (le-leb n 31 few, t) fields) (λ t. rw (le-leb n 31 few, t) (rw t at listed))

-- how many pairs there are
pub pairs_length : (n : ℕ) (l : List ℕ) → length (pairs_of n l) ≡ n
unfolding pairs_of
pairs_length zero l = refl
pairs_length (suc n) l = ap suc (pairs_length n _)
