-- Cells of a table that are filled one after the other: what is left of them, and what they tell then. Assumes nothing.
use mathlib.Core.Path.{◌≡◌, refl, sym, ap, ◌∙◌}
use mathlib.Core.Bool.{Bool, true, false, false≢true}
use mathlib.Core.List.{List}
use Prim.Native.Nat.{ℕ, zero, suc, ◌+◌, ◌-◌, ◌≤◌, ◌<◌}
use native.Mathlib.Omega.{arith}
use lib.Dec.{eqb}
use lib.ListN.{length, get_or, set, replicate, length-set}
use lib.Seq.{get_or-set_same, get_or-set_other}
use borrow.Author.Tests.{eqb-true, eqb-false, eq-eqb, ne_eqb}
use Rattle.model.proofs.Cases.{by_test, both}
use Rattle.packing_bytes.specs.Table.{free, filled}

-- cells from a first one on, up to the one before `end`
module _ (end at v : ℕ) (t : List ℕ) where
  -- what is left of the test, and of the filling
  abbrev pub free_left : Bool
  free_left = free (end - at) at v t

  abbrev pub filled_left : List ℕ
  filled_left = filled (end - at) at v t

  module _ (n : ℕ) where
    -- at first all are left
    all_left : at + n - at ≡ n
    all_left = omega arith

    pub free_first : free n at v t ≡ free (at + n - at) at v t
    free_first = rw all_left

    pub filled_first : filled n at v t ≡ filled (at + n - at) at v t
    filled_first = rw all_left

  module _ (h : at < end) where
    -- one cell, and the others
    left_one : end - at ≡ suc (end - (at + 1))
    left_one = omega arith

    next_is : at + 1 ≡ suc at
    next_is = omega arith

    -- a cell that has 0 is filled
    pub filled_more : (whole : List ℕ) → whole ≡ filled_left → whole ≡ filled (end - (at + 1)) (at + 1) v (set t at v)
    unfolding filled
    filled_more whole e = e ∙ rw (left_one, next_is)

    -- which is no more than the test asks for
    pub free_more : (whole : Bool) → whole ≡ free_left → get_or t at 0 ≡ 0 → whole ≡ free (end - (at + 1)) (at + 1) v (set t at v)
    unfolding free
    free_more whole e z = e ∙ rw (left_one, next_is, eq-eqb (get_or t at 0) 0 z)

    -- one that has not
    pub free_stops : (whole : Bool) → whole ≡ free_left → (get_or t at 0 ≡ 0 → ⊥) → false ≡ whole
    unfolding free
    free_stops whole e z = sym (e ∙ rw (left_one, ne_eqb (get_or t at 0) 0 z))

  -- none is left
  module _ (h : end ≤ at) where
    left_none : end - at ≡ 0
    left_none = omega arith

    pub filled_none : (whole : List ℕ) → whole ≡ filled_left → t ≡ whole
    unfolding filled
    filled_none whole e = sym (e ∙ rw left_none)

    pub free_none : (whole : Bool) → whole ≡ free_left → true ≡ whole
    unfolding free
    free_none whole e = sym (e ∙ rw left_none)

-- the table stays as long
pub length_filled : (n at v : ℕ) (t : List ℕ) → length (filled n at v t) ≡ length t
unfolding filled
length_filled zero at v t = refl
length_filled (suc n) at v t = length_filled n (suc at) v (set t at v) ∙ length-set t at v

module _ (v i : ℕ) where
  -- other cells are left as they are
  pub filled_out : (n at : ℕ) (t : List ℕ) → (at ≤ i → i < at + n → ⊥) → get_or (filled n at v t) i 0 ≡ get_or t i 0
  unfolding filled
  filled_out zero at t f = refl
  filled_out (suc n) at t f =
      filled_out n (suc at) (set t at v) (λ h g. f (omega arith) (omega arith))
      ∙ get_or-set_other t at i v 0 (λ e. f (omega arith) (omega arith))

  -- these have the value
  pub filled_in : (n at : ℕ) (t : List ℕ) → at ≤ i → i < at + n → at + n ≤ length t → get_or (filled n at v t) i 0 ≡ v
  unfolding filled
  filled_in zero at t h g l = absurd (omega arith)
  filled_in (suc n) at t h g l =
      by_test (eqb i at)
      (λ e.
      let p : i ≡ at = eqb-true i at e in
      filled_out n (suc at) (set t at v) (λ a b. omega arith)
      ∙ ap (λ (j : ℕ). get_or (set t at v) j 0) p
      ∙ get_or-set_same t at v 0 (omega arith))
      (λ e.
      let p : i ≡ at → ⊥ = eqb-false i at e in
      filled_in n (suc at) (set t at v) (omega arith) (omega arith) (omega (arith, length-set t at v)))

  -- and had 0, if all were free
  pub free_had : (n at : ℕ) (t : List ℕ) → free n at v t ≡ true → at ≤ i → i < at + n → get_or t i 0 ≡ 0
  unfolding free
  free_had zero at t f h g = absurd (omega arith)
  free_had (suc n) at t f h g =
      let b = both (eqb (get_or t at 0) 0) (free n (suc at) v (set t at v)) f in
      by_test (eqb i at)
      (λ e. ap (λ (j : ℕ). get_or t j 0) (eqb-true i at e) ∙ eqb-true (get_or t at 0) 0 b.0)
      (λ e.
      let p : i ≡ at → ⊥ = eqb-false i at e in
      sym (get_or-set_other t at i v 0 p) ∙ free_had n (suc at) (set t at v) b.1 (omega arith) (omega arith))

-- one of them has not, if they were not
pub not_free : (v n at : ℕ) (t : List ℕ) → free n at v t ≡ false → (i : ℕ) × (at ≤ i) × (i < at + n) × (get_or t i 0 ≡ 0 → ⊥)
unfolding free
not_free v zero at t f = absurd (false≢true (sym f))
not_free v (suc n) at t f =
    by_test (eqb (get_or t at 0) 0)
    (λ e.
    let w = not_free v n (suc at) (set t at v) (rw e at f) in
    let o : at < w.0 = omega (arith, w.1) in
    (w.0, omega arith, omega (arith, w.2), λ z. w.3 (get_or-set_other t at w.0 v 0 (λ p. omega arith) ∙ z)))
    (λ e. (at, omega arith, omega arith, eqb-false (get_or t at 0) 0 e))

-- at first no cell names anything
pub empty_cells : (n i : ℕ) → get_or {A = ℕ} (replicate n 0) i 0 ≡ 0
empty_cells zero i = refl
empty_cells (suc n) zero = refl
empty_cells (suc n) (suc i) = empty_cells n i
