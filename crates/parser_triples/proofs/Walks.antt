-- The walk over the triples of a frame: one law for the next and one for the end; and what a triple's first byte says. Assumes nothing.
use mathlib.Core.Path.{◌≡◌, refl, ap, ◌∙◌}
use mathlib.Core.List.{List, [], ◌∷◌}
use Prim.Native.Nat.{ℕ, zero, suc, ◌+◌, ◌*◌, ◌%◌, ◌≤◌, ◌<◌}
use native.Mathlib.Omega.{arith}
use lib.ListN.{length, get_or, drop, length-drop}
use lib.Seq.{drop-cons}
use lib.Dec.{eqb, ltb}
use borrow.Author.Tests.{eqb-true, eqb-false, ltb-true, ltb-false}
use Rattle.model.proofs.Cases.{by_test}
use Rattle.model.specs.Frame.{tri, Seen, first, second, start, more, void608, void708, seen, seen_all, triples_in}
use Rattle.parser_triples.specs.Walk.{seen_from}

-- what a reader sees, by the first byte's low three bits
abbrev seen_as : ℕ → ℕ → ℕ → Seen
seen_as zero x y = void608
seen_as (suc zero) x y = void608
seen_as (suc (suc zero)) x y = void708
seen_as (suc (suc (suc zero))) x y = void708
seen_as (suc (suc (suc (suc zero)))) x y = first x y
seen_as (suc (suc (suc (suc (suc zero))))) x y = second x y
seen_as (suc (suc (suc (suc (suc (suc zero)))))) x y = more x y
seen_as (suc (suc (suc (suc (suc (suc (suc n))))))) x y = start x y

module _ (c x y : ℕ) where
  -- by each value of those bits
  seen_by : (v : ℕ) → v < 8 → c % 8 ≡ v → seen (tri c x y) ≡ seen_as v x y
  unfolding seen
  seen_by zero h e = let q : c % 4 ≡ 0 = omega arith in rw (e, q)
  seen_by (suc zero) h e = let q : c % 4 ≡ 1 = omega arith in rw (e, q)
  seen_by (suc (suc zero)) h e = let q : c % 4 ≡ 2 = omega arith in rw (e, q)
  seen_by (suc (suc (suc zero))) h e = let q : c % 4 ≡ 3 = omega arith in rw (e, q)
  seen_by (suc (suc (suc (suc zero)))) h e = let q : c % 4 ≡ 0 = omega arith in rw (e, q)
  seen_by (suc (suc (suc (suc (suc zero))))) h e = let q : c % 4 ≡ 1 = omega arith in rw (e, q)
  seen_by (suc (suc (suc (suc (suc (suc zero)))))) h e = let q : c % 4 ≡ 2 = omega arith in rw (e, q)
  seen_by (suc (suc (suc (suc (suc (suc (suc zero))))))) h e = let q : c % 4 ≡ 3 = omega arith in rw (e, q)
  seen_by (suc (suc (suc (suc (suc (suc (suc (suc n)))))))) h e = absurd (omega arith)

  -- the table is what a reader sees
  seen_low : seen (tri c x y) ≡ seen_as (c % 8) x y
  seen_low = seen_by (c % 8) (omega arith) refl

  -- one law for each kind of triple: what holds of what it is seen as holds of it
  module _ (P : Seen → Type 0) where
    -- bits 0 and 1
    as_void608 : (v : ℕ) → v < 2 → P void608 → P (seen_as v x y)
    as_void608 zero h p = p
    as_void608 (suc zero) h p = p
    as_void608 (suc (suc v)) h p = absurd (omega arith)

    -- bits 2 and 3
    as_void708 : (v : ℕ) → 2 ≤ v → v < 4 → P void708 → P (seen_as v x y)
    as_void708 zero h k p = absurd (omega arith)
    as_void708 (suc zero) h k p = absurd (omega arith)
    as_void708 (suc (suc zero)) h k p = p
    as_void708 (suc (suc (suc zero))) h k p = p
    as_void708 (suc (suc (suc (suc v)))) h k p = absurd (omega arith)

    -- not valid, of type 0 or 1
    pub sees_void608 : c % 8 < 2 → P void608 → P (seen (tri c x y))
    sees_void608 h p = rw seen_low (as_void608 (c % 8) h p)

    -- not valid, of type 2 or 3
    pub sees_void708 : 2 ≤ c % 8 → c % 8 < 4 → P void708 → P (seen (tri c x y))
    sees_void708 h k p = rw seen_low (as_void708 (c % 8) h k p)

    -- a pair of field 1
    pub sees_first : c % 8 ≡ 4 → P (first x y) → P (seen (tri c x y))
    sees_first e p = rw (seen_low, e) p

    -- a pair of field 2
    pub sees_second : c % 8 ≡ 5 → P (second x y) → P (seen (tri c x y))
    sees_second e p = rw (seen_low, e) p

    -- more of a packet
    pub sees_more : c % 8 ≡ 6 → P (more x y) → P (seen (tri c x y))
    sees_more e p = rw (seen_low, e) p

    -- a packet's start
    pub sees_start : c % 8 ≡ 7 → P (start x y) → P (seen (tri c x y))
    sees_start e p = rw (seen_low, e) p

    -- the kinds in twos
    pub sees_void : c % 8 < 4 → P void608 → P void708 → P (seen (tri c x y))
    sees_void h p q = by_test (ltb (c % 8) 2) (λ e. sees_void608 (ltb-true _ _ e) p) (λ e. sees_void708 (ltb-false _ _ e) h q)

    -- a pair of either field
    pub sees_608 : 4 ≤ c % 8 → c % 8 < 6 → P (first x y) → P (second x y) → P (seen (tri c x y))
    sees_608 h k p q =
        by_test (eqb (c % 8) 4) (λ e. sees_first (eqb-true _ _ e) p) (λ e. sees_second (omega (arith, eqb-false (c % 8) 4 e)) q)

    -- a start or more
    pub sees_708 : 6 ≤ c % 8 → P (more x y) → P (start x y) → P (seen (tri c x y))
    sees_708 h p q =
        by_test (eqb (c % 8) 6) (λ e. sees_more (eqb-true _ _ e) p) (λ e. sees_start (omega (arith, eqb-false (c % 8) 6 e)) q)

-- the three bytes at a place, and the rest
drop3 : (l : List ℕ) (p q : ℕ) → p + 2 < length l → p + 3 ≡ q → drop p l ≡ get_or l p 0 ∷ get_or l (p + 1) 0 ∷ get_or l (p + 2) 0 ∷ drop q l
drop3 l p q h e = drop-cons l p 0 lt0 ∙ rw (e0, drop-cons l (p + 1) 0 lt1, e1, drop-cons l (p + 2) 0 h, e2)
  where
    lt0 : p < length l
    lt0 = omega arith

    lt1 : p + 1 < length l
    lt1 = omega arith

    e0 : suc p ≡ p + 1
    e0 = omega arith

    e1 : suc (p + 1) ≡ p + 2
    e1 = omega arith

    e2 : suc (p + 2) ≡ q
    e2 = omega arith

-- the triple at a place is the first of those that are left
pub seen_next : (l : List ℕ) (i : ℕ) → 3 * i + 4 < length l
    → seen_from i l ≡ seen (tri (get_or l (3 * i + 2) 0) (get_or l (3 * i + 3) 0) (get_or l (3 * i + 4) 0)) ∷ seen_from (i + 1) l
unfolding seen_all triples_in
seen_next l i h = ap (λ (r : List ℕ). seen_all (triples_in r)) at
  where
    e1 : 3 * i + 2 + 1 ≡ 3 * i + 3
    e1 = omega arith

    e2 : 3 * i + 2 + 2 ≡ 3 * i + 4
    e2 = omega arith

    at : drop (3 * i + 2) l ≡ get_or l (3 * i + 2) 0 ∷ get_or l (3 * i + 3) 0 ∷ get_or l (3 * i + 4) 0 ∷ drop (3 * (i + 1) + 2) l
    at = rw (e1, e2) at (drop3 l (3 * i + 2) (3 * (i + 1) + 2) (omega arith) (omega arith))

-- fewer than three bytes are no triple
short_none : (r : List ℕ) → length r < 3 → seen_all (triples_in r) ≡ []
unfolding seen_all triples_in
short_none [] h = refl
short_none (a ∷ []) h = refl
short_none (a ∷ b ∷ []) h = refl
short_none (a ∷ b ∷ c ∷ r) h = absurd (omega arith)

-- past the last triple none is left
pub seen_none : (l : List ℕ) (i : ℕ) → length l ≤ 3 * i + 4 → seen_from i l ≡ []
seen_none l i h = short_none (drop (3 * i + 2) l) (simp length-drop (omega arith))
