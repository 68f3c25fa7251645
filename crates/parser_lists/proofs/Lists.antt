-- Laws of listing the pairs. Assumes nothing.
use mathlib.Core.Path.{◌≡◌, refl, sym, ◌∙◌}
use mathlib.Core.List.{List, ◌∷◌}
use Prim.Native.Nat.{ℕ, suc, ◌+◌, ◌*◌, ◌%◌, ◌≤◌, ◌<◌}
use native.Mathlib.Omega.{arith}
use lib.ListN.{length, get_or, set}
use lib.Seq.{sets}
use lib.Dec.{eqb, ltb}
use borrow.Author.Tests.{eqb-true, eqb-false, ltb-true, ltb-false}
use Rattle.model.proofs.Cases.{by_test}
use Rattle.model.specs.Frame.{tri, Seen, seen, first, second, Cea608, field1, field2, pair}
use Rattle.model.specs.Demux.{pairs_in}
use Rattle.parser_triples.specs.Walk.{seen_from}
use Rattle.parser_lists.specs.Pairs.{placed_all}
use Rattle.parser_lists.specs.Listing.{Listing, listing}
use Rattle.parser_triples.proofs.Walks.{seen_next, seen_none, sees_void608, sees_first, sees_second, sees_void708, sees_708}

-- three stores one behind the other
stored : (l : List ℕ) (p q r s k x y : ℕ) (vs : List ℕ) → suc p ≡ q → suc q ≡ r → suc r ≡ s
    → sets l p (k ∷ x ∷ y ∷ vs) ≡ sets (set (set (set l p k) q x) r y) s vs
stored l p q r s k x y vs e f g = rw (← g, ← f, ← e)

module _ (n : ℕ) (l : List ℕ) where
  -- one pair more, laid by three stores
  listed : (p : Cea608) (k x y : ℕ) (ts : List Seen) (t : Seen) → pairs_in (t ∷ ts) ≡ p ∷ pairs_in ts → placed_all (p ∷ pairs_in ts) ≡ k ∷ x ∷ y ∷ placed_all (pairs_in ts)
      → listing n l (t ∷ ts) ≡ listing (n + 1) (set (set (set l (3 * n) k) (3 * n + 1) x) (3 * n + 2) y) ts
  unfolding listing placed_all
  listed p k x y ts t e f =
      let g : n + suc (length (pairs_in ts)) ≡ n + 1 + length (pairs_in ts) = omega arith in
      rw (e, f, g, stored l (3 * n) (3 * n + 1) (3 * n + 2) (3 * (n + 1)) k x y (placed_all (pairs_in ts)) (omega arith) (omega arith) (omega arith))

  module _ (c x y : ℕ) (ts : List Seen) where
    -- a triple that is not valid lists nothing
    pub list_void : c % 4 < 2 → c % 8 < 4 → listing n l (seen (tri c x y) ∷ ts) ≡ listing n l ts
    unfolding listing pairs_in
    list_void h k = sees_void608 c x y (λ t. listing n l (t ∷ ts) ≡ listing n l ts) (omega arith) refl

    -- a valid one lists its pair
    pub list_pair : c % 4 < 2 → 4 ≤ c % 8
        → listing n l (seen (tri c x y) ∷ ts) ≡ listing (n + 1) (set (set (set l (3 * n) (c % 4)) (3 * n + 1) x) (3 * n + 2) y) ts
    unfolding pairs_in placed_all
    list_pair h k =
        by_test (eqb (c % 8) 4)
        (λ e. let z : c % 4 ≡ 0 = omega (arith, eqb-true (c % 8) 4 e) in
        rw z (sees_first c x y (Lists 0) (eqb-true _ _ e) (listed (field1 (pair x y)) 0 x y ts (first x y) refl refl)))
        (λ e. let z : c % 4 ≡ 1 = omega (arith, eqb-false (c % 8) 4 e) in
        rw z (sees_second c x y (Lists 1) (omega (arith, eqb-false (c % 8) 4 e)) (listed (field2 (pair x y)) 1 x y ts (second x y) refl refl)))
      where
        Lists : ℕ → Seen → Type 0
        Lists k t = listing n l (t ∷ ts) ≡ listing (n + 1) (set (set (set l (3 * n) k) (3 * n + 1) x) (3 * n + 2) y) ts

    -- one of type 2 or 3 ends the list
    pub list_ends : 2 ≤ c % 4 → record { count = n; places = l } ≡ listing n l (seen (tri c x y) ∷ ts)
    unfolding listing pairs_in placed_all
    list_ends h =
        by_test (ltb (c % 8) 4)
        (λ e. sees_void708 c x y Ends (omega arith) (ltb-true _ _ e) ends)
        (λ e. sees_708 c x y Ends (omega (arith, ltb-false (c % 8) 4 e)) ends ends)
      where
        Ends : Seen → Type 0
        Ends t = record { count = n; places = l } ≡ listing n l (t ∷ ts)

        ends : ◌≡◌ {A = Listing} (record { count = n; places = l }) (record { count = n + 0; places = l })
        ends = let e : n + 0 ≡ n = omega arith in rw e

-- For the loop: `a` is the list of the whole, and stays the list of what is left.
module _ (a : Listing) (f : List ℕ) (n i : ℕ) (l : List ℕ) (e : a ≡ listing n l (seen_from i f)) where
  -- no triple is left
  pub list_none : length f ≤ 3 * i + 4 → record { count = n; places = l } ≡ a
  unfolding listing pairs_in placed_all
  list_none h = let z : n + 0 ≡ n = omega arith in sym (rw (seen_none f i h, z) at e)

  module _ (h : 3 * i + 4 < length f) where
    -- a triple of type 2 or 3 comes
    pub list_stops : 2 ≤ get_or f (3 * i + 2) 0 % 4 → record { count = n; places = l } ≡ a
    list_stops k = list_ends n l (get_or f (3 * i + 2) 0) (get_or f (3 * i + 3) 0) (get_or f (3 * i + 4) 0) (seen_from (i + 1) f) k ∙ sym (rw (seen_next f i h) at e)

    -- a triple of the 608 part comes
    pub list_again : (m : ℕ) (k : List ℕ)
        → ((ts : List Seen) → listing n l (seen (tri (get_or f (3 * i + 2) 0) (get_or f (3 * i + 3) 0) (get_or f (3 * i + 4) 0)) ∷ ts) ≡ listing m k ts)
        → a ≡ listing m k (seen_from (i + 1) f)
    list_again m k g = (rw (seen_next f i h) at e) ∙ g (seen_from (i + 1) f)
