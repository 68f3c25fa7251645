-- Laws of the search for a late pair and for a valid 708 triple, one for each way out. Assumes nothing.
use mathlib.Core.Path.{◌≡◌, refl, sym, ◌∙◌}
use mathlib.Core.Bool.{Bool, true, false, ◌||◌}
use mathlib.Core.List.{List, ◌∷◌}
use mathlib.Core.Option.{none}
use Prim.Native.Nat.{ℕ, ◌+◌, ◌*◌, ◌%◌, ◌≤◌, ◌<◌}
use native.Mathlib.Numerals.{add-one}
use native.Mathlib.Omega.{arith}
use lib.ListN.{length, get_or}
use lib.Dec.{ltb}
use borrow.Author.Tests.{ltb-true, ltb-false}
use Rattle.model.specs.Frame.{Seen}
use Rattle.model.specs.Demux.{late_from, late_after, carries708}
use Rattle.model.proofs.Cases.{by_test}
use Rattle.parser_triples.specs.Walk.{seen_from}
use Rattle.parser_triples.specs.Plan.{plan_found}
use Rattle.parser_triples.specs.declared.Plan.{Plan}
use Rattle.parser_triples.specs.declared.Plan.TheVariants.{Late, Pairs}
use Rattle.parser_triples.proofs.Walks.{seen_next, seen_none, sees_void608, sees_void708, sees_void, sees_608, sees_708}

-- the plan within the 608 part, from the i-th triple on
abbrev pub within : ℕ → List Seen → Plan
within i ts = plan_found (late_from i ts) (carries708 ts)

-- and past it, where a valid 708 triple was there or not
abbrev pub beyond : Bool → ℕ → List Seen → Plan
beyond carries i ts = plan_found (late_after i ts) (carries || carries708 ts)

-- For the loops: `a` is the plan by all triples, and stays the plan by those that are left.
module _ (a : Plan) (f : List ℕ) (i : ℕ) where
  abbrev c : ℕ
  c = get_or f (3 * i + 2) 0

  abbrev x : ℕ
  x = get_or f (3 * i + 3) 0

  abbrev y : ℕ
  y = get_or f (3 * i + 4) 0

  -- within the 608 part
  module _ (e : a ≡ within i (seen_from i f)) where
    -- no triple is left
    pub part_done : length f ≤ 3 * i + 4 → Pairs ≡ a
    unfolding late_from carries708
    part_done h = sym (rw (seen_none f i h) at e)

    module _ (h : 3 * i + 4 < length f) where
      -- a triple of type 0 or 1
      pub part_again : c % 4 < 2 → a ≡ within (i + 1) (seen_from (i + 1) f)
      unfolding late_from carries708
      part_again k =
          (rw (seen_next f i h) at e)
          ∙ by_test (ltb (c % 8) 4)
          (λ t. let v = ltb-true (c % 8) 4 t in sees_void608 c x y Stays (omega arith) (rw add-one))
          (λ t. let v = ltb-false (c % 8) 4 t in sees_608 c x y Stays (omega arith) (omega arith) (rw add-one) (rw add-one))
        where
          Stays : Seen → Type 0
          Stays t = within i (t ∷ seen_from (i + 1) f) ≡ within (i + 1) (seen_from (i + 1) f)

      -- one of type 2 or 3 ends it, and is as one past it
      pub part_ends : 2 ≤ c % 4 → a ≡ beyond false i (seen_from i f)
      unfolding late_from late_after carries708
      part_ends k =
          e ∙ rw (seen_next f i h)
          (by_test (ltb (c % 8) 4)
          (λ t. let v = ltb-true (c % 8) 4 t in sees_void708 c x y Ends (omega arith) (omega arith) refl)
          (λ t. let v = ltb-false (c % 8) 4 t in sees_708 c x y Ends (omega arith) refl refl))
        where
          Ends : Seen → Type 0
          Ends t = within i (t ∷ seen_from (i + 1) f) ≡ beyond false i (t ∷ seen_from (i + 1) f)

  -- past it
  module _ (carries : Bool) (e : a ≡ beyond carries i (seen_from i f)) where
    -- no triple is left
    pub past_done : (b : Bool) → carries ≡ b → length f ≤ 3 * i + 4 → plan_found none b ≡ a
    unfolding late_after carries708
    past_done b q h = sym (rw (seen_none f i h, q) at e ∙ or_none b)
      where
        or_none : (b : Bool) → plan_found none (b || false) ≡ plan_found none b
        or_none true = refl
        or_none false = refl

    module _ (h : 3 * i + 4 < length f) where
      -- one that is not valid
      pub past_void : c % 8 < 4 → a ≡ beyond carries (i + 1) (seen_from (i + 1) f)
      unfolding late_after carries708
      past_void k = (rw (seen_next f i h) at e) ∙ sees_void c x y (λ t. beyond carries i (t ∷ seen_from (i + 1) f) ≡ beyond carries (i + 1) (seen_from (i + 1) f)) k (rw add-one) (rw add-one)

      -- a valid one of type 0 or 1
      pub past_late : 4 ≤ c % 8 → c % 8 < 6 → Late (3 * i) ≡ a
      unfolding late_after carries708
      past_late k m = sees_608 c x y (λ t. Late (3 * i) ≡ beyond carries i (t ∷ seen_from (i + 1) f)) k m refl refl ∙ sym (rw (seen_next f i h) at e)

      -- a valid one of type 2 or 3
      pub past_carries : 6 ≤ c % 8 → a ≡ beyond true (i + 1) (seen_from (i + 1) f)
      unfolding late_after carries708
      past_carries k =
          (rw (seen_next f i h) at e)
          ∙ sees_708 c x y (λ t. beyond carries i (t ∷ seen_from (i + 1) f) ≡ beyond true (i + 1) (seen_from (i + 1) f)) k (rw (add-one, or_true carries)) (rw (add-one, or_true carries))
        where
          or_true : (b : Bool) → b || true ≡ true
          or_true true = refl
          or_true false = refl
