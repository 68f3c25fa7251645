-- A walk that compares each element with the last one of its class is a comparison of every two. Assumes nothing.
use mathlib.Core.Path.{◌≡◌, refl, sym, ap, ◌∙◌}
use mathlib.Core.Bool.{Bool, true, false, cond, ◌&&◌, false≢true}
use mathlib.Core.List.{List, [], ◌∷◌}
use Prim.Native.Nat.{ℕ, ◌<◌}
use native.Mathlib.Omega.{arith}
use lib.Dec.{eqb, ltb}
use lib.ListN.{length, get_or, set, replicate, length-set, length-replicate, get_or-replicate}
use lib.Seq.{get_or-set_same, get_or-set_other}
use borrow.Author.Tests.{eqb-true, eqb-false, ltb-true, eq-eqb, ne_eqb, lt-ltb}
use Rattle.model.specs.Lists.{every}
use Rattle.model.proofs.Cases.{by_test, both}
use Rattle.model_packing.specs.Pieces.{Byte, service_of, every_two, not_after}
use Rattle.packing_bytes.specs.Table.{told, has_holder, sent_by, follows, follow}

-- what comes not after numbers that come not after others, comes not after these
pub not_after_others : (a b d : List ℕ) → not_after a b ≡ true → not_after b d ≡ true → not_after a d ≡ true
unfolding not_after
not_after_others [] b d p q = refl
not_after_others (x ∷ a) [] d p q = absurd (false≢true p)
not_after_others (x ∷ a) (y ∷ b) [] p q = absurd (false≢true q)
not_after_others (x ∷ a) (y ∷ b) (z ∷ d) p q =
    by_test (eqb x y)
    (λ e. by_test (eqb y z)
    (λ f. let g : x ≡ z = eqb-true x y e ∙ eqb-true y z f in rw (eq-eqb x z g) (not_after_others a b d (rw e at p) (rw f at q)))
    (λ f. before (omega (arith, eqb-true x y e, ltb-true y z (rw f at q)))))
    (λ e. by_test (eqb y z)
    (λ f. before (omega (arith, eqb-true y z f, ltb-true x y (rw e at p))))
    (λ f. before (omega (arith, ltb-true x y (rw e at p), ltb-true y z (rw f at q)))))
  where
    before : x < z → cond (eqb x z) (not_after a d) (ltb x z) ≡ true
    before h = rw (ne_eqb x z (λ e. omega arith), lt-ltb x z h)

-- a test of every element that is two tests
every_of_both : {A : Type 0} (f g h : A → Bool) → ((x : A) → f x ≡ g x && h x) → (xs : List A) → every f xs ≡ every g xs && every h xs
unfolding every
every_of_both f g h same [] = refl
every_of_both f g h same (x ∷ xs) = rw (same x, every_of_both f g h same xs) (shuffled (g x) (h x) (every g xs) (every h xs))
  where
    shuffled : (a b d e : Bool) → a && b && (d && e) ≡ a && d && (b && e)
    shuffled true true d e = refl
    shuffled true false true e = refl
    shuffled true false false e = refl
    shuffled false b d e = refl

-- whether two bytes of one service keep their order, by the table
unfoldable pub in_order : List ℕ → List ℕ → List ℕ → Byte → Byte → Bool
in_order services l t x y = cond (eqb (service_of services x.run) (service_of services y.run)) (not_after (sent_by l (told t x)) (sent_by l (told t y))) true

-- a conjunction with what holds, and with what does not
and_true : (b : Bool) → b && true ≡ b
and_true true = refl
and_true false = refl

and_false : (b : Bool) → b && false ≡ false
and_false true = refl
and_false false = refl

and_and : (a b d : Bool) → a && b && d ≡ a && (b && d)
and_and true b d = refl
and_and false b d = refl

-- what follows a holder that follows another one follows both
follows_both : (l : List ℕ) (g a b : ℕ) → 0 < a → follows l g a ≡ true → follows l a b ≡ follows l g b && not_after (sent_by l a) (sent_by l b)
unfolding follows
follows_both l g a b h f =
    rw (ne_eqb a 0 (λ z. omega arith))
    (by_test (not_after (sent_by l a) (sent_by l b))
    (λ e. rw (e, and_true) (sym (by_test (eqb g 0) (λ z. rw z) (λ z. rw z (not_after_others (sent_by l g) (sent_by l a) (sent_by l b) (rw z at f) e)))))
    (λ e. rw (e, and_false)))

module _ (services l t : List ℕ) (small : (r : ℕ) → get_or services r 0 < 256) where
  -- a byte follows the last one of its service
  abbrev pub goes : List ℕ → Byte → Bool
  goes last x = follows l (get_or last (service_of services x.run) 0) (told t x)

  -- what follows a byte that follows the last ones follows these
  goes_behind : (last : List ℕ) (x : Byte) → length last ≡ 256 → has_holder t x ≡ true → goes last x ≡ true
      → (y : Byte) → goes (set last (service_of services x.run) (told t x)) y ≡ goes last y && in_order services l t x y
  unfolding in_order has_holder
  goes_behind last x long held ok y =
      let s = service_of services x.run in
      let u = service_of services y.run in
      let v = told t x in
      by_test (eqb s u)
      (λ e.
      let p : s ≡ u = eqb-true s u e in
      let q : get_or (set last s v) u 0 ≡ v = ap (λ (i : ℕ). get_or (set last s v) i 0) (sym p) ∙ get_or-set_same last s v 0 (omega (arith, small x.run)) in
      rw (e, q, ← p) (follows_both l (get_or last s 0) v (told t y) (ltb-true 0 v held) ok))
      (λ e.
      let p : u ≡ s → ⊥ = λ z. eqb-false s u e (sym z) in
      rw (e, get_or-set_other last s u v 0 p, and_true))

  -- the walk, and what it asks of every two
  pub follow_two : (last : List ℕ) (xs : List Byte) → length last ≡ 256 → every (has_holder t) xs ≡ true
      → follow services l t last xs ≡ every (goes last) xs && every_two (in_order services l t) xs
  unfolding follow every every_two
  follow_two last [] long held = refl
  follow_two last (x ∷ xs) long held =
      let b = both (has_holder t x) (every (has_holder t) xs) held in
      let then = set last (service_of services x.run) (told t x) in
      let m : length then ≡ 256 = length-set last (service_of services x.run) (told t x) ∙ long in
      by_test (goes last x)
      (λ e.
      rw e
      (follow_two then xs m b.1
      ∙ ap (λ (z : Bool). z && every_two (in_order services l t) xs) (every_of_both (goes then) (goes last) (in_order services l t x) (goes_behind last x long b.0 e) xs)
      ∙ and_and (every (goes last) xs) (every (in_order services l t x) xs) (every_two (in_order services l t) xs)))
      (λ e. rw e)

  -- before the first byte, all follow
  all_go : (xs : List Byte) → every (goes (replicate 256 0)) xs ≡ true
  unfolding every follows
  all_go [] = refl
  all_go (x ∷ xs) = let z = get_or-replicate {A = ℕ} 256 (service_of services x.run) 0 0 (small x.run) in rw z (all_go xs)

  -- so a walk from there on asks the order of every two
  pub follow_all : (xs : List Byte) → every (has_holder t) xs ≡ true → follow services l t (replicate 256 0) xs ≡ every_two (in_order services l t) xs
  follow_all xs held = follow_two (replicate 256 0) xs (length-replicate {A = ℕ} 256 0) held ∙ rw (all_go xs)
