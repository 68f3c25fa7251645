-- When the bytes of runs are sent by the first-come packer's proposal: each with the one piece of its run. Assumes nothing.
use mathlib.Core.Path.{◌≡◌, refl, ◌∙◌}
use mathlib.Core.Bool.{Bool, true, false}
use mathlib.Core.List.{List, [], ◌∷◌, ◌++◌, map, flat_map}
use Prim.Native.Nat.{ℕ, zero, suc, ◌+◌, ◌≤◌, ◌<◌}
use native.Mathlib.Omega.{arith}
use lib.Dec.{eqb}
use lib.ListN.{length, get_or}
use borrow.Author.Tests.{eq-eqb, ne_eqb, le-leb, lt-ltb, eqb-true, eqb-false}
use Rattle.model.specs.Lists.{every}
use Rattle.model.proofs.Cases.{by_test, both, and_both}
use Rattle.model_packing.specs.Pieces.{Byte, byte, count_from, run_bytes, every_two, not_after, In, here, there}
use Rattle.model_packing.specs.Proposals.{holds, holders, sent_from, sent}
use Rattle.model_packing.proofs.Lists.{in_every, every_both, map_in, flat_map_in, count_in}
use Rattle.model_packing.proofs.Filling.{piece_of, pieces_to}

module _ (services lengths : List ℕ) (r k : ℕ) where
  -- a byte is in the piece of its run,
  holds_own : k < get_or lengths r 0 → holds (byte r k) (piece_of services lengths r) ≡ true
  unfolding holds
  holds_own h = simp (eq-eqb r r refl, le-leb 0 k (omega arith), lt-ltb k (0 + get_or lengths r 0) (omega arith))

  -- and not in that of another
  holds_other : (i : ℕ) → (i ≡ r → ⊥) → holds (byte r k) (piece_of services lengths i) ≡ false
  unfolding holds
  holds_other i h = simp (ne_eqb i r h)

  -- so it is in none of the pieces of later runs,
  none_holds : (n i : ℕ) → r < i → holders (byte r k) (map (piece_of services lengths) (count_from i n)) ≡ 0
  unfolding holders count_from
  none_holds zero i h = refl
  none_holds (suc n) i h = rw (holds_other i (λ e. omega arith)) (omega (arith, none_holds n (suc i) (omega arith)))

  -- in one of those among which its own is,
  one_holds : (n i : ℕ) → i ≤ r → r < i + n → k < get_or lengths r 0 → holders (byte r k) (map (piece_of services lengths) (count_from i n)) ≡ 1
  unfolding holders count_from
  one_holds zero i h g l = absurd (omega arith)
  one_holds (suc n) i h g l =
      by_test (eqb i r)
      (λ e. let z : i ≡ r = eqb-true i r e in rw (z, holds_own l, none_holds n (suc r) (omega arith)))
      (λ e. rw (holds_other i (eqb-false i r e)) (omega (arith, one_holds n (suc i) (omega (arith, eqb-false i r e)) (omega arith) l)))

  -- and it is sent with that
  sent_own : (n i : ℕ) → i ≤ r → r < i + n → k < get_or lengths r 0
      → sent_from i (map (piece_of services lengths) (count_from i n)) (byte r k) ≡ ((piece_of services lengths r).packet ∷ ((piece_of services lengths r).block ∷ (r ∷ [])))
  unfolding sent_from count_from
  sent_own zero i h g l = absurd (omega arith)
  sent_own (suc n) i h g l =
      by_test (eqb i r)
      (λ e. let z : i ≡ r = eqb-true i r e in rw (z, holds_own l))
      (λ e. rw (holds_other i (eqb-false i r e)) (sent_own n (suc i) (omega (arith, eqb-false i r e)) (omega arith) l))

  module _ (there : r < length services) (l : k < get_or lengths r 0) where
    -- so of all of the proposal it is in one piece
    pub run_held_once : holders (byte r k) (pieces_to services lengths (length services)) ≡ 1
    run_held_once = one_holds (length services) 0 (omega arith) (omega arith) l

    -- and it is sent with that of its run
    pub sent_with_run : sent (pieces_to services lengths (length services)) (byte r k) ≡ ((piece_of services lengths r).packet ∷ ((piece_of services lengths r).block ∷ (r ∷ [])))
    sent_with_run = sent_own (length services) 0 (omega arith) (omega arith) l

-- numbers of which the first is not greater do not come after others, if in case the first are equal the rest do not
not_after_rest : (x y : ℕ) (l m : List ℕ) → x ≤ y → (x ≡ y → not_after l m ≡ true) → not_after (x ∷ l) (y ∷ m) ≡ true
unfolding not_after
not_after_rest x y l m h f =
    by_test (eqb x y) (λ e. rw e (f (eqb-true x y e))) (λ e. rw (e, lt-ltb x y (omega (arith, eqb-false x y e))))

-- three numbers do not come after three others where no first one of them does
pub not_after_three : (p q b c i j : ℕ) → p ≤ q → (p ≡ q → b ≤ c) → i ≤ j → not_after (p ∷ (b ∷ (i ∷ []))) (q ∷ (c ∷ (j ∷ []))) ≡ true
unfolding not_after
not_after_three p q b c i j h g f =
    not_after_rest p q (b ∷ (i ∷ [])) (c ∷ (j ∷ [])) h (λ e. not_after_rest b c (i ∷ []) (j ∷ []) (g e) (λ _. not_after_rest i j [] [] f (λ _. refl)))

module _ {A : Type 0} (test : A → A → Bool) where
  -- every two elements of a list pass a test that any two pass,
  two_all : (l : List A) → ((x y : A) → In x l → In y l → test x y ≡ true) → every_two test l ≡ true
  unfolding every_two
  two_all [] f = refl
  two_all (x ∷ l) f = and_both _ _ (in_every (test x) l (λ y j. f x y (here refl) (there j))) (two_all l (λ y z i j. f y z (there i) (there j)))

  -- every two of two lists where those of each do and those across,
  two_both : (l m : List A) → every_two test l ≡ true → every_two test m ≡ true → ((x y : A) → In x l → In y m → test x y ≡ true) → every_two test (l ++ m) ≡ true
  unfolding every_two
  two_both [] m e g f = g
  two_both (x ∷ l) m e g f =
      let t = both (every (test x) l) (every_two test l) e in
      and_both _ _
      (every_both (test x) l m ∙ and_both _ _ t.0 (in_every (test x) m (λ y j. f x y (here refl) j)))
      (two_both l m t.1 g (λ y z i j. f y z (there i) j))

  -- and every two of what is made of numbers in their order
  pub two_counted : (f : ℕ → List A) (n a : ℕ)
      → ((i j : ℕ) → i ≤ j → j < a + n → (x y : A) → In x (f i) → In y (f j) → test x y ≡ true)
      → every_two test (flat_map f (count_from a n)) ≡ true
  unfolding flat_map count_from every_two
  two_counted f zero a g = refl
  two_counted f (suc n) a g =
      two_both (f a) (flat_map f (count_from (suc a) n))
      (two_all (f a) (g a a (omega arith) (omega arith)))
      (two_counted f n (suc a) (λ i j h k. g i j h (omega arith)))
      (λ x y i j. let t = flat_map_in f (count_from (suc a) n) j in
      let c = count_in t.0 (suc a) n t.1 in
      g a t.0 (omega arith) (omega arith) x y i t.2)

-- the bytes of a run
pub run_bytes_in : (lengths : List ℕ) (r : ℕ) (x : Byte) → In x (run_bytes lengths r) → (k : ℕ) × (x ≡ byte r k) × (k < get_or lengths r 0)
unfolding run_bytes
run_bytes_in lengths r x i =
    let t = map_in (byte r) (count_from 0 (get_or lengths r 0)) i in
    let c = count_in t.0 0 (get_or lengths r 0) t.1 in
    (t.0, t.2, omega (arith, c.1))
