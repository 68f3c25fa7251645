-- How many triples the turns of a frame send. Assumes nothing.
use mathlib.Core.Path.{◌≡◌, refl}
use mathlib.Core.Bool.{Bool, true, false, false≢true}
use mathlib.Core.List.{List, [], ◌∷◌}
use Prim.Native.Nat.{ℕ, zero, suc, ◌+◌, ◌-◌, ◌/◌, ◌≤◌, min, max}
use native.Mathlib.Omega.{arith}
use lib.ListN.{length}
use Rattle.model.specs.Frame.{Pair, pair}
use Rattle.model.specs.Mux.{Mux, Turned, turn1, turn2, turned}
use Rattle.model.proofs.Cases.{by_cond}

-- how many triples n turns make: no more than n, and with 608 padding n
pub record Counts (n : ℕ) (pad : Bool) (t : Turned) : Type 0 where
  pub most : length t.out ≤ n
  pub all : pad ≡ true → length t.out ≡ n

-- a turn that makes a triple
one_more : {n : ℕ} {pad : Bool} {t : Turned} → Counts n pad t → {t' : Turned} → length t'.out ≡ suc (length t.out) → Counts (suc n) pad t'
one_more c e = record { most = omega (arith, c.most); all = λ p. omega (arith, c.all p) }

-- a turn that makes none
no_more : {n : ℕ} {t : Turned} → Counts n false t → Counts (suc n) false t
no_more c = record { most = omega (arith, c.most); all = λ p. absurd (false≢true p) }

-- by the field that has the first turn
mutual
  unfolding turn1 turn2

  pub counts1 : (n : ℕ) (pad : Bool) (q1 q2 : List Pair) → Counts n pad (turn1 n pad q1 q2)
  counts1 zero pad q1 q2 = record { most = omega arith; all = λ p. refl }
  counts1 (suc n) pad (pair a b ∷ q1) q2 = one_more (counts2 n pad q1 q2) refl
  counts1 (suc n) pad [] (x ∷ q2) = one_more (counts2 n pad [] (x ∷ q2)) refl
  counts1 (suc n) true [] [] = one_more (counts2 n true [] []) refl
  counts1 (suc n) false [] [] = no_more (counts2 n false [] [])

  pub counts2 : (n : ℕ) (pad : Bool) (q1 q2 : List Pair) → Counts n pad (turn2 n pad q1 q2)
  counts2 zero pad q1 q2 = record { most = omega arith; all = λ p. refl }
  counts2 (suc n) pad q1 (pair a b ∷ q2) = one_more (counts1 n pad q1 q2) refl
  counts2 (suc n) true q1 [] = one_more (counts1 n true q1 []) refl
  counts2 (suc n) false q1 [] = no_more (counts1 n false q1 [])

-- so it is of the turns of a frame
pub turns_count : (n : ℕ) (s : Mux) → Counts n s.pad608 (turned n s)
unfolding turned
turns_count n s = by_cond (Counts n s.pad608) s.next1 (λ e. counts1 n s.pad608 s.queue1 s.queue2) (λ e. counts2 n s.pad608 s.queue1 s.queue2)

-- one turn more: the field whose turn it is has one turn more than the other had,
half_up : (n : ℕ) → suc n - suc n / 2 ≡ suc (n / 2)
half_up n = omega arith

-- and the other what it had
half_down : (n : ℕ) → suc n / 2 ≡ n - n / 2
half_down n = omega arith

-- one pair less
one_less : (y : ℕ) → suc y - 1 ≡ y
one_less y = omega arith

-- a turn of field 1 finds a pair of its own
own_first : (a b x y : ℕ) → suc (min b y + min a (max x (y - 1))) ≡ min (suc a) (max (suc x) y) + min b y
own_first a b x zero = omega arith
own_first a b x (suc y) = omega arith

-- or of field 2, which has one still
other_first : (a b y : ℕ) → suc (min b (suc y) + min a (max 0 y)) ≡ min (suc a) (max 0 (suc y)) + min b (suc y)
other_first a b y = omega arith

-- a turn of field 2 finds one
own_second : (a b x y : ℕ) → suc (min b (max x y) + min a y) ≡ min (suc a) (suc y) + min b (max x y)
own_second a b x y = omega arith

-- Without 608 padding, so many of n turns send as find a pair: one of the field's own, or in a turn of field 1 one of field 2. The field that has
-- the first turn has the odd one.
mutual
  unfolding turn1 turn2

  pub sends1 : (n : ℕ) (q1 q2 : List Pair) → length (turn1 n false q1 q2).out ≡ min (n - n / 2) (max (length q1) (length q2)) + min (n / 2) (length q2)
  sends1 zero q1 q2 = omega arith
  sends1 (suc n) (pair a b ∷ q1) q2 = rw (half_up n, half_down n, sends2 n q1 q2) (own_first (n / 2) (n - n / 2) (length q1) (length q2))
  sends1 (suc n) [] (x ∷ q2) = rw (half_up n, half_down n, sends2 n [] (x ∷ q2), one_less (length q2)) (other_first (n / 2) (n - n / 2) (length q2))
  sends1 (suc n) [] [] = rw (half_up n, half_down n, sends2 n [] []) (omega arith)

  pub sends2 : (n : ℕ) (q1 q2 : List Pair) → length (turn2 n false q1 q2).out ≡ min (n - n / 2) (length q2) + min (n / 2) (max (length q1) (length q2 - 1))
  sends2 zero q1 q2 = omega arith
  sends2 (suc n) q1 (pair a b ∷ q2) = rw (half_up n, half_down n, sends1 n q1 q2, one_less (length q2)) (own_second (n / 2) (n - n / 2) (length q1) (length q2))
  sends2 (suc n) q1 [] = rw (half_up n, half_down n, sends1 n q1 []) (omega arith)
