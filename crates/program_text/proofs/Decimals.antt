-- The digits of a number: how they go on, how many they are, and that reading them back gives the number. Assumes nothing.
use mathlib.Core.Path.{◌≡◌, refl, sym, ap, ◌∙◌}
use mathlib.Core.List.{List, [], ◌∷◌, ◌++◌}
use Prim.Native.Nat.{ℕ, zero, suc, ◌+◌, ◌*◌, ◌/◌, ◌%◌, ◌^◌, ◌≤◌, ◌<◌}
use native.Mathlib.Nat.{pow-suc}
use native.Mathlib.Omega.{arith}
use lib.Dec.{ltb}
use lib.ListN.{length, get_or, length-append, get_or-append}
use borrow.Author.Tests.{lt-ltb, le-ltb, ltb-true, ltb-false}
use Rattle.model.proofs.Cases.{by_test}
use Rattle.program_text.specs.Laid.{Laid}
use Rattle.program_text.proofs.Layings.{laid_append}
use Rattle.program_text.specs.Text.{digit, hex_byte, decimal_in, decimal, worth, value_from}

-- two counts of places that suffice give the same digits
enough : (f g n : ℕ) → n < f → n < g → decimal_in f n ≡ decimal_in g n
unfolding decimal_in
enough zero g n h k = absurd (omega arith)
enough (suc f) zero n h k = absurd (omega arith)
enough (suc f) (suc g) n h k =
    by_test (ltb n 10) (λ t. rw t) (λ t. let l : 10 ≤ n = ltb-false n 10 t in rw (t, enough f g (n / 10) (omega arith) (omega arith)))

-- a number below 10 is one digit, a larger one its tenth and a digit
module _ (n : ℕ) where
  pub decimal_small : n < 10 → decimal n ≡ digit n ∷ []
  unfolding decimal decimal_in
  decimal_small h = let e : n % 10 ≡ n = omega arith in rw (lt-ltb n 10 h, e)

  pub decimal_large : 10 ≤ n → decimal n ≡ decimal (n / 10) ++ (digit (n % 10) ∷ [])
  unfolding decimal decimal_in
  decimal_large h = rw (le-ltb n 10 h, enough n (suc (n / 10)) (n / 10) (omega arith) (omega arith))

  pub length_small : n < 10 → length (decimal n) ≡ 1
  length_small h = ap length (decimal_small h)

  pub length_large : 10 ≤ n → length (decimal n) ≡ length (decimal (n / 10)) + 1
  length_large h = ap length (decimal_large h) ∙ length-append (decimal (n / 10)) _

-- there is at least one
length_least : (n : ℕ) → 0 < length (decimal n)
length_least n = by_test (ltb n 10) (λ t. omega (arith, length_small n (ltb-true n 10 t))) (λ t. omega (arith, length_large n (ltb-false n 10 t)))

-- a number below 10 ^ k has at most k digits
pub digits_most : (k n : ℕ) → n < 10 ^ suc k → length (decimal n) ≤ suc k
digits_most zero n h = omega (arith, length_small n h)
digits_most (suc k) n h =
    by_test (ltb n 10) (λ t. omega (arith, length_small n (ltb-true n 10 t)))
    (λ t. let r = digits_most k (n / 10) (omega (arith, pow-suc 10 (suc k))) in omega (arith, r, length_large n (ltb-false n 10 t)))

-- Reading back: a digit is worth what it stands for,
worth_digit : (d : ℕ) → d < 16 → worth (digit d) ≡ d
unfolding worth digit
worth_digit d h =
    by_test (ltb d 10) (λ t. let l = ltb-true d 10 t in rw (t, lt-ltb (48 + d) 58 (omega arith)) (omega arith))
    (λ t. let l = ltb-false d 10 t in rw (t, le-ltb (55 + d) 58 (omega arith)) (omega arith))

-- one digit more,
value_snoc : (base n d : ℕ) (ds : List ℕ) → value_from base n (ds ++ (d ∷ [])) ≡ base * value_from base n ds + worth d
unfolding value_from
value_snoc base n d [] = refl
value_snoc base n d (x ∷ ds) = value_snoc base (base * n + worth x) d ds

-- the two digits of a byte are worth the byte,
pub hex_read : (b : ℕ) → b < 256 → value_from 16 0 (hex_byte b) ≡ b
unfolding value_from
hex_read b h = rw (worth_digit (b / 16) (omega arith), worth_digit (b % 16) (omega arith)) (omega arith)

-- and the decimal digits of a number the number
tenths : (f n : ℕ) → n < f → value_from 10 0 (decimal n) ≡ n
unfolding value_from
tenths zero n h = absurd (omega arith)
tenths (suc f) n h =
    by_test (ltb n 10)
    (λ t. rw (decimal_small n (ltb-true n 10 t), worth_digit n (omega (arith, ltb-true n 10 t))) (omega arith))
    (λ t. let l = ltb-false n 10 t in
    rw (decimal_large n l, value_snoc 10 0 (digit (n % 10)) (decimal (n / 10)), tenths f (n / 10) (omega arith), worth_digit (n % 10) (omega arith)) (omega arith))

pub decimal_read : (n : ℕ) → value_from 10 0 (decimal n) ≡ n
decimal_read n = tenths (suc n) n (omega arith)

-- they have no 0 in front, but for 0 itself
leads : (f n : ℕ) → n < f → 1 ≤ n → get_or (decimal n) 0 0 ≡ digit 0 → ⊥
unfolding digit
leads zero n h k e = absurd (omega arith)
leads (suc f) n h k e =
    by_test (ltb n 10)
    (λ t. let d : get_or (decimal n) 0 0 ≡ 48 + n = rw (decimal_small n (ltb-true n 10 t), t) in omega (arith, e, d))
    (λ t. let l = ltb-false n 10 t in
    let some : 0 < length (decimal (n / 10)) = length_least (n / 10) in
    leads f (n / 10) (omega arith) (omega arith)
    (sym (get_or-append (decimal (n / 10)) (digit (n % 10) ∷ []) 0 0 some) ∙ rw (← decimal_large n l) e))

pub decimal_leads : (n : ℕ) → 1 ≤ n → get_or (decimal n) 0 0 ≡ digit 0 → ⊥
decimal_leads n k e = leads (suc n) n (omega arith) k e

-- the digits of a number laid: one, or those of its tenth and one behind them
module _ (n : ℕ) {out after : List ℕ} {at r d : ℕ} where
  pub laid_digit : n < 10 → d ≡ digit n → Laid (d ∷ []) out at r after → Laid (decimal n) out at r after
  laid_digit h e w = rw (decimal_small n h, ← e) w

  pub laid_tenth : {mid : List ℕ} {p : ℕ} → 10 ≤ n → Laid (decimal (n / 10)) out at p mid → d ≡ digit (n % 10) → Laid (d ∷ []) mid p r after
      → Laid (decimal n) out at r after
  laid_tenth h f e w = rw (decimal_large n h, ← e) (laid_append f w)
