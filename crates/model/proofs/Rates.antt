-- What the budgets of an accepted rate are, and those of the rates that have names. Assumes nothing.
use mathlib.Core.Path.{◌≡◌, refl}
use mathlib.Core.Bool.{Bool, true, false, ◌||◌, true≢false}
use mathlib.Core.List.{[], ◌∷◌, map}
use Prim.Native.Nat.{ℕ, ◌+◌, ◌*◌, ◌≤◌, ◌<◌}
use native.Mathlib.Nat.{le-div_iff_mul-le}
use native.Mathlib.Omega.{arith}
use lib.Dec.{eqb, leb, ltb}
use borrow.Author.Tests.{eqb-false, ltb-false, leb-true, leb-false}
use Rattle.model.specs.Said.{Outcome, gave}
use Rattle.model.specs.Rate.{Rate, named_rates, Budgets, rounded, pairs_at, triples_at, budgets}
use Rattle.model.proofs.Cases.{by_test, by_cond, Gives}

-- x ≤ round(k · d / n) exactly if 2 n x ≤ 2 k d + n: all that is needed of the division
module _ (k n d x : ℕ) (pos : 0 < n) where
  -- so much is reached
  pub least : x * (2 * n) ≤ 2 * (k * d) + n → x ≤ rounded k n d
  unfolding rounded
  least = (le-div_iff_mul-le {k = 2 * n} {x = x} {y = 2 * (k * d) + n} (omega arith)).1

  -- and no more
  most : x ≤ rounded k n d → x * (2 * n) ≤ 2 * (k * d) + n
  unfolding rounded
  most = (le-div_iff_mul-le {k = 2 * n} {x = x} {y = 2 * (k * d) + n} (omega arith)).0

  -- so much is not reached
  pub fewer : 2 * (k * d) + n < x * (2 * n) → rounded k n d < x
  fewer h = by_test (leb x (rounded k n d)) (λ t. absurd (omega (arith, most (leb-true x (rounded k n d) t)))) (λ t. leb-false x (rounded k n d) t)

-- budgets of one to three pairs and five to 31 triples, at least four of which are no pair
pub record Sane (b : Budgets) : Type 0 where
  pub some_pair : 1 ≤ b.pairs
  pub few_pairs : b.pairs ≤ 3
  pub some_triples : 5 ≤ b.triples
  pub few_triples : b.triples ≤ 31
  pub apart : b.pairs + 4 ≤ b.triples

module _ (n d : ℕ) (pos : 0 < n) where
  -- so many pairs make for so many triples
  pairs_triples : (p t : ℕ) → (p * (2 * n) ≤ 2 * (60 * d) + n → t * (2 * n) ≤ 2 * (600 * d) + n) → p ≤ pairs_at n d → t ≤ triples_at n d
  pairs_triples p t more h = least 600 n d t pos (more (most 60 n d p pos h))

  -- a rate that passes the three tests
  sane : (pairs_at n d ≡ 0 → ⊥) → triples_at n d ≤ 31 → Sane (record { pairs = pairs_at n d; triples = triples_at n d })
  sane some few =
      let one : 1 ≤ pairs_at n d = omega arith in
      let three : pairs_at n d ≤ 3 =
      by_test (leb 4 (pairs_at n d)) (λ e. absurd (omega (arith, pairs_triples 4 32 (λ h. omega arith) (leb-true _ _ e)))) (λ e. omega (arith, leb-false 4 (pairs_at n d) e)) in
      record {
        some_pair = one;
        few_pairs = three;
        some_triples = pairs_triples 1 5 (λ h. omega arith) one;
        few_triples = few;
        apart =
            by_test (leb 2 (pairs_at n d)) (λ e. omega (arith, pairs_triples 2 7 (λ h. omega arith) (leb-true _ _ e)))
            (λ e. omega (arith, leb-false 2 (pairs_at n d) e, pairs_triples 1 5 (λ h. omega arith) one));
      }

-- the three tests of a rate
none_of : (a b c : Bool) → a || (b || c) ≡ false → (a ≡ false) × (b ≡ false) × (c ≡ false)
none_of false false false e = (refl, refl, refl)
none_of true b c e = absurd (true≢false e)
none_of false true c e = absurd (true≢false e)
none_of false false true e = absurd (true≢false e)

-- what an accepted rate is: it has frames, no more than 120 a second, and its budgets are such
pub record Rated (numer denom : ℕ) (b : Budgets) : Type 0 where
  pub some : 0 < numer
  pub slow : numer ≤ 120 * denom
  pub sane : Sane b

-- whatever the budgets give
pub budgets_rated : (numer denom : ℕ) → Gives (Rated numer denom) (budgets numer denom)
unfolding budgets
budgets_rated numer denom =
    let a : Bool = eqb numer 0 in
    let b : Bool = eqb (pairs_at numer denom) 0 in
    let c : Bool = ltb 31 (triples_at numer denom) in
    by_cond (Gives (Rated numer denom)) (a || (b || c)) (λ _. tt)
    (λ e. let w = none_of a b c e in
    let some : 0 < numer = omega (arith, eqb-false numer 0 w.0) in
    let s = sane numer denom some (eqb-false (pairs_at numer denom) 0 w.1) (ltb-false 31 (triples_at numer denom) w.2) in
    record { some = some; slow = omega (arith, most 60 numer denom 1 some s.some_pair); sane = s })

-- so many pairs and triples are given
abbrev pub given : ℕ → ℕ → Outcome Budgets
given pairs triples = gave (record { pairs = pairs; triples = triples })

-- the budgets of the rates that have names
pub named_budgets : map (λ (r : Rate). budgets r.numer r.denom) named_rates ≡ given 3 25 ∷ given 2 24 ∷ given 2 20 ∷ given 1 12 ∷ given 1 10 ∷ []
unfolding budgets rounded
named_budgets = refl
