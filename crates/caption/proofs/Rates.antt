-- The budgets of a rate: what a caller learns from what they say, and one law for each way in which they are found. Assumes nothing.
use mathlib.Core.Path.{◌≡◌, refl}
use mathlib.Core.Bool.{Bool, true, false, cond, ◌||◌}
use mathlib.Mathlib.Logic.Function.Defs.{Injective}
use Prim.Native.Nat.{ℕ, ◌+◌, ◌*◌, ◌≤◌, ◌<◌}
use native.Mathlib.Omega.{arith}
use borrow.Author.Tests.{eq-eqb, ne_eqb, eqb-false, lt-ltb, le-ltb}
use lib.Dec.{eqb, ltb}
use Rattle.std.specs.Prelude.{Result}
use Rattle.model.specs.Said.{bad_rate, gave, refused, mapped}
use Rattle.model.specs.Rate as model
use Rattle.model.specs.Rate.{budgets, rounded, pairs_at, triples_at, most_triples}
use Rattle.model.proofs.Cases.{by_test}
use Rattle.model.proofs.Rates.{least, fewer}
use Rattle.basics.specs.Cut.{cut_of}
use Rattle.basics.specs.declared.Steps.{Steps}
use Rattle.basics.proofs.Cuts.{less_left, whole}
use Rattle.caption.specs.Answers.{outcome}
use Rattle.caption.specs.Rates.{budgets_of}
use Rattle.caption.specs.declared.Budgets.{Budgets}
use Rattle.caption.specs.declared.Refusal.{Refusal}
use Rattle.caption.proofs.Outcomes.{mapped_injective}

-- the budgets that the model's are
abbrev back : model.Budgets → Budgets
back b = record { pairs = b.pairs; triples = b.triples }

-- no two answers are the same budgets
pub budgets_injective : Injective (λ (r : Result Budgets Refusal). mapped budgets_of (outcome r))
budgets_injective = mapped_injective budgets_of back (λ b. refl)

-- Fewer than 32 steps of numer, cut: what a factor k of a rate comes to, to the nearest whole number.
module _ (k n d : ℕ) (few : k * d < 32 * n) {s : Steps} (e : s ≡ cut_of (k * d) n) where
  -- a number between whose halves the whole lies
  nearest_is : (x : ℕ) → x * (2 * n) ≤ 2 * (k * d) + n → 2 * (k * d) + n < (x + 1) * (2 * n) → x ≡ rounded k n d
  nearest_is x low high = omega (arith, least k n d x (omega arith) low, fewer k n d (x + 1) (omega arith) high)

  -- less than a half is left
  pub goes_down : 2 * s.rest < n → s.count ≡ rounded k n d
  goes_down h = let w = whole (k * d) n few e in nearest_is s.count (omega arith) (omega arith)

  -- a half or more is left
  pub goes_up : n ≤ 2 * s.rest → s.count + 1 ≡ rounded k n d
  goes_up h = let w = whole (k * d) n few e in nearest_is (s.count + 1) (omega arith) (omega (arith, less_left (k * d) n few e))

-- One law for each way in which the budgets are found, in the order of the tests.
module _ (n d : ℕ) where
  -- less than half a pair [G2]
  pub too_fast : 120 * d < n → refused bad_rate ≡ budgets n d
  unfolding budgets
  too_fast h =
      let none : pairs_at n d < 1 = fewer 60 n d 1 (omega arith) (omega arith) in
      simp (ne_eqb n 0 (λ z. omega arith), eq-eqb (pairs_at n d) 0 (omega arith))

  -- 31 and a half triples and more, or a numerator of 0 [G2]
  pub too_slow : 63 * n ≤ 1200 * d → refused bad_rate ≡ budgets n d
  unfolding budgets
  too_slow h =
      by_test (eqb n 0) (λ t. simp t)
      (λ t. let some = eqb-false n 0 t in
      let over : most_triples < triples_at n d = least 600 n d 32 (omega arith) (omega arith) in
      by_test (eqb (pairs_at n d) 0) (λ u. simp (t, u)) (λ u. simp (t, u, lt-ltb most_triples (triples_at n d) over)))

  -- neither
  pub rate_accepted : {p t : ℕ} → n ≤ 120 * d → 1200 * d < 63 * n → p ≡ pairs_at n d → t ≡ triples_at n d
      → gave (record { pairs = p; triples = t }) ≡ budgets n d
  unfolding budgets
  rate_accepted {p} {t} fast slow e f =
      let one : 1 ≤ pairs_at n d = least 60 n d 1 (omega arith) (omega arith) in
      let few : triples_at n d < 32 = fewer 600 n d 32 (omega arith) (omega arith) in
      simp (ne_eqb n 0 (λ z. omega arith), ne_eqb (pairs_at n d) 0 (λ z. omega arith), le-ltb most_triples (triples_at n d) (omega arith), e, f)
