-- A sum cut by subtraction: what was taken off is so many steps, and the rest is what remains. Assumes nothing.
use mathlib.Core.Path.{◌≡◌, ap, ◌∙◌}
use mathlib.Core.Bool.{cond}
use Prim.Native.Nat.{ℕ, ◌+◌, ◌-◌, ◌*◌, ◌/◌, ◌%◌, ◌≤◌, ◌<◌}
use native.Mathlib.Nat.{add-mul, one-mul, zero-mul, mul-le-mul_right, div-eq_of_lt-le, le-div_iff_mul-le, div-add-mod', mod-lt}
use native.Mathlib.Omega.{arith}
use lib.Dec.{eqb, leb, ltb}
use borrow.Author.Tests.{ne_eqb, eqb-false, leb-true, leb-false, ltb-true, ltb-false}
use Rattle.model.proofs.Cases.{by_test}
use Rattle.basics.specs.Cut.{steps_in, cut_of}
use Rattle.basics.specs.declared.Steps.{Steps}

module _ (sum step count rest : ℕ) (e : rest + count * step ≡ sum) where
  -- so many steps are the cut
  so_many : count ≡ steps_in sum step → ◌≡◌ {A = Steps} (record { count = count; rest = rest }) (cut_of sum step)
  so_many n = let r : rest ≡ sum - count * step = omega arith in rw (r, n)

  -- less than a step is left
  cut_short : count < 31 → rest < step → ◌≡◌ {A = Steps} (record { count = count; rest = rest }) (cut_of sum step)
  cut_short few less =
      let q : sum / step ≡ count = div-eq_of_lt-le {k = count} step {m = sum} (omega arith) (omega (arith, add-mul count 1 step, one-mul step)) in
      so_many (rw (ne_eqb step 0 (λ z. omega arith), q) (omega arith))

  -- 31 steps are taken off
  cut_most : count ≡ 31 → ◌≡◌ {A = Steps} (record { count = count; rest = rest }) (cut_of sum step)
  cut_most n =
      so_many (by_test (eqb step 0) (λ t. rw t n)
      (λ t. let z = eqb-false step 0 t in
      let q : 31 ≤ sum / step = (le-div_iff_mul-le {k = step} {x = 31} {y = sum} (omega arith)).1 (omega (arith, ap (λ (k : ℕ). k * step) n)) in
      rw t (omega arith)))

-- Steps taken off a sum: so many that the rest is there, with m more 31 at the most, and fewer only if no more than m are left.
pub record Cutting (sum step m : ℕ) (s : Steps) : Type 0 where
  pub all : s.rest + s.count * step ≡ sum
  pub most : s.count + m ≤ 31
  pub left : s.count + m < 31 → s.rest < (m + 1) * step

module _ (sum step : ℕ) where
  -- none is taken off
  pub begun : Cutting sum step 31 (record { count = 0; rest = sum })
  begun = record { all = omega (arith, zero-mul step); most = omega arith; left = λ few. omega arith }

  -- of n + m at the most n are taken off at once, n being no more than m + 1, or fewer than n are left
  pub goes : (n m : ℕ) {s r : Steps} → n ≤ m + 1 → (r.count ≡ s.count + cond (leb (n * step) s.rest) n 0) × (r.rest + r.count * step ≡ s.rest + s.count * step)
      → Cutting sum step (n + m) s → Cutting sum step m r
  goes n m {s} {r} half e c =
      by_test (leb (n * step) s.rest)
      (λ t. let f : r.count ≡ s.count + n = rw t at e.0 in
      let g : r.count * step ≡ s.count * step + n * step = ap (λ (k : ℕ). k * step) f ∙ add-mul s.count n step in
      record {
        all = omega (arith, c.all, e.1);
        most = omega (arith, c.most, f);
        left = λ few. omega (arith, c.left (omega arith), leb-true (n * step) s.rest t, add-mul n (m + 1) step, e.1, g);
      })
      (λ t. let f : r.count ≡ s.count = omega (arith, rw t at e.0) in
      let g : r.count * step ≡ s.count * step = ap (λ (k : ℕ). k * step) f in
      record {
        all = omega (arith, c.all, e.1);
        most = omega (arith, c.most, f);
        left = λ few. omega (arith, leb-false (n * step) s.rest t, mul-le-mul_right {m = n} {n = m + 1} step half, e.1, g);
      })

  -- no more is to be taken
  pub ended : {s : Steps} → Cutting sum step 0 s → s ≡ cut_of sum step
  ended {s} c =
      by_test (ltb s.count 31)
      (λ t. let few = ltb-true s.count 31 t in
      cut_short sum step s.count s.rest c.all few (omega (arith, c.left (omega arith), one-mul step)))
      (λ t. cut_most sum step s.count s.rest c.all (omega (arith, c.most, ltb-false s.count 31 t)))

-- a sum of fewer than 32 steps is divided by its step
pub cut_exact : (sum step : ℕ) → sum < 32 * step → cut_of sum step ≡ record { count = sum / step; rest = sum % step }
cut_exact sum step few =
    let all = div-add-mod' sum step in
    let q : sum / step < 32 =
    by_test (leb 32 (sum / step)) (λ t. absurd (omega (arith, (le-div_iff_mul-le {k = step} {x = 32} {y = sum} (omega arith)).0 (leb-true 32 (sum / step) t)))) (λ t. leb-false 32 (sum / step) t) in
    let n : steps_in sum step ≡ sum / step = rw (ne_eqb step 0 (λ z. omega arith)) (omega arith) in
    let r : sum - sum / step * step ≡ sum % step = omega arith in
    rw (n, r)

-- what such a cut has
module _ (sum step : ℕ) (few : sum < 32 * step) {s : Steps} (e : s ≡ cut_of sum step) where
  -- its steps are few
  pub few_steps : s.count ≤ 31
  few_steps = rw (e, ne_eqb step 0 (λ z. omega arith)) (omega arith)

  -- the rest is less than a step
  pub less_left : s.rest < step
  less_left = rw (e ∙ cut_exact sum step few) (mod-lt sum {m = step} (omega arith))

  -- and with the steps it is the whole
  pub whole : s.count * step + s.rest ≡ sum
  whole = rw (e ∙ cut_exact sum step few) (div-add-mod' sum step)
