-- What a frame gets of a rate: what the tests and the cuts of the code come to. Assumes nothing.
use mathlib.Core.Path.{◌≡◌, refl, sym, ◌∙◌}
use mathlib.Core.Bool.{Bool, true, false, ◌&&◌}
use mathlib.Mathlib.Logic.Function.Defs.{Injective}
use Prim.Native.Nat.{ℕ, ◌+◌, ◌*◌, ◌≤◌, ◌<◌}
use native.Mathlib.Omega.{arith}
use lib.Dec.{eqb, ltb}
use borrow.Author.Tests.{eq-eqb, ne_eqb, eqb-true, eqb-false, lt-ltb, le-ltb}
use Rattle.model.specs.Said.{Said, Outcome, gave, refused, mapped, checked, bad_rate, bad_value}
use Rattle.model.specs.Rate as model
use Rattle.model.specs.Rate.{budgets, most_triples, valid_carry, going_on, carried_budget, left_over, carried_on, carried_at, carried_share, share_by}
use Rattle.model.proofs.Cases.{by_test, both, gives_at}
use Rattle.model.proofs.Rates.{Rated, budgets_rated}
use Rattle.model.proofs.Carrying.{Below, going_below}
use Rattle.basics.specs.Cut.{cut_of}
use Rattle.basics.proofs.Cuts.{cut_exact, less_left}
use Rattle.basics.specs.declared.Steps.{Steps}
use Rattle.std.specs.Prelude.{Result}
use Rattle.caption.specs.Answers.{outcome}
use Rattle.caption.proofs.Outcomes.{mapped_injective}
use Rattle.caption.specs.declared.Refusal.{Refusal}
use Rattle.writer_shares.specs.Share.{carry_of, share_of, share_in}
use Rattle.writer_shares.specs.declared.Carry.{Carry}
use Rattle.writer_shares.specs.declared.Share.{Share}

-- a sum is 0 exactly if all are
all_zero : (n d p t : ℕ) → eqb (n + d + (p + t)) 0 ≡ eqb n 0 && (eqb d 0 && (eqb p 0 && eqb t 0))
all_zero n d p t =
    by_test (eqb (n + d + (p + t)) 0)
    (λ e. let z : n + d + (p + t) ≡ 0 = eqb-true (n + d + (p + t)) 0 e in
    rw (e, eq-eqb n 0 (omega arith), eq-eqb d 0 (omega arith), eq-eqb p 0 (omega arith), eq-eqb t 0 (omega arith)))
    (λ e. by_test (eqb n 0 && (eqb d 0 && (eqb p 0 && eqb t 0)))
    (λ f. let w = both (eqb n 0) (eqb d 0 && (eqb p 0 && eqb t 0)) f in
    let x = both (eqb d 0) (eqb p 0 && eqb t 0) w.1 in
    let y = both (eqb p 0) (eqb t 0) x.1 in
    absurd (eqb-false (n + d + (p + t)) 0 e (omega (arith, eqb-true n 0 w.0, eqb-true d 0 x.0, eqb-true p 0 y.0, eqb-true t 0 y.1))))
    (λ f. e ∙ sym f))

-- the test of the parts
module _ (c : model.Carry) where
  -- the rest of the pairs is below numer: the other one decides
  pub below_decides : c.pairs < c.numer → ltb c.triples c.numer ≡ valid_carry c
  unfolding valid_carry
  below_decides h =
      by_test (ltb c.triples c.numer) (λ e. rw (lt-ltb c.pairs c.numer h, e))
      (λ e. rw (lt-ltb c.pairs c.numer h, e, ne_eqb c.numer 0 (λ z. omega arith)))

  -- it is not: all four have to be 0
  pub zeros_decide : c.numer ≤ c.pairs → eqb (c.numer + c.denom + (c.pairs + c.triples)) 0 ≡ valid_carry c
  unfolding valid_carry
  zeros_decide h = rw (le-ltb c.pairs c.numer h) (all_zero c.numer c.denom c.pairs c.triples)

-- the parts that go on
module _ (n d : ℕ) (c : model.Carry) where
  -- at the rate of the sum
  pub goes_on : c.numer ≡ n → c.denom ≡ d → c ≡ going_on n d c
  unfolding going_on
  goes_on e f = rw (eq-eqb c.numer n e, eq-eqb c.denom d f)

  -- of another numer
  pub afresh_numer : (c.numer ≡ n → ⊥) → model.no_carry ≡ going_on n d c
  unfolding going_on
  afresh_numer f = rw (ne_eqb c.numer n f)

  -- of another denom
  pub afresh_denom : c.numer ≡ n → (c.denom ≡ d → ⊥) → model.no_carry ≡ going_on n d c
  unfolding going_on
  afresh_denom e f = rw (eq-eqb c.numer n e, ne_eqb c.denom d f)

-- what is left over, below numer, and what comes of a factor k, within 31 · numer, are cut into the budget and what it leaves over
module _ (k n d rest : ℕ) (less : rest < n) (room : k * d ≤ most_triples * n) (s : Steps) (e : s ≡ cut_of (rest + k * d) n) where
  -- the budget
  share_cut : s ≡ record { count = carried_budget k n d rest; rest = left_over k n d rest }
  unfolding carried_budget left_over
  share_cut = e ∙ cut_exact (rest + k * d) n (omega arith)

  -- and what it leaves over is below numer again
  share_rest : s.rest < n
  share_rest = less_left (rest + k * d) n (omega arith) e

-- in the carrying mode, of a rate that has frames and of parts within their limits
module _ (n d : ℕ) (c : model.Carry) (ok : (valid_carry c ≡ true) × (0 < n)) where
  -- more triples than a frame holds
  pub carried_over : most_triples * n < 600 * d → refused bad_rate ≡ carried_at n d c
  carried_over h = rw (lt-ltb (most_triples * n) (600 * d) h)

  module _ (room : 600 * d ≤ most_triples * n) (on : Carry) (same : carry_of on ≡ going_on n d c) where
    -- what is left over is below numer
    rests : Below n (carry_of on)
    rests = rw same (going_below n d c ok.1 ok.0)

    -- after the pairs
    pub pairs_rest : (p : Steps) → p ≡ cut_of (on.pairs + 60 * d) n → p.rest < n
    pairs_rest p e = share_rest 60 n d on.pairs rests.pairs (omega arith) p e

    -- and after the triples
    pub triples_rest : (t : Steps) → t ≡ cut_of (on.triples + 600 * d) n → t.rest < n
    triples_rest t e = share_rest 600 n d on.triples rests.triples room t e

    -- so both are what the frame gets
    pub carried_is : (p t : Steps) → p ≡ cut_of (on.pairs + 60 * d) n → t ≡ cut_of (on.triples + 600 * d) n
        → gave (record { budgets = record { pairs = p.count; triples = t.count }; carry = record { numer = n; denom = d; pairs = p.rest; triples = t.rest } }) ≡ carried_at n d c
    unfolding carried_on
    carried_is p t e f =
        rw (le-ltb (most_triples * n) (600 * d) room, ← same, share_cut 60 n d on.pairs rests.pairs (omega arith) p e, share_cut 600 n d on.triples rests.triples room t f)

-- by the mode, of parts within their limits
module _ (on : Bool) (n d : ℕ) (c : model.Carry) (v : valid_carry c ≡ true) where
  -- a rate that has no budgets
  pub no_share : (why : Said) → refused why ≡ budgets n d → refused why ≡ checked (valid_carry c) (share_by on n d c)
  unfolding share_by carried_share
  no_share why e = by_test on (λ t. rw (v, t, ← e)) (λ t. rw (v, t, ← e))

  module _ (b : model.Budgets) (has : gave b ≡ budgets n d) where
    -- one that has has frames
    pub some_frames : 0 < n
    some_frames = (gives_at (Rated n d) (budgets n d) (sym has) (budgets_rated n d)).some

    -- carried
    pub with_mode : {o : Outcome model.Share} → on ≡ true → o ≡ carried_at n d c → o ≡ checked (valid_carry c) (share_by on n d c)
    unfolding share_by carried_share
    with_mode t e = e ∙ rw (v, t, ← has)

    -- rounded
    pub without_mode : on ≡ false → gave (record { budgets = b; carry = c }) ≡ checked (valid_carry c) (share_by on n d c)
    unfolding share_by
    without_mode t = rw (v, t, ← has)

-- parts that break a limit
pub bad_parts : (o : Outcome model.Share) (c : model.Carry) → valid_carry c ≡ false → refused bad_value ≡ checked (valid_carry c) o
bad_parts o c v = rw v

-- no two answers are the same in the model
pub share_injective : Injective (λ (r : Result Share Refusal). mapped share_of (outcome r))
share_injective = mapped_injective share_of share_in (λ h. refl)
