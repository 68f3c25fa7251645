-- The share of a write: in either mode its budgets are within the bounds that writing asks for, and the parts that it keeps are within their limits.
-- Assumes nothing.
use mathlib.Core.Path.{◌≡◌, refl}
use mathlib.Core.Bool.{Bool, true, false, ◌&&◌, ◌||◌}
use mathlib.Core.List.{List, [], ◌∷◌}
use Prim.Native.Nat.{ℕ, zero, suc, ◌+◌, ◌*◌, ◌≤◌, ◌<◌}
use native.Mathlib.Nat.{le-div_iff_mul-le, div-add-mod', mod-lt}
use native.Mathlib.Omega.{arith}
use lib.Dec.{eqb, leb, ltb}
use borrow.Author.Tests.{eq-eqb, eqb-true, lt-ltb, le-ltb, ltb-true, ltb-false, leb-true, leb-false}
use Rattle.model.specs.Said.{Outcome, gave, refused, is_given, mapped, bad_rate}
use Rattle.model.specs.Rate.{Budgets, most_triples, Carry, no_carry, valid_carry, going_on, carried_budget, left_over, Share, carried_on, carried_share, share_by, rounded, pairs_at, triples_at, budgets}
use Rattle.model.specs.Run.{Accepted}
use Rattle.model.proofs.Cases.{by_test, by_cond, both, Gives, gives_then, gives_mapped, gives_at}
use Rattle.model.proofs.Rates.{Rated, budgets_rated, given}

-- a budget and what it leaves over are what was left over and what came
pub whole : (k n d rest : ℕ) → carried_budget k n d rest * n + left_over k n d rest ≡ rest + k * d
unfolding carried_budget left_over
whole k n d rest = div-add-mod' (rest + k * d) n

-- less than numer is left over
pub below : (k n d rest : ℕ) → 0 < n → left_over k n d rest < n
unfolding left_over
below k n d rest pos = mod-lt (rest + k * d) pos

-- x ≤ a carried budget exactly if n x ≤ rest + k d
module _ (k n d rest x : ℕ) (pos : 0 < n) where
  -- so much is reached
  pub least : x * n ≤ rest + k * d → x ≤ carried_budget k n d rest
  unfolding carried_budget
  least = (le-div_iff_mul-le {k = n} {x = x} {y = rest + k * d} pos).1

  -- and no more
  pub most : x ≤ carried_budget k n d rest → x * n ≤ rest + k * d
  unfolding carried_budget
  most = (le-div_iff_mul-le {k = n} {x = x} {y = rest + k * d} pos).0

-- rests below numer
pub record Below (n : ℕ) (c : Carry) : Type 0 where
  pub pairs : c.pairs < n
  pub triples : c.triples < n

-- Parts within their limits: one of two.
or_else : {P : Type 0} (a b : Bool) → a || b ≡ true → (a ≡ true → P) → (b ≡ true → P) → P
or_else true b e f g = f refl
or_else false b e f g = g e

-- parts within their limits go on with rests below numer
pub going_below : (n d : ℕ) (c : Carry) → 0 < n → valid_carry c ≡ true → Below n (going_on n d c)
unfolding valid_carry going_on
going_below n d c pos v =
    by_cond (Below n) (eqb c.numer n && eqb c.denom d)
    (λ e. let same = eqb-true c.numer n (both (eqb c.numer n) (eqb c.denom d) e).0 in
    let rests : Bool = eqb c.denom 0 && (eqb c.pairs 0 && eqb c.triples 0) in
    or_else (ltb c.pairs c.numer && ltb c.triples c.numer) (eqb c.numer 0 && rests) v
    (λ w. let b = both (ltb c.pairs c.numer) (ltb c.triples c.numer) w in
    record { pairs = omega (arith, ltb-true c.pairs c.numer b.0); triples = omega (arith, ltb-true c.triples c.numer b.1) })
    (λ w. let z = eqb-true c.numer 0 (both (eqb c.numer 0) rests w).0 in absurd (omega arith)))
    (λ e. record { pairs = pos; triples = pos })

-- a sum that is kept goes on at its rate
pub going_on_same : (n d : ℕ) (c : Carry) → going_on n d (carried_on n d c).carry ≡ (carried_on n d c).carry
unfolding going_on carried_on
going_on_same n d c = simp (eq-eqb n n refl, eq-eqb d d refl)

-- parts whose rests are below numer are within their limits
pub below_valid : (c : Carry) → Below c.numer c → valid_carry c ≡ true
unfolding valid_carry
below_valid c b = simp (lt-ltb _ _ b.pairs, lt-ltb _ _ b.triples)

-- what a write gets in the carrying mode, and of which rates
pub record Carries (n d : ℕ) (c : Carry) (h : Share) : Type 0 where
  pub some : 0 < n
  pub slow : n ≤ 120 * d
  pub room : 600 * d ≤ 31 * n
  pub is : h ≡ carried_on n d (going_on n d c)

-- a rate that is accepted in the mode
carried_gives : (n d : ℕ) (c : Carry) → Gives (Carries n d c) (carried_share n d c)
unfolding carried_share
carried_gives n d c =
    gives_then (Carries n d c) (Rated n d) (budgets n d) _ (budgets_rated n d)
    (λ b r. by_cond (Gives (Carries n d c)) (ltb (most_triples * n) (600 * d)) (λ _. tt)
    (λ e. record { some = r.some; slow = r.slow; room = omega (arith, ltb-false (most_triples * n) (600 * d) e); is = refl }))

-- what a write gets with the mode on
pub share_on : (n d : ℕ) (c : Carry) {h : Share} → share_by true n d c ≡ gave h → Carries n d c h
unfolding share_by
share_on n d c e = gives_at (Carries n d c) (carried_share n d c) e (carried_gives n d c)

-- it gets that exactly of the rates that have budgets and of which 600 · denom is within 31 · numer [G6]
pub share_accepts : (n d : ℕ) (c : Carry) {b : Budgets} → budgets n d ≡ gave b → 600 * d ≤ most_triples * n → share_by true n d c ≡ gave (carried_on n d (going_on n d c))
unfolding share_by carried_share
share_accepts n d c e room = rw (e, le-ltb (most_triples * n) (600 * d) room)

-- and with it off: the rounded budgets, and the parts as they were
pub record Rounds (n d : ℕ) (c : Carry) (h : Share) : Type 0 where
  pub rated : Rated n d h.budgets
  pub same : h.carry ≡ c

-- so it is
pub share_off : (n d : ℕ) (c : Carry) {h : Share} → share_by false n d c ≡ gave h → Rounds n d c h
unfolding share_by
share_off n d c e =
    gives_at (Rounds n d c) (share_by false n d c) e
    (gives_mapped (Rounds n d c) (Rated n d) (budgets n d) (λ b. record { budgets = b; carry = c }) (budgets_rated n d) (λ b r. record { rated = r; same = refl }))

-- it gets that of every rate that has budgets
pub share_rounds : (n d : ℕ) (c : Carry) {b : Budgets} → budgets n d ≡ gave b → share_by false n d c ≡ gave (record { budgets = b; carry = c })
unfolding share_by
share_rounds n d c e = rw e

-- budgets that are carried, from rests below numer
module _ (n d : ℕ) (c : Carry) (pos : 0 < n) (slow : n ≤ 120 * d) (room : 600 * d ≤ 31 * n) (b : Below n c) where
  -- no more than four pairs, two of them only with ten triples, and five triples always
  carried_accepted : Accepted (carried_on n d c).budgets
  unfolding carried_on
  carried_accepted =
      let p : ℕ = carried_budget 60 n d c.pairs in
      let t : ℕ = carried_budget 600 n d c.triples in
      let four : p ≤ 4 =
      by_test (leb 5 p) (λ e. absurd (omega (arith, most 60 n d c.pairs 5 pos (leb-true 5 p e), b.pairs))) (λ e. omega (arith, leb-false 5 p e)) in
      let few : t ≤ 31 =
      by_test (leb 32 t) (λ e. absurd (omega (arith, most 600 n d c.triples 32 pos (leb-true 32 t e), b.triples))) (λ e. omega (arith, leb-false 32 t e)) in
      let five : 5 ≤ t = least 600 n d c.triples 5 pos (omega arith) in
      record {
        apart =
            by_test (leb 2 p) (λ e. omega (arith, least 600 n d c.triples 10 pos (omega (arith, most 60 n d c.pairs 2 pos (leb-true 2 p e), b.pairs))))
            (λ e. omega (arith, leb-false 2 p e));
        most = few;
      }

-- what is kept is within its limits
carried_valid : (n d : ℕ) (c : Carry) → 0 < n → valid_carry (carried_on n d c).carry ≡ true
unfolding carried_on
carried_valid n d c pos = below_valid (carried_on n d c).carry (record { pairs = below 60 n d c.pairs pos; triples = below 600 n d c.triples pos })

-- What an accepted write gets, in either mode: budgets that writing asks for, and parts within their limits.
pub record Shared (h : Share) : Type 0 where
  pub accepted : Accepted h.budgets
  pub valid : valid_carry h.carry ≡ true

-- by the mode
pub share_given : (on : Bool) (n d : ℕ) (c : Carry) {h : Share} → valid_carry c ≡ true → share_by on n d c ≡ gave h → Shared h
share_given true n d c v e =
    let s = share_on n d c e in
    let b = going_below n d c s.some v in
    let g : Carry = going_on n d c in
    rw s.is (record { accepted = carried_accepted n d g s.some s.slow s.room b; valid = carried_valid n d g s.some })
share_given false n d c v e =
    let s = share_off n d c e in
    record { accepted = record { apart = s.rated.sane.apart; most = s.rated.sane.few_triples }; valid = rw s.same v }

-- refused, if at all, with 8
abbrev pub OnlyBadRate : {A : Type 0} → Outcome A → Type 0
OnlyBadRate (gave x) = Unit {0}
OnlyBadRate (refused why) = why ≡ bad_rate

-- so is a write for its rate
pub share_refused : (on : Bool) (n d : ℕ) (c : Carry) → OnlyBadRate (share_by on n d c)
unfolding share_by carried_share budgets
share_refused true n d c =
    by_test (eqb n 0 || (eqb (pairs_at n d) 0 || ltb most_triples (triples_at n d))) (λ e. rw e refl)
    (λ e. by_test (ltb (most_triples * n) (600 * d)) (λ f. rw (e, f) refl) (λ f. rw (e, f) tt))
share_refused false n d c = by_test (eqb n 0 || (eqb (pairs_at n d) 0 || ltb most_triples (triples_at n d))) (λ e. rw e refl) (λ e. rw e tt)

-- the budgets that so many writes in a row get at one rate, while the mode is on
abbrev in_a_row : ℕ → ℕ → ℕ → Carry → List (Outcome Budgets)
in_a_row zero n d c = []
in_a_row (suc k) n d c = mapped (λ h. h.budgets) (share_by true n d c) ∷ in_a_row k n d (carried_on n d (going_on n d c)).carry

-- at 24 frames a second two pairs and three in turn; at 120 none and one
pub first_budgets : (in_a_row 4 24 1 no_carry ≡ given 2 25 ∷ given 3 25 ∷ given 2 25 ∷ given 3 25 ∷ []) × (in_a_row 4 120 1 no_carry ≡ given 0 5 ∷ given 1 5 ∷ given 0 5 ∷ given 1 5 ∷ [])
unfolding share_by carried_share budgets rounded carried_on going_on carried_budget left_over
first_budgets = (refl, refl)

-- four parts
abbrev parts : ℕ → ℕ → ℕ → ℕ → Carry
parts numer denom pairs triples = record { numer = numer; denom = denom; pairs = pairs; triples = triples }

-- rates on both sides of the mode's own limit, one of them accepted without the mode
pub rates_limited : is_given (carried_share 600 31 no_carry) ∷ is_given (carried_share 401 21 no_carry) ∷ is_given (budgets 401 21) ∷ [] ≡ true ∷ false ∷ true ∷ []
unfolding carried_share budgets rounded
rates_limited = refl

-- and parts on both sides of theirs
pub parts_limited : valid_carry (parts 24 1 23 23) ∷ valid_carry (parts 24 1 24 0) ∷ valid_carry (parts 24 1 0 24) ∷ valid_carry (parts 0 0 0 0) ∷ valid_carry (parts 0 1 0 0) ∷ []
    ≡ true ∷ false ∷ false ∷ true ∷ false ∷ []
unfolding valid_carry
parts_limited = refl
