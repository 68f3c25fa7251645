-- Laws of the plan of a frame, one for each way out. Assumes nothing.
use mathlib.Core.Path.{◌≡◌, refl, sym, ap}
use mathlib.Core.List.{List}
use mathlib.Core.Bool.{Bool, true, false, true≢false}
use mathlib.Core.Option.{Option, none, some}
use Prim.Native.Nat.{ℕ, ◌+◌, ◌*◌, ◌/◌, ◌%◌, ◌≤◌, ◌<◌}
use native.Mathlib.Omega.{arith}
use lib.ListN.{length, get_or}
use borrow.Author.Tests.{eq-eqb, ne_eqb, lt-ltb, le-ltb, eqb-true}
use lib.Dec.{eqb}
use Rattle.model.specs.Frame.{flagged, count_in}
use Rattle.model.specs.Demux.{unread, late_from, carries708}
use Rattle.model.proofs.Cases.{by_test}
use Rattle.parser_triples.specs.Walk.{seen_from}
use Rattle.parser_triples.specs.Plan.{plan_found, plan_walked, plan_of}
use Rattle.parser_triples.specs.declared.Plan.{Plan}
use Rattle.parser_triples.specs.declared.Plan.TheVariants.{Unread, LengthWrong, Late, Pairs, Packets}

module _ (d : List ℕ) where
  -- under 5 bytes
  pub plan_short : length d < 5 → Unread ≡ plan_of d
  unfolding plan_of unread
  plan_short h = simp (lt-ltb _ _ h)

  module _ (l : 5 ≤ length d) where
    -- flag 0x40 clear
    pub plan_off : (get_or d 0 0 / 64 % 2 ≡ 1 → ⊥) → Unread ≡ plan_of d
    unfolding plan_of unread flagged
    plan_off h = simp (le-ltb _ _ l, ne_eqb _ _ h)

    module _ (on : get_or d 0 0 / 64 % 2 ≡ 1) where
      -- count 0
      pub plan_none : get_or d 0 0 % 32 ≡ 0 → Unread ≡ plan_of d
      unfolding plan_of unread flagged
      plan_none h = simp (le-ltb _ _ l, eq-eqb _ _ on, eq-eqb _ _ h)

      module _ (some : get_or d 0 0 % 32 ≡ 0 → ⊥) where
        -- length 3n+2
        pub plan_walk : (q : Plan) → length d ≡ 3 * (get_or d 0 0 % 32) + 2 → q ≡ plan_walked d → q ≡ plan_of d
        unfolding plan_of unread flagged
        plan_walk q h e = simp (le-ltb _ _ l, eq-eqb _ _ on, ne_eqb _ _ some, eq-eqb _ _ h, e)

        -- any other length
        pub plan_wrong : (length d ≡ 3 * (get_or d 0 0 % 32) + 2 → ⊥) → LengthWrong (3 * (get_or d 0 0 % 32) + 2) (length d) ≡ plan_of d
        unfolding plan_of unread flagged
        plan_wrong h = simp (le-ltb _ _ l, eq-eqb _ _ on, ne_eqb _ _ some, ne_eqb _ _ h)

pub ruleset plan_laws = (plan_short, plan_off, plan_none, plan_walk, plan_wrong)

-- whether bytes are gathered
abbrev gathers : Plan → Bool
gathers Unread = false
gathers (LengthWrong expected actual) = false
gathers (Late at) = false
gathers Pairs = false
gathers Packets = true

-- bytes are gathered of a frame with a valid triple of type 2 or 3 alone
pub packets_carry : (f : List ℕ) → plan_of f ≡ Packets → carries708 (seen_from 0 f) ≡ true
unfolding plan_of
packets_carry f e =
    by_test (unread f)
    (λ t. let q : Unread ≡ Packets = rw t at e in absurd (true≢false (sym (ap gathers q))))
    (λ t. by_test (eqb (length f) (3 * count_in (get_or f 0 0) + 2))
    (λ d. let q : plan_walked f ≡ Packets = rw (t, d) at e in found (late_from 0 (seen_from 0 f)) (carries708 (seen_from 0 f)) q)
    (λ d. let q : LengthWrong (3 * count_in (get_or f 0 0) + 2) (length f) ≡ Packets = rw (t, d) at e in absurd (true≢false (sym (ap gathers q)))))
  where
    found : (o : Option ℕ) (b : Bool) → plan_found o b ≡ Packets → b ≡ true
    found (some at) b q = absurd (true≢false (sym (ap gathers q)))
    found none true q = refl
    found none false q = absurd (true≢false (sym (ap gathers q)))

-- and of one that is as long as its count asks: at most 95 bytes
pub packets_short : (f : List ℕ) → plan_of f ≡ Packets → length f ≤ 95
unfolding plan_of
packets_short f e =
    by_test (unread f)
    (λ t. let q : Unread ≡ Packets = rw t at e in absurd (true≢false (sym (ap gathers q))))
    (λ t. by_test (eqb (length f) (3 * count_in (get_or f 0 0) + 2))
    (λ d. omega (arith, eqb-true (length f) (3 * count_in (get_or f 0 0) + 2) d))
    (λ d. let q : LengthWrong (3 * count_in (get_or f 0 0) + 2) (length f) ≡ Packets = rw (t, d) at e in absurd (true≢false (sym (ap gathers q)))))
