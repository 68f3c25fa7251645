-- A piece entered into the tables, way out by way out. Assumes nothing.
use mathlib.Core.Path.{◌≡◌, refl, ◌∙◌}
use mathlib.Core.Bool.{Bool, true, false}
use mathlib.Core.List.{List}
use Prim.Native.Nat.{ℕ, ◌+◌, ◌≤◌, ◌<◌}
use lib.Dec.{eqb}
use lib.ListN.{get_or, set}
use borrow.Author.Tests.{eq-eqb, ne_eqb, le-leb, lt-leb}
use Rattle.packing_limits.specs.Tables.{agrees, enters, Entered}

-- a block without pieces takes any,
pub admits_any : (number service : ℕ) → number ≡ 0 → true ≡ agrees number service
unfolding agrees
admits_any number service e = simp (eq-eqb number 0 e)

-- and one with pieces those of its service
pub admits_same : (number service : ℕ) (r : Bool) → (number ≡ 0 → ⊥) → r ≡ eqb number service → r ≡ agrees number service
unfolding agrees
admits_same number service r n e = e ∙ simp (ne_eqb number 0 n)

module _ (service size place : ℕ) (ns ss : List ℕ) where
  -- 0 is no service
  pub enter_unnamed : service < 1 → Entered service size place ns ss false ns ss
  unfolding enters
  enter_unnamed h = record { answer = simp (lt-leb 1 service h); numbers = refl; sizes = refl }

  module _ (named : 1 ≤ service) (t : Bool) (is : t ≡ agrees (get_or ns place 0) service) where
    -- the block is of another service
    pub enter_other : t ≡ false → Entered service size place ns ss false ns ss
    unfolding enters
    enter_other f = record { answer = simp (le-leb 1 service named, ← is, f); numbers = refl; sizes = refl }

    module _ (same : t ≡ true) (u v : ℕ) (eu : u ≡ get_or ss place 0) (ev : v ≡ size) where
      -- there are too many bytes
      pub enter_over : 31 < u + v → Entered service size place ns ss false ns ss
      unfolding enters
      enter_over h = record { answer = simp (le-leb 1 service named, ← is, same, ← eu, ← ev, lt-leb (u + v) 31 h); numbers = refl; sizes = refl }

      -- it is entered
      pub enter_fits : u + v ≤ 31 → Entered service size place ns ss true (set ns place service) (set ss place (u + v))
      unfolding enters
      enter_fits h = record { answer = simp (le-leb 1 service named, ← is, same, ← eu, ← ev, le-leb (u + v) 31 h); numbers = refl; sizes = simp (← eu, ← ev) }
