-- A test of numbers one after the other, asked from the first on: what is left of it decides. Assumes nothing.
use mathlib.Core.Path.{◌≡◌, sym, ◌∙◌}
use mathlib.Core.Bool.{Bool, true, false, not, ◌&&◌}
use Prim.Native.Nat.{ℕ, suc, ◌+◌, ◌-◌, ◌≤◌, ◌<◌}
use native.Mathlib.Omega.{arith}
use borrow.Author.Tests.{not-true, not-false}
use Rattle.model.specs.Lists.{every}
use Rattle.model_packing.specs.Pieces.{count_from}

module _ (test : ℕ → Bool) (n : ℕ) where
  -- what is left from number i on, of those below n
  abbrev pub left : ℕ → Bool
  left i = every test (count_from i (n - i))

  -- at first all of them
  pub left_first : every test (count_from 0 n) ≡ left 0
  left_first = let z : n - 0 ≡ n = omega arith in rw z

  module _ (whole : Bool) (i : ℕ) (e : whole ≡ left i) where
    -- none is left
    pub left_none : n ≤ i → true ≡ whole
    unfolding count_from every
    left_none h = let z : n - i ≡ 0 = omega arith in sym (rw z at e)

    module _ (h : i < n) (b : Bool) (is : b ≡ test i) where
      one_more : left i ≡ b && left (i + 1)
      unfolding count_from every
      one_more =
          let z : n - i ≡ suc (n - (i + 1)) = omega arith in
          let w : i + 1 ≡ suc i = omega arith in
          rw (z, is, w)

      -- one that does not pass
      pub left_stops : not b ≡ true → false ≡ whole
      left_stops f = sym (e ∙ one_more ∙ rw (not-true b f))

      -- one that does
      pub left_more : not b ≡ false → whole ≡ left (i + 1)
      left_more t = e ∙ one_more ∙ rw (not-false b t)
