-- A row is found by its letter and the number of argument bytes. Assumes nothing.
use mathlib.Core.Path.{◌≡◌, sym, ◌∙◌}
use mathlib.Core.Bool.{Bool, true, false, ◌&&◌}
use mathlib.Core.List.{List, ◌∷◌}
use Prim.Native.Nat.{ℕ}
use lib.Dec.{eqb}
use lib.ListN.{length}
use Rattle.std.specs.Prelude.{Option, Some}
use Rattle.script_answers.specs.Steps.{Did}
use Rattle.script_answers.specs.Rows.{Row, sought, Tried}

-- A letter and its argument bytes go down the rows of a part: past one that is not asked for,
module _ {S : Type 0} (old next : S) (before now a : List ℕ) (op at : ℕ) where
  pub passes : (r : Row S) (rows : List (Row S)) (t : Bool) (answer : Option ℕ) → t ≡ (eqb op r.letter && r.takes (length a)) → t ≡ false
      → Tried (sought rows op a) old before at answer next now → Tried (sought (r ∷ rows) op a) old before at answer next now
  unfolding sought
  passes r rows t answer p q d = rw (sym p ∙ q) d

  -- to the one that is, which runs
  pub finds : (r : Row S) (rows : List (Row S)) (t : Bool) (laid : ℕ) → t ≡ (eqb op r.letter && r.takes (length a)) → t ≡ true
      → Did (r.does a) before at laid next now → Tried (sought (r ∷ rows) op a) old before at (Some laid) next now
  unfolding sought
  finds r rows t laid p q d = rw (sym p ∙ q) d
