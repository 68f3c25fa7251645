-- The table of a script's operations: a row is an operation on one part of what a script works on. Assumes nothing.
use Rattle.std.specs.Prelude.{◌≡◌, Option, Some, None, Bool, true, cond, ◌&&◌, List, [], ◌∷◌, ℕ, eqb, leb, length, get_or}
use Prim.Native.Char.{Char, code}
use Rattle.script_answers.specs.Steps.{Effect, Did}

-- an operation: its letter, whether it takes so many argument bytes, and what it does with these bytes
pub record Row (S : Type 0) : Type 0 where
  pub letter : ℕ
  pub takes : ℕ → Bool
  pub does : List ℕ → Effect S

-- what is found for a letter and its argument bytes: no row, or what the row does
pub data Sought (S : Type 0) : Type 0 where
  none : Sought S
  one : Effect S → Sought S

-- so many argument bytes,
abbrev pub exactly : ℕ → ℕ → Bool
exactly k n = eqb n k

-- a number and then a run, which may be empty,
abbrev pub number_and_run : ℕ → Bool
number_and_run n = leb 1 n

-- or a run or bytes, however many
abbrev pub all_of_them : ℕ → Bool
all_of_them n = true

-- an argument byte
abbrev pub byte : List ℕ → ℕ → ℕ
byte a k = get_or a k 0

module _ {S : Type 0} where
  abbrev pub row : Char → (ℕ → Bool) → (List ℕ → Effect S) → Row S
  row letter takes does = record { letter = code letter; takes = takes; does = does }

  -- the first row of a letter that takes so many argument bytes
  unfoldable pub sought : List (Row S) → ℕ → List ℕ → Sought S
  sought [] op a = none
  sought (r ∷ rows) op a = cond (eqb op r.letter && r.takes (length a)) (one (r.does a)) (sought rows op a)

  -- What becomes of an operation that one part is asked for, where the place behind the line is answered, or that there was nothing to run: what was
  -- found runs,
  abbrev pub Tried : Sought S → S → List ℕ → ℕ → Option ℕ → S → List ℕ → Type 0
  Tried (one e) s before at (Some laid) next now = Did e before at laid next now
  Tried (one e) s before at None next now = ⊥
  -- or nothing was found, and all is as it was.
  Tried none s before at (Some laid) next now = ⊥
  Tried none s before at None next now = (next ≡ s) × (now ≡ before)
