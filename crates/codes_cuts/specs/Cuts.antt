-- What is told of the codes of a payload. Assumes nothing.
use Rattle.std.specs.Prelude.{◌≡◌, cond, List, [], ℕ, ◌≤◌, eqb, ltb, length, drop}
use Rattle.model.specs.Said.{Outcome, gave, refused, after, unknown_length, code_cut_short}
use Rattle.model.specs.Codes.{codes_of}

-- of several codes how many they are
abbrev pub how_many : List (List ℕ) → ℕ
how_many cs = length cs

-- the codes of a payload; none where it is refused
abbrev pub cut_of : List ℕ → List (List ℕ)
cut_of d = after [] (codes_of d)

-- a code of this length, where so many bytes are left
unfoldable pub whole_of : ℕ → ℕ → Outcome ℕ
whole_of k left = cond (eqb k 0) (refused unknown_length) (cond (ltb left k) (refused code_cut_short) (gave k))

-- a byte of the payload from which on the codes from a place on stand
pub record Reached (d : List ℕ) (place at : ℕ) : Type 0 where
  pub within : at ≤ length d
  pub codes : codes_of (drop at d) ≡ gave (drop place (cut_of d))
