-- What becomes of a lent buffer into which text is laid. Assumes nothing.
use Rattle.std.specs.Prelude.{◌≡◌, List, ◌++◌, ℕ, ◌+◌, min, length, take, drop}
use Rattle.std.proofs.lemmas.List.Edits.{sets}

-- Text is laid into `before` from `at` on, as far as there is room: r is the place behind it, or the buffer's end where it has no room.
-- Every other byte stays.
pub record Laid (text before : List ℕ) (at r : ℕ) (after : List ℕ) : Type 0 where
  pub place : r ≡ min (at + length text) (length before)
  pub bytes : after ≡ sets before at text

-- All of the text is laid into `before` from `at` on, and r is the place behind it. Every other byte stays.
pub record Whole (text before : List ℕ) (at r : ℕ) (after : List ℕ) : Type 0 where
  pub place : r ≡ at + length text
  pub bytes : after ≡ take at before ++ text ++ drop (at + length text) before
