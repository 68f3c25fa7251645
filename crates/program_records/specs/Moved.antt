-- Bytes moved to the front of a lent buffer. Assumes nothing.
use Rattle.std.specs.Prelude.{◌≡◌, List, ◌++◌, ℕ, ◌-◌, ◌≤◌, length, take, drop}

-- the bytes from one place to another, as far as they are there
abbrev pub between : ℕ → ℕ → List ℕ → List ℕ
between from to l = take (to - from) (drop from l)

-- r bytes are moved to the front, no more than there are; those behind them stay
pub record Moved (kept before : List ℕ) (r : ℕ) (after : List ℕ) : Type 0 where
  pub count : r ≡ length kept
  pub within : r ≤ length before
  pub bytes : after ≡ kept ++ drop (length kept) before
