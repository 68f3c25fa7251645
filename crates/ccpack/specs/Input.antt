-- How far `ccpack` has read its input, and what it tells of it [Q9]. Assumes nothing.
use Rattle.std.specs.Prelude.{◌≡◌, true, not, List, ◌++◌, ℕ, ◌-◌, ◌%◌, min, eqb, length, take}
use Rattle.ccpack_report.specs.Jobs.{job_text, most_kept}
use Rattle.ccpack.specs.declared.Reading.{Reading}

-- How reading some input leaves the program: the buffer begins with as many of its bytes as are kept, and it is known how many are beyond these modulo 5.
pub record Leaves (input buf : List ℕ) (s : Reading) : Type 0 where
  pub have : s.have ≡ min (length input) most_kept
  pub kept : take s.have buf ≡ take s.have input
  pub over : s.over ≡ (length input - s.have) % 5

-- nothing is read
abbrev pub unread_yet : Reading
unread_yet = record { have = 0; over = 0; going = true }

-- a text is what is told of every input that leaves the program so
abbrev pub Tells : List ℕ → List ℕ → Reading → Type 0
Tells text buf s = (input : List ℕ) → Leaves input buf s → text ≡ job_text input

-- some bytes follow the input that was read, none only at its end
abbrev pub Steps : List ℕ → Reading → List ℕ → Reading → Type 0
Steps buf s after r =
    (bytes : List ℕ) × ((input : List ℕ) → Leaves input buf s → Leaves (input ++ bytes) after r) × (r.going ≡ not (eqb (length bytes) 0))

-- all of some input is read
abbrev pub Ran : List ℕ → Reading → Type 0
Ran buf r = (input : List ℕ) × Leaves input buf r
