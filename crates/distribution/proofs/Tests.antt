-- The tests of a read and of a write, in their order. They stand apart from what is proved of them, so that an edit of them is refused there. Assumes nothing.
use mathlib.Core.Bool.{Bool, not, ◌&&◌}
use mathlib.Core.List.{List, [], ◌∷◌}
use mathlib.Core.Option.{Option}
use Prim.Native.Nat.{ℕ}
use lib.Dec.{ltb}
use lib.ListN.{length}
use Rattle.model.specs.Distribution.{is_coded, distribution_bytes, has_mark, sections_in_order, sums_up, counters_agree, held_in, takes, frame_of, is_whole, distribution_of}

-- a test, and the number of the refusal where it fails
pub record Test : Type 0 where
  pub passes : Bool
  pub number : ℕ

-- a test of a number
abbrev pub test : Bool → ℕ → Test
test b n = record { passes = b; number = n }

-- the tests of a packet, in the order in which they are made [L4] [L5] [L6]
abbrev pub read_tests : Option ℕ → List ℕ → List ℕ → List Test
read_tests last s out =
    test (has_mark s) 16
    ∷ test (sections_in_order s) 17
    ∷ test (sums_up s) 18
    ∷ test (counters_agree s) 19
    ∷ test (takes last (held_in s).counter) 20
    ∷ test (not (ltb (length out) (length (frame_of (held_in s))))) 9
    ∷ []

-- and those of a frame that is to become one [L3]
abbrev pub write_tests : ℕ → ℕ → List ℕ → List ℕ → List Test
write_tests counter code f out =
    test (is_whole f && is_coded code) 17
    ∷ test (not (ltb (length out) (length (distribution_bytes (distribution_of counter code f))))) 9
    ∷ []
