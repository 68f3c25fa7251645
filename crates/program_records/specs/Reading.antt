-- Records: a mark of two bytes, a length byte, and so many bytes [C1]; what stands where no whole record does [C4]. A mark says for each of its
-- places which bytes may stand there. Assumes nothing.
use Rattle.std.specs.Prelude.{Bool, true, cond, ◌&&◌, List, [], ◌∷◌, ℕ, ◌+◌, ◌*◌, ◌^◌, eqb, ltb, length, get_or}
use Rattle.model.specs.Services.{among}
use Rattle.program_records.specs.declared.Found.{Found}
use Rattle.program_records.specs.declared.Found.TheVariants.{Record, More, WrongMark, Short, End}

-- whether the bytes that are there can be the mark
unfoldable pub can_be : List (List ℕ) → List ℕ → Bool
can_be [] s = true
can_be (ms ∷ mark) [] = true
can_be (ms ∷ mark) (x ∷ s) = among ms x && can_be mark s

-- how many bytes the record at the front of s takes: mark, length byte, and as many as it says (3 where it is not there)
abbrev pub record_length : List ℕ → ℕ
record_length s = 3 + get_or s 2 0

-- a record of which bytes are missing, or one that has not begun
abbrev pub missing : Bool → Found → Found
missing ended at_end = cond ended at_end More

-- what is found at the front of the bytes s, which begin at `at`
unfoldable pub found_in : List (List ℕ) → Bool → ℕ → List ℕ → Found
found_in mark ended at s =
    cond (eqb (length s) 0) (missing ended End)
    (cond (can_be mark s)
    (cond (ltb (length s) (record_length s)) (missing ended Short) (Record (at + 3) (get_or s 2 0) (at + record_length s)))
    WrongMark)

-- the number in the first four bytes of s, the highest first
unfoldable pub highest_first : List ℕ → ℕ
highest_first s = 256 ^ 3 * get_or s 0 0 + 256 ^ 2 * get_or s 1 0 + 256 * get_or s 2 0 + get_or s 3 0
