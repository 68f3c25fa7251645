-- What stands in the places of a frame, for proofs. No public contract reaches this file. Assumes nothing.
use Rattle.std.specs.Prelude.{◌≡◌, not, List, ℕ, ◌+◌, ◌*◌, ◌≤◌, length}
use Rattle.std.proofs.lemmas.List.Edits.{sets}
use Rattle.model.specs.Frame.{flat}
use Rattle.model.specs.Mux.{Turned}
use Rattle.writer_turns.specs.declared.Course.{Course}
use Rattle.writer_turns.specs.declared.Turns.{Turns}

-- counts within the places of a queue [S2], and room for n triples in a frame [S5]
pub record Fits (t : Turns) (n : ℕ) : Type 0 where
  pub first : t.field1.count ≤ 64
  pub second : t.field2.count ≤ 64
  pub room : t.frame.len + 3 * n ≤ 95

-- what is told of the model's turns, where the frame had so many bytes: the pairs left, whose turn is next, and the bytes of the frame
abbrev pub course_of : Turned → ℕ → Course
course_of m len = record { left1 = length m.queue1; left2 = length m.queue2; field2_next = not m.next1; len = len + length (flat m.out) }

-- the model's turns are told, and their triples stand in the frame from `len` on
pub record Done (m : Turned) (len : ℕ) (old : List ℕ) (r : Course) (new : List ℕ) : Type 0 where
  pub course : r ≡ course_of m len
  pub stored : new ≡ sets old len (flat m.out)
