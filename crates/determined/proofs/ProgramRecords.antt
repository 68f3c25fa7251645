-- The functions that find records, and hand on parts, bytes and numbers of a buffer. Assumes nothing.
use mathlib.Core.Path.{sym, ◌∙◌}
use mathlib.Core.List.{List}
use Prim.Native.Nat.{ℕ}
use contract.Lifetimes.{Lfts}
use Rattle.program_records.specs.Moved.{Moved}
use Rattle.program_records.proofs.next_record.Reads as NextRecordReads
use Rattle.program_records.proofs.behind.Reads as Behind
use Rattle.program_records.proofs.part.Reads as Part
use Rattle.program_records.proofs.byte_at.Reads as ByteAtReads
use Rattle.program_records.proofs.number_at.Reads as NumberAtReads
use Rattle.program_records.proofs.move_to_front.Reads as MoveToFrontReads
use Rattle.determined.specs.Determines.{Determines, DeterminesLent, DeterminesPart}
use Rattle.determined.proofs.Ways.{equal, part_equal}

module _ {A E : Type 0} {lent : E → List ℕ} where
  -- bytes moved to the front of a lent buffer, and how many
  moves : {kept before : A → List ℕ} → DeterminesLent lent (λ (a : A) (r : ℕ) (e : E). Moved (kept a) (before a) r (lent e))
  moves = record { result = λ a r q e f h k. h.count ∙ sym k.count; contents = λ a r q e f h k. h.bytes ∙ sym k.bytes }

-- `next_record(bytes, at, ended, first, kinds)`
pub next_record : (κs : Lfts 2) → Determines (NextRecordReads.Post κs)
next_record κs = equal

-- `behind(bytes, at)`
pub behind : (κs : Lfts 1) → DeterminesPart (Behind.Post κs)
behind κs = part_equal

-- `part(bytes, start, len)`
pub part : (κs : Lfts 1) → DeterminesPart (Part.Post κs)
part κs = part_equal

-- `byte_at(bytes, at)`
pub byte_at : (κs : Lfts 1) → Determines (ByteAtReads.Post κs)
byte_at κs = equal

-- `number_at(bytes, at)`
pub number_at : (κs : Lfts 1) → Determines (NumberAtReads.Post κs)
number_at κs = equal

-- `move_to_front(bytes, from, to)`
pub move_to_front : (κs : Lfts 1) → DeterminesLent (λ e. e.0.now) (MoveToFrontReads.Post κs)
move_to_front κs = moves
