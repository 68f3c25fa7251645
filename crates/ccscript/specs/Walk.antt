-- What `ccscript` tells of its input: records of mark CC 5C, one length byte, and as many bytes, which are an operation and its arguments.
-- Assumes nothing.
use native.Mathlib.Omega.{arith}
use Rattle.std.specs.Prelude.{◌+◌, ◌≤◌, Option, true, cond, List, [], ◌∷◌, ℕ, ltb, length}
use Rattle.script_operations.specs.Ran.{ran, fresh_machine}
use Rattle.script_operations.specs.declared.Machine.{Machine}
use Rattle.program_streams.specs.Driven.{mark_of, Driven, Broken}
use Rattle.program_streams.specs.Walk.{Told}
use Rattle.program_streams.specs.declared.Held.{Held}
use Rattle.ccscript.specs.declared.Runner.{Runner}

-- the second byte of the mark
abbrev pub kinds : List ℕ
kinds = 0x5C ∷ []

-- the line of a record, if it has fewer than 600 bytes
abbrev pub line_of : Machine → List ℕ → List ℕ
line_of m bytes = cond (ltb (length (ran m bytes).line) 600) (ran m bytes).line []

-- the line of a record, and what it leaves
abbrev pub tell : ℕ → Machine → ℕ → List ℕ → Told Machine
tell n m kind bytes = record { text = line_of m bytes; next = (ran m bytes).next }

abbrev pub telling : ℕ → Runner → ℕ → List ℕ → Told Runner
telling n r kind bytes = record { text = (tell n r.machine kind bytes).text; next = record { machine = (tell n r.machine kind bytes).next } }

-- nothing is read
abbrev pub fresh_runner : Runner
fresh_runner = record { machine = fresh_machine }

-- all of some input is told
abbrev pub Ran : Option (List ℕ) → Option (List ℕ) → Option (List ℕ) → Option (List ℕ) → List ℕ → Held → Runner → Type 0
Ran given left out now buf h r = Driven (mark_of kinds) telling true fresh_runner given left out now buf h r

-- where a read or a write failed: more is to be read, all that some input completes is told, the bytes of it that wait are at the front of the
-- buffer still, and the program stands behind it; of what the step that failed has read nothing is said
abbrev pub Broke : List ℕ → Held → Runner → Type 0
Broke buf h r = Broken (mark_of kinds) telling fresh_runner buf h r

-- the text of a record and the last line have room
pub room_fits : 600 + 64 ≤ 65536
room_fits = omega arith
