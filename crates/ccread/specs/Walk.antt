-- What `ccread` tells of its input, records of frames and of distribution packets [C1]. Assumes nothing.
use native.Mathlib.Omega.{arith}
use Rattle.std.specs.Prelude.{◌+◌, ◌≤◌, Option, true, List, [], ◌∷◌, ℕ}
use Rattle.parser.specs.Calls.{fresh}
use Rattle.parser.specs.After.{turned_on}
use Rattle.distribution.specs.States.{fresh_reader as fresh_distribution}
use Rattle.ccread_report.specs.Report.{record_lines, recorded}
use Rattle.ccread_report.specs.declared.Capture.{Capture}
use Rattle.program_streams.specs.Driven.{mark_of, Driven, Broken}
use Rattle.program_streams.specs.Walk.{Told}
use Rattle.program_streams.specs.declared.Held.{Held}
use Rattle.ccread.specs.declared.Reader.{Reader}

-- the second bytes of the marks of a frame and of a packet [C1]
abbrev pub kinds : List ℕ
kinds = 0xDA ∷ 0xCD ∷ []

-- the lines of a record, and what the program has after it
abbrev pub tell : ℕ → Capture → ℕ → List ℕ → Told Capture
tell n c kind bytes = record { text = record_lines n kind bytes c; next = recorded kind bytes c }

abbrev pub telling : ℕ → Reader → ℕ → List ℕ → Told Reader
telling n r kind bytes = record { text = (tell n r.capture kind bytes).text; next = record { capture = (tell n r.capture kind bytes).next } }

-- 608 is on, and no packet was accepted yet [C2]
abbrev pub fresh_capture : Capture
fresh_capture = record { parser = turned_on fresh; reader = fresh_distribution }

abbrev pub fresh_reader : Reader
fresh_reader = record { capture = fresh_capture }

-- all of some input is told
abbrev pub Ran : Option (List ℕ) → Option (List ℕ) → Option (List ℕ) → Option (List ℕ) → List ℕ → Held → Reader → Type 0
Ran given left out now buf h r = Driven (mark_of kinds) telling true fresh_reader given left out now buf h r

-- where a read or a write failed: more is to be read, all that some input completes is told, the bytes of it that wait are at the front of the
-- buffer still, and the program stands behind it; of what the step that failed has read nothing is said
abbrev pub Broke : List ℕ → Held → Reader → Type 0
Broke buf h r = Broken (mark_of kinds) telling fresh_reader buf h r

-- the text of a record and the last line have room
pub room_fits : 32768 + 64 ≤ 65536
room_fits = omega arith
