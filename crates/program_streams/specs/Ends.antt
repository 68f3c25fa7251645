-- Where the records of a buffer end, and the last line. Assumes nothing.
use Rattle.std.specs.Prelude.{ℕ, Bool, true, false, List, []}
use Rattle.program_records.specs.declared.Found.{Found}
use Rattle.program_records.specs.declared.Found.TheVariants as found
use Rattle.program_lines.specs.Lines.{stopped_line, end_line}
use Rattle.program_streams.specs.declared.Left.{Left}
use Rattle.program_streams.specs.declared.Left.TheVariants.{More, Stopped, Ended}

-- how it goes on where no whole record is found
unfoldable pub left_at : Found → Left
left_at (found.Record start len next) = More
left_at found.More = More
left_at found.WrongMark = Stopped
left_at found.Short = Stopped
left_at found.End = Ended

-- whether there is more to read
abbrev pub goes_on : Left → Bool
goes_on More = true
goes_on Stopped = false
goes_on Ended = false

-- the last line [C4]
abbrev pub last_line : Left → ℕ → ℕ → List ℕ
last_line More start records = []
last_line Stopped start records = stopped_line start
last_line Ended start records = end_line records
