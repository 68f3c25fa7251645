-- The lines of answers to a script's operations. Assumes nothing.
use Rattle.std.specs.Prelude.{List, ◌++◌, ℕ}
use Rattle.model.specs.Said.{Said}
use Rattle.program_text.specs.Text.{word}
use Rattle.program_lines.specs.Lines.{run_text, answer_text}

-- an answer, on a line of its own
unfoldable pub answer_line : Said → List ℕ
answer_line s = answer_text s ++ word "\n"

-- an answer and all of the output that was lent, whether it was accepted or refused
unfoldable pub lent_line : Said → List ℕ → List ℕ
lent_line s out = answer_text s ++ run_text out ++ word "\n"

-- bytes that were handed back
unfoldable pub run_line : List ℕ → List ℕ
run_line bs = word "ok" ++ run_text bs ++ word "\n"
