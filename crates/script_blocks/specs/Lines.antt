-- The lines of a script that tell of a block. Assumes nothing.
use Rattle.std.specs.Prelude.{cond, List, [], ◌∷◌, ◌++◌, ℕ, eqb, length}
use Rattle.model.specs.Said.{Said, Outcome, gave, says_with, checked}
use Rattle.model.specs.Block.{block_length, block_room}
use Rattle.service.specs.declared.Service.{Service}
use Rattle.service.specs.Service.{block_of, valid_service}
use Rattle.program_text.specs.Text.{word}
use Rattle.program_lines.specs.Lines.{value_text, run_text}

-- its measures: number, length and free space, and 1 or 0 by whether it is empty,
abbrev pub measured_block : Service → Outcome (List ℕ)
measured_block s =
    checked (valid_service s)
    (gave (s.number ∷ block_length (block_of s) ∷ block_room (block_of s) ∷ cond (eqb (length (block_of s).payload) 0) 1 0 ∷ []))

-- as they are told
abbrev pub block_measures : Service → Said
block_measures s = says_with (λ ks. ks) (measured_block s)

-- one that was read: its number and its payload
unfoldable pub block_line : Service → List ℕ
block_line b = word "ok" ++ value_text b.number ++ run_text (block_of b).payload ++ word "\n"
