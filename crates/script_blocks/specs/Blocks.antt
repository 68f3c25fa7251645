-- The operations of a script on its block: what each does, and their rows. Assumes nothing.
use Rattle.std.specs.Prelude.{List, [], ◌∷◌, ℕ}
use Rattle.model.specs.Said.{mapped, checked}
use Rattle.model.specs.Block.{new_block, read_block, written_block, part_in, push_to_block}
use Rattle.service.specs.declared.Service.{Service}
use Rattle.service.specs.Service.{block_of, valid_service, over, blank}
use Rattle.script_answers.specs.Script.{answer_line, run_line}
use Rattle.script_answers.specs.Steps.{Effect, lays, renews, takes, becomes, stays, written_line}
use Rattle.script_answers.specs.Rows.{Row, row, exactly, all_of_them, byte}
use Rattle.script_blocks.specs.Lines.{block_measures, block_line}

-- a new block of a number
abbrev pub renews_block : ℕ → Service → Effect Service
renews_block number s = renews (mapped (over blank) (new_block number)) s

-- a run at the end of the block
abbrev pub pushes_to_block : List ℕ → Service → Effect Service
pushes_to_block run s = lays over s (checked (valid_service s) (push_to_block run (block_of s)))

-- the block's number, length and room, and whether it is empty
abbrev pub measures_block : Service → Effect Service
measures_block s = stays s (answer_line (block_measures s))

-- the block in an output of so many bytes
abbrev pub writes_block : ℕ → Service → Effect Service
writes_block len s = stays s (written_line (valid_service s) (written_block (block_of s)) len)

-- the block that some bytes hold
abbrev pub reads_block : List ℕ → Service → Effect Service
reads_block bytes s = takes block_line (mapped (over blank) (read_block bytes)) s

-- the payload that some bytes hold, as a part of them
abbrev pub tells_part : List ℕ → Service → Effect Service
tells_part bytes s = stays s (run_line (part_in bytes))

-- the block's number and length, whatever they break; its payload bytes stay
abbrev pub sets_block : ℕ → ℕ → Service → Effect Service
sets_block number len s = becomes (record { number = number; len = len; payload = s.payload })

-- all, and behind those that can change it the ones that leave it as it is
unfoldable pub block_rows : Service → List (Row Service)
block_rows s =
    row "b" (exactly 1) (λ a. renews_block (byte a 0) s)
    ∷ row "c" all_of_them (λ a. pushes_to_block a s)
    ∷ row "d" all_of_them (λ a. reads_block a s)
    ∷ row "B" (exactly 2) (λ a. sets_block (byte a 0) (byte a 1) s)
    ∷ row "m" (exactly 0) (λ a. measures_block s)
    ∷ row "e" (exactly 1) (λ a. writes_block (byte a 0) s)
    ∷ row "y" all_of_them (λ a. tells_part a s)
    ∷ []
