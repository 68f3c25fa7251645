-- The lines that the programs print, and their pieces [C2] to [C4]. Assumes nothing.
use Rattle.std.specs.Prelude.{cond, List, [], ◌∷◌, ◌++◌, ℕ, eqb}
use Rattle.model.specs.Said.{Said}
use Rattle.model.specs.Frame.{Cea608, pair, field1, field2}
use Rattle.program_text.specs.Text.{word, decimal, hex, run}

-- Pieces. Before a value stands one space: a number, a run of bytes,
unfoldable pub value_text : ℕ → List ℕ
value_text n = word " " ++ decimal n

unfoldable pub run_text : List ℕ → List ℕ
run_text bs = word " " ++ run bs

-- a block, as `number:payload`,
unfoldable pub block_text : ℕ → List ℕ → List ℕ
block_text number payload = value_text number ++ word ":" ++ run payload

-- and several numbers.
unfoldable pub values_text : List ℕ → List ℕ
values_text [] = []
values_text (v ∷ vs) = value_text v ++ values_text vs

-- whether an answer accepts: `ok`, or `refused` and its number,
abbrev pub number_text : ℕ → List ℕ
number_text n = cond (eqb n 0) (word "ok") (word "refused " ++ decimal n)

-- an answer, with the values that it carries
unfoldable pub answer_text : Said → List ℕ
answer_text s = number_text s.number ++ values_text s.values

-- a pair, as `field1 942C` [C2]
unfoldable pub pair_text : Cea608 → List ℕ
pair_text (field1 (pair a b)) = word "field1 " ++ hex (a ∷ b ∷ [])
pair_text (field2 (pair a b)) = word "field2 " ++ hex (a ∷ b ∷ [])

-- a packet, by its sequence number [C2]
unfoldable pub packet_text : ℕ → List ℕ
packet_text sequence = word "packet " ++ decimal sequence

-- Lines: a frame, by the number of its record, which is accepted or refused [C3],
unfoldable pub frame_line : ℕ → Said → List ℕ
frame_line r s = word "frame " ++ decimal r ++ cond (eqb s.number 0) (word " ok\n") (word " refused " ++ decimal s.number ++ word "\n")

-- a block, as `block 1 41` [C2],
unfoldable pub block_line : ℕ → List ℕ → List ℕ
block_line number payload = word "block " ++ decimal number ++ word " " ++ hex payload ++ word "\n"

-- the last line, by how many records were read [C4],
unfoldable pub end_line : ℕ → List ℕ
end_line records = word "end " ++ decimal records ++ word "\n"

-- or by where a record begins that is none or not whole [C4].
unfoldable pub stopped_line : ℕ → List ℕ
stopped_line start = word "stopped at byte " ++ decimal start ++ word "\n"
