-- The lines that `ccpack` prints [Q9]. Assumes nothing.
use Rattle.std.specs.Prelude.{cond, List, [], ◌∷◌, ◌++◌, ℕ, length}
use Rattle.model.specs.Said.{Said, over_limit}
use Rattle.model_packing.specs.Pieces.{Piece}
use Rattle.model_packing.specs.FirstCome.{first_come, packets_filled, packable}
use Rattle.program_text.specs.Text.{word}
use Rattle.program_lines.specs.Lines.{value_text, answer_text, end_line}

-- what is no job
abbrev pub bad_line : List ℕ
bad_line = word "bad\n"

-- an answer
unfoldable pub answer_line : Said → List ℕ
answer_line s = answer_text s ++ word "\n"

-- how many packets a proposal fills
unfoldable pub packets_line : ℕ → List ℕ
packets_line n = word "packets" ++ value_text n ++ word "\n"

-- a piece: run, first byte, length, packet and block
unfoldable pub piece_line : Piece → List ℕ
piece_line q = word "piece" ++ value_text q.run ++ value_text q.first ++ value_text q.size ++ value_text q.packet ++ value_text q.block ++ word "\n"

-- a line for each piece
unfoldable pub piece_lines : List Piece → List ℕ
piece_lines [] = []
piece_lines (q ∷ qs) = piece_line q ++ piece_lines qs

-- a proposal: how many packets it fills, its pieces, and how many these are
unfoldable pub proposal_lines : ℕ → List Piece → List ℕ
proposal_lines packets ps = packets_line packets ++ piece_lines ps ++ end_line (length ps)

-- what is told of runs to be packed [Q9]
unfoldable pub packed_text : List ℕ → List ℕ → List ℕ
packed_text services lengths = cond (packable services lengths) (proposal_lines (packets_filled services lengths) (first_come services lengths)) (answer_line over_limit)
