-- The lines of a script that tell of codes. Assumes nothing.
use Rattle.std.specs.Prelude.{List, ◌++◌, map, ℕ, length}
use Rattle.model.specs.Said.{says_with, checked}
use Rattle.model.specs.Block.{Block}
use Rattle.model.specs.Codes.{codes_of, codes_of_blocks}
use Rattle.packet.specs.declared.DTVCCPacket.{DTVCCPacket}
use Rattle.packet.specs.Packet.{packet_of, valid_dtvcc}
use Rattle.codes_cuts.specs.Cuts.{cut_of}
use Rattle.program_text.specs.Text.{word}
use Rattle.program_lines.specs.Lines.{value_text, values_text}
use Rattle.script_answers.specs.Script.{answer_line}
use Rattle.script_packets.specs.Lines.{each_text}

-- how many elements each of several lists has
abbrev pub lengths_of : {A : Type 0} → List (List A) → List ℕ
lengths_of ls = map length ls

-- the length of each code of some bytes, or why they have none
unfoldable pub cut_line : List ℕ → List ℕ
cut_line d = answer_line (says_with lengths_of (codes_of d))

-- how many codes each block of a packet has; or 11, or why the first that is refused has none
unfoldable pub counted_line : DTVCCPacket → List ℕ
counted_line p = answer_line (says_with lengths_of (checked (valid_dtvcc p) (codes_of_blocks (packet_of p).blocks)))

-- The pieces as they are laid: several numbers,
unfoldable pub given_line : List ℕ → List ℕ
given_line ns = word "ok" ++ values_text ns ++ word "\n"

-- how many codes a block has, 0 where it is refused,
abbrev pub count_text : Block → List ℕ
count_text b = value_text (length (cut_of b.payload))

-- and the same of each of several blocks
unfoldable pub counts_line : List Block → List ℕ
counts_line bs = word "ok" ++ each_text count_text bs ++ word "\n"
