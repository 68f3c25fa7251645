-- The line of a script that tells of an item. Assumes nothing.
use Rattle.std.specs.Prelude.{cond, List, [], ◌∷◌, ◌++◌, ℕ, eqb}
use Rattle.model.specs.Said.{Said}
use Rattle.packet.specs.declared.DTVCCPacket.{DTVCCPacket}
use Rattle.program_text.specs.Text.{word, decimal, hex}
use Rattle.script_answers.specs.Script.{answer_line}
use Rattle.script_packets.specs.Lines.{held_text}

-- an item that was drawn: `field1` or `field2` and the pair, `packet` and the packet, or `none`; it is told by 1 or 2 and two bytes for a pair,
-- by 3 for a packet, and by nothing where none is left
unfoldable pub item_text : List ℕ → DTVCCPacket → List ℕ
item_text [] p = word "none"
item_text (k ∷ bs) p = cond (eqb k 3) (word "packet" ++ held_text p) (word "field" ++ decimal k ++ word " " ++ hex bs)

-- its line, or that of a refusal
unfoldable pub item_line : Said → DTVCCPacket → List ℕ
item_line s p = cond (eqb s.number 0) (word "ok " ++ item_text s.values p ++ word "\n") (answer_line s)
