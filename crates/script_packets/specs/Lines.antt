-- The lines of a script that tell of a packet. Assumes nothing.
use Rattle.std.specs.Prelude.{cond, List, [], ◌∷◌, ◌++◌, ℕ, length}
use Rattle.model.specs.Said.{Said, Outcome, says_with}
use Rattle.model.specs.Block.{Block}
use Rattle.model.specs.Packet.{packet_length, packet_room}
use Rattle.packet.specs.declared.DTVCCPacket.{DTVCCPacket}
use Rattle.packet.specs.Packet.{packet_of, valid_dtvcc, asked}
use Rattle.program_text.specs.Text.{word}
use Rattle.program_lines.specs.Lines.{value_text, block_text}

-- its measures: sequence number, length and free space, and how many blocks it has,
abbrev pub measured_packet : DTVCCPacket → Outcome (List ℕ)
measured_packet p = asked p (λ q. q.sequence ∷ packet_length q ∷ packet_room q ∷ length q.blocks ∷ [])

-- as they are told
abbrev pub packet_measures : DTVCCPacket → Said
packet_measures p = says_with (λ ks. ks) (measured_packet p)

-- a text for each of several blocks, one behind the other
unfoldable pub each_text : (Block → List ℕ) → List Block → List ℕ
each_text text [] = []
each_text text (b ∷ bs) = text b ++ each_text text bs

-- a block, as `number:payload`
abbrev pub shown_text : Block → List ℕ
shown_text b = block_text b.number b.payload

-- blocks so, one behind the other
abbrev pub blocks_text : List Block → List ℕ
blocks_text bs = each_text shown_text bs

-- the blocks of a packet within the limits
unfoldable pub blocks_in : DTVCCPacket → List Block
blocks_in p = cond (valid_dtvcc p) (packet_of p).blocks []

-- a packet: its sequence number and its blocks
unfoldable pub held_text : DTVCCPacket → List ℕ
held_text p = value_text p.seq_no ++ blocks_text (blocks_in p)

-- the same of a packet that was read
unfoldable pub held_line : DTVCCPacket → List ℕ
held_line p = word "ok" ++ held_text p ++ word "\n"
