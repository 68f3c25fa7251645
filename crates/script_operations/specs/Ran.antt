-- What the operations of a script work on, and what a record of a script does: the row of its letter. Assumes nothing.
use Rattle.std.specs.Prelude.{List, [], ◌∷◌, ℕ}
use Rattle.model.specs.Said.{mapped, after}
use Rattle.model.specs.Block.{new_block}
use Rattle.model.specs.Packet.{new_packet}
use Rattle.service.specs.declared.Service.{Service}
use Rattle.service.specs.Service as block
use Rattle.packet.specs.declared.DTVCCPacket.{DTVCCPacket}
use Rattle.packet.specs.Packet as packet
use Rattle.parser.specs.declared.CCDataParser.{CCDataParser}
use Rattle.parser.specs.Calls as parser
use Rattle.writer.specs.declared.CCDataWriter.{CCDataWriter}
use Rattle.writer.specs.Writer as writer
use Rattle.program_text.specs.Text.{word}
use Rattle.script_answers.specs.Steps.{Effect, stays}
use Rattle.script_answers.specs.Rows.{Sought, sought}
use Rattle.script_blocks.specs.Blocks.{block_rows}
use Rattle.script_codes.specs.Operations.{codes_rows}
use Rattle.script_parsers.specs.Parsers.{parser_rows}
use Rattle.script_writers.specs.Writers.{writer_rows}
use Rattle.script_distribution.specs.declared.Link.{Link}
use Rattle.script_distribution.specs.Links.{fresh_link, link_rows}
use Rattle.script_operations.specs.declared.Machine.{Machine}

-- at first block 1, packet 0, both empty, a fresh demultiplexer with 608 off, a fresh multiplexer, and a fresh reader and writer of distribution packets
unfoldable pub fresh_machine : Machine
fresh_machine =
    record {
      s = after block.blank (mapped (block.over block.blank) (new_block 1));
      p = after packet.blank (mapped (packet.over packet.blank) (new_packet 0));
      r = parser.fresh;
      w = writer.fresh;
      link = fresh_link;
    }

-- one part replaced
module _ (m : Machine) where
  abbrev pub with_block : Service → Machine
  with_block s = record { s = s; p = m.p; r = m.r; w = m.w; link = m.link }

  abbrev pub with_packet : DTVCCPacket → Machine
  with_packet p = record { s = m.s; p = p; r = m.r; w = m.w; link = m.link }

  abbrev pub with_parser : CCDataParser → Machine
  with_parser r = record { s = m.s; p = m.p; r = r; w = m.w; link = m.link }

  abbrev pub with_writer : CCDataWriter → Machine
  with_writer w = record { s = m.s; p = m.p; r = m.r; w = w; link = m.link }

  abbrev pub with_link : Link → Machine
  with_link link = record { s = m.s; p = m.p; r = m.r; w = m.w; link = link }

-- what is found among the rows of one part is done there, and the other parts stay; else what is found behind them
abbrev pub within : {S : Type 0} → (S → Machine) → Sought S → Effect Machine → Effect Machine
within whole (Sought.one e) behind = record { line = e.line; next = whole e.next }
within whole Sought.none behind = behind

-- no operation of this letter takes so many argument bytes
abbrev pub bad : Machine → Effect Machine
bad m = stays m (word "bad\n")

-- a letter and its argument bytes: the rows of the demultiplexer, behind them those of the multiplexer, and then those of distribution packets,
unfoldable pub on_machines : Machine → ℕ → List ℕ → Effect Machine
on_machines m op a =
    within (with_parser m) (sought (parser_rows m.r) op a)
    (within (with_writer m) (sought (writer_rows m.p m.w) op a) (within (with_link m) (sought (link_rows m.link) op a) (bad m)))

-- and before them those of the block, of codes and of the packet
unfoldable pub operated : Machine → ℕ → List ℕ → Effect Machine
operated m op a =
    within (with_block m) (sought (block_rows m.s) op a)
    (within (with_packet m) (sought (codes_rows m.s m.p) op a) (on_machines m op a))

-- the first byte of a record is the letter, and the argument bytes follow
unfoldable pub ran : Machine → List ℕ → Effect Machine
ran m [] = bad m
ran m (op ∷ a) = operated m op a
