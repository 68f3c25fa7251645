-- The lines of a record: those of a frame and of what is drawn after it [C2], and those of a distribution packet and its frame [C5]. Assumes nothing.
use Rattle.std.specs.Prelude.{Result, cond, List, [], ◌∷◌, ◌++◌, ℕ, zero, suc, eqb, replicate}
use Rattle.caption.specs.Pairs.{cea608_of}
use Rattle.caption.specs.declared.Refusal.{Refusal}
use Rattle.caption.specs.Answers.{said}
use Rattle.model.specs.Said.{Said, Outcome, bad_value, says_with, mapped, after}
use Rattle.model.specs.Block.{Block}
use Rattle.model.specs.Packet.{Packet}
use Rattle.model.specs.Frame.{Cea608}
use Rattle.model.specs.Demux.{Demux, Taken, take_frame}
use Rattle.model.specs.Distribution.{frame_of, Received, receive}
use Rattle.program_text.specs.Text.{word, decimal}
use Rattle.program_lines.specs.Lines.{answer_text, pair_text, packet_text, frame_line, block_line}
use Rattle.parser.specs.Valid.{valid}
use Rattle.parser.specs.Means.{means}
use Rattle.parser.specs.After.{said_of, pushed, drawn}
use Rattle.parser.specs.declared.Item.{Item}
use Rattle.parser.specs.declared.Item.TheVariants as item
use Rattle.parser.specs.declared.CCDataParser.{CCDataParser}
use Rattle.distribution.specs.States.{last_of, reader_at}
use Rattle.distribution.specs.declared.Received as told
use Rattle.distribution.specs.declared.DistributionReader.{DistributionReader}
use Rattle.ccread_report.specs.declared.Told.{Told}
use Rattle.ccread_report.specs.declared.Capture.{Capture}
use Rattle.ccread_report.specs.declared.Recorded.{Recorded}

-- a pair
unfoldable pub pair_line : Cea608 → List ℕ
pair_line x = pair_text x ++ word "\n"

-- a line for each block
unfoldable pub block_lines : List Block → List ℕ
block_lines [] = []
block_lines (b ∷ bs) = block_line b.number b.payload ++ block_lines bs

-- a packet, and the lines of its blocks
unfoldable pub packet_lines : Packet → List ℕ
packet_lines p = (packet_text p.sequence ++ word "\n") ++ block_lines p.blocks

-- pairs, and packets, one after another
unfoldable pub pair_lines : List Cea608 → List ℕ
pair_lines [] = []
pair_lines (x ∷ xs) = pair_line x ++ pair_lines xs

unfoldable pub packets_lines : List Packet → List ℕ
packets_lines [] = []
packets_lines (p ∷ ps) = packet_lines p ++ packets_lines ps

-- everything that waits: the pairs in their order, and then the packets, the oldest first
unfoldable pub waiting_lines : Demux → List ℕ
waiting_lines d = pair_lines d.pairs ++ packets_lines d.waiting

-- a frame that is refused is one line [C3]; after one that is accepted everything is drawn
unfoldable pub taken_lines : ℕ → Taken → List ℕ
taken_lines r t = frame_line r t.answer ++ cond (eqb t.answer.number 0) (waiting_lines t.next) []

-- the lines of a frame; 11 comes first
unfoldable pub frame_lines : ℕ → List ℕ → CCDataParser → List ℕ
frame_lines r f p = cond (valid p) (taken_lines r (take_frame f (means p))) (frame_line r bad_value)

-- the demultiplexer after n draws
unfoldable pub drawn_out : ℕ → CCDataParser → CCDataParser
drawn_out zero p = p
drawn_out (suc n) p = drawn_out n (drawn p)

-- and after a frame of which everything is drawn: no frame leaves more than 31 pairs and 32 packets
unfoldable pub settled : CCDataParser → List ℕ → CCDataParser
settled p f = cond (eqb (said_of p (take_frame f (means p))).number 0) (drawn_out 63 (pushed p f)) (pushed p f)

-- the lines of an item beside which a packet stands
unfoldable pub item_lines : Item → Packet → List ℕ
item_lines (item.Pair x) p = pair_line (cea608_of x)
item_lines item.Packet p = packet_lines p
item_lines item.Nothing p = []

-- what is lent for the frame of a packet: 95 bytes, enough for every frame
abbrev pub lent : List ℕ
lent = replicate 95 0

-- a packet that is read
unfoldable pub cdp_read : List ℕ → DistributionReader → Outcome Received
cdp_read s d = receive (last_of d.last) s lent

-- the code of its rate, and its counter
abbrev pub cdp_values : Received → List ℕ
cdp_values x = x.packet.code ∷ x.packet.counter ∷ []

-- the line of a packet, by the number of its record: `cdp 0 ok 4 7`, or `cdp 0 refused 18` [C5]
unfoldable pub cdp_line : ℕ → Said → List ℕ
cdp_line r s = word "cdp " ++ decimal r ++ word " " ++ answer_text s ++ word "\n"

-- what is told of a packet: one that is refused is one line, behind that of one that is accepted are those of its frame
unfoldable pub cdp_told : ℕ → CCDataParser → Outcome Received → List ℕ
cdp_told r p o = cdp_line r (says_with cdp_values o) ++ after [] (mapped (λ x. frame_lines r (frame_of x.packet) p) o)

-- the lines of a packet [C5]
unfoldable pub cdp_lines : ℕ → List ℕ → Capture → List ℕ
cdp_lines r s c = cdp_told r c.parser (cdp_read s c.reader)

-- what the program has after it: a refused packet changes nothing
unfoldable pub cdp_taken : List ℕ → Capture → Capture
cdp_taken s c =
    record {
      parser = after c.parser (mapped (λ x. settled c.parser (frame_of x.packet)) (cdp_read s c.reader));
      reader = after c.reader (mapped (λ x. reader_at x.packet.counter) (cdp_read s c.reader));
    }

-- the lines of a record: kind 0xCD is a packet, any other a frame [C1]
unfoldable pub record_lines : ℕ → ℕ → List ℕ → Capture → List ℕ
record_lines r kind s c = cond (eqb kind 0xCD) (cdp_lines r s c) (frame_lines r s c.parser)

-- and what the program has after it
unfoldable pub recorded : ℕ → List ℕ → Capture → Capture
recorded kind s c = cond (eqb kind 0xCD) (cdp_taken s c) (record { parser = settled c.parser s; reader = c.reader })

-- what the line of a packet says of what its reader tells
abbrev pub said_cdp : Result told.Received Refusal → Said
said_cdp r = said (λ x. x.code ∷ x.counter ∷ []) r

-- a demultiplexer behind lines, and a reader beside it
abbrev pub besides : Told → DistributionReader → Recorded
besides t d = record { laid = t.laid; capture = record { parser = t.parser; reader = d } }
