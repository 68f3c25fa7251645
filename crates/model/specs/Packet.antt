-- A DTVCC packet: rules P and T of docs/RULES.md. Assumes nothing.
use Rattle.std.specs.Prelude.{Bool, true, false, cond, not, ◌&&◌, List, [], ◌∷◌, ◌++◌, ℕ, zero, suc, ◌+◌, ◌-◌, ◌*◌, ◌/◌, ◌%◌, eqb, leb, ltb, length, get_or, set, drop}
use Rattle.std.proofs.Math.Option.{Option, none, some}
use Rattle.model.specs.Lists.{every}
use Rattle.model.specs.Said.{Outcome, gave, refused, is_given, and_then, mapped, would_overflow, read_only, empty_service, bad_number, bad_run, packet_length_wrong}
use Rattle.model.specs.Block.{Block, most_payload, header_length, block_size, number_in, is_header_short, block_in, read_block_at, written_block, block_length, block_room, with_run}

-- a packet: its sequence number and its blocks [P1]
pub record Packet : Type 0 where
  pub sequence : ℕ
  pub blocks : List Block

-- what stands where there is no packet
abbrev pub no_packet : Packet
no_packet = record { sequence = 0; blocks = [] }

-- A packet made of a sequence number alone; above 3 is 6 [P14].
unfoldable pub new_packet : ℕ → Outcome Packet
new_packet q = cond (ltb 3 q) (refused bad_number) (gave (record { sequence = q; blocks = [] }))

-- the sequence number in the upper two bits of a header [P2]
abbrev pub sequence_in : ℕ → ℕ
sequence_in h = h / 64 % 4

-- the bytes in all that the lower six bits say [P2]
unfoldable pub packet_size : ℕ → ℕ
packet_size h = cond (eqb (h % 64) 0) 128 (2 * (h % 64))

-- how far the plain reader goes on from a block: one byte without payload, else what the block is written in [P5]
unfoldable pub plain_move : List ℕ → ℕ
plain_move d = cond (eqb (length (block_in d).payload) 0) 1 (block_length (block_in d))

-- how far the tidy reader goes on: the header and all that it announces [T3]
unfoldable pub tidy_move : List ℕ → ℕ
tidy_move d = header_length (get_or d 0 0) + block_size (get_or d 0 0)

-- whether bytes begin with a header of number 0, in one byte or in two: its own bytes have to be there, and its size is not asked for [T2]
unfoldable pub is_null_header : List ℕ → Bool
is_null_header d = not (is_header_short d) && eqb (number_in d) 0

-- How a reader goes over the bytes of a packet: where it stops, since all bytes that are left are fill; how far it goes on from the block at the head
-- of the bytes; and which length is wrong where the header says `size`.
pub record Way : Type 0 where
  pub stops : List ℕ → Bool
  pub move : List ℕ → ℕ
  pub wrong : ℕ → ℕ → Bool

-- the plain reader's: it stops nowhere [P4], and only more bytes than the header says are wrong [P3]
abbrev pub plainly : Way
plainly = record { stops = λ _. false; move = plain_move; wrong = ltb }

-- the tidy reader's: from a null header on all is fill [T2], and the bytes are exactly as many as the header says [T1]
abbrev pub tidily : Way
tidily = record { stops = is_null_header; move = tidy_move; wrong = λ size actual. not (eqb size actual) }

-- a block without payload is no block of the packet [P6]
abbrev pub kept : Block → List Block → List Block
kept b bs = cond (eqb (length b.payload) 0) bs (b ∷ bs)

-- Blocks are read until no byte is left or the reader stops, and the refusal of one is the refusal of all [P4] [T2]. The bytes stand at `offset` in the
-- packet, and the first `passed` of them are before the place that the block before went on to.
unfoldable pub blocks_from : Way → ℕ → ℕ → List ℕ → Outcome (List Block)
blocks_from way offset passed [] = gave []
blocks_from way offset (suc passed) (x ∷ d) = blocks_from way (suc offset) passed d
blocks_from way offset zero (x ∷ d) =
    cond (way.stops (x ∷ d)) (gave [])
    (and_then (read_block_at offset (x ∷ d)) (λ b. mapped (kept b) (blocks_from way (suc offset) (way.move (x ∷ d) - 1) d)))

-- A packet reader, by its way; no bytes are 13 (1, 0, 0) [P3]. The first block's offset is 1.
unfoldable pub read_by : Way → List ℕ → Outcome Packet
read_by way d =
    let size = packet_size (get_or d 0 0) in
    cond (eqb (length d) 0) (refused (packet_length_wrong 1 0 0))
    (cond (way.wrong size (length d)) (refused (packet_length_wrong size (length d) 0))
    (mapped (λ bs. record { sequence = sequence_in (get_or d 0 0); blocks = bs }) (blocks_from way 1 0 (drop 1 d))))

-- The plain reader: more bytes than the header says are refused, fewer are read [P3].
unfoldable pub read_packet : List ℕ → Outcome Packet
read_packet d = read_by plainly d

-- The tidy reader: exactly as many bytes as the header says [T1], read up to a null header [T2].
unfoldable pub read_tidy : List ℕ → Outcome Packet
read_tidy d = read_by tidily d

-- whether bytes become a packet [F10]
unfoldable pub reads : List ℕ → Bool
reads d = is_given (read_packet d)

-- the sum of the lengths of blocks
unfoldable pub blocks_length : List Block → ℕ
blocks_length [] = 0
blocks_length (b ∷ bs) = block_length b + blocks_length bs

-- the length of a packet: 0 without blocks, else the header's byte and its blocks' lengths [P7]
unfoldable pub packet_length : Packet → ℕ
packet_length p = cond (eqb (length p.blocks) 0) 0 (1 + blocks_length p.blocks)

-- blocks as they are written, one behind the other
unfoldable pub written_blocks : List Block → List ℕ
written_blocks [] = []
written_blocks (b ∷ bs) = written_block b ++ written_blocks bs

-- the header as it is written [P8]
unfoldable pub packet_header : Packet → ℕ
packet_header p = p.sequence * 64 + (packet_length p + 1) / 2 % 64

-- one 0x00 behind an odd length [P8]
unfoldable pub fill : ℕ → List ℕ
fill n = cond (eqb (n % 2) 1) (0x00 ∷ []) []

-- A packet as it is written: header, blocks, fill; one byte without blocks [P8].
unfoldable pub written_packet : Packet → List ℕ
written_packet p = packet_header p ∷ (written_blocks p.blocks ++ fill (packet_length p))

-- the most bytes of a packet [P1]; no header says more [P2]
abbrev pub most_packet : ℕ
most_packet = 128

-- the room of a packet [P9]
abbrev pub packet_room : Packet → ℕ
packet_room p = most_packet - packet_length p

-- a block that may stand in a packet: a number from 1, and a payload [P1]
unfoldable pub carriable : Block → Bool
carriable b = (leb 1 b.number && leb b.number 63) && (leb 1 (length b.payload) && leb (length b.payload) most_payload)

-- A packet that breaks no limit: sequence number, blocks and length [P1].
unfoldable pub valid_packet : Packet → Bool
valid_packet p = leb p.sequence 3 && every carriable p.blocks && leb (packet_length p) most_packet

-- the packet with other blocks
abbrev pub with_blocks : List Block → Packet → Packet
with_blocks bs p = record { sequence = p.sequence; blocks = bs }

-- A block pushed: 3 where it is longer than the room, then 5 without payload [P10].
unfoldable pub push_block : Block → Packet → Outcome Packet
push_block b p =
    cond (ltb (packet_room p) (block_length b)) (refused (would_overflow (block_length b - packet_room p)))
    (cond (eqb (length b.payload) 0) (refused empty_service)
    (gave (with_blocks (p.blocks ++ (b ∷ [])) p)))

-- A run as a new block: 4, then 3 for more than 31 bytes, then 3 for want of room [P12].
unfoldable pub push_new : ℕ → List ℕ → Packet → Outcome Packet
push_new n run p =
    let b : Block = record { number = n; payload = run } in
    cond (eqb n 0) (refused read_only)
    (cond (ltb most_payload (length run)) (refused (would_overflow (length run - most_payload)))
    (cond (ltb (packet_room p) (block_length b)) (refused (would_overflow (block_length b - packet_room p)))
    (gave (with_blocks (p.blocks ++ (b ∷ [])) p))))

-- what stands for the block at a place that has none
abbrev pub no_block : Block
no_block = record { number = 0; payload = [] }

-- the block at place i, from 0
abbrev pub block_at : Packet → ℕ → Block
block_at p i = get_or p.blocks i no_block

-- among the first k blocks, the last place with a block of number n
unfoldable pub latest_of : ℕ → ℕ → List Block → Option ℕ
latest_of n zero bs = none
latest_of n (suc k) bs = cond (eqb (get_or bs k no_block).number n) (some k) (latest_of n k bs)

-- where the latest block of a number stands [P11]
abbrev pub latest : ℕ → Packet → Option ℕ
latest n p = latest_of n (length p.blocks) p.blocks

-- the block at place i takes the run
abbrev pub extended : ℕ → List ℕ → Packet → Packet
extended i run p = with_blocks (set p.blocks i (with_run run (block_at p i))) p

-- A run pushed to the block at place i: the packet's room is tested, then the block's [P13]. A block that has room for it makes only the first of
-- them refuse [P11].
unfoldable pub push_at : ℕ → List ℕ → Packet → Outcome Packet
push_at i run p =
    cond (ltb (packet_room p) (length run)) (refused (would_overflow (length run - packet_room p)))
    (cond (ltb (block_room (block_at p i)) (length run)) (refused (would_overflow (length run - block_room (block_at p i))))
    (gave (extended i run p)))

-- what is pushed where, by the place of the latest block of the number and by whether that block must have room
unfoldable pub push_run_at : Bool → ℕ → List ℕ → Packet → Option ℕ → Outcome Packet
push_run_at needs_room n run p none = push_new n run p
push_run_at needs_room n run p (some i) = cond (needs_room && ltb (block_room (block_at p i)) (length run)) (push_new n run p) (push_at i run p)

-- 6 for a number above 63, then 7 for no bytes [P11]
unfoldable pub push_run_by : Bool → ℕ → List ℕ → Packet → Outcome Packet
push_run_by needs_room n run p =
    cond (ltb 63 n) (refused bad_number)
    (cond (eqb (length run) 0) (refused bad_run)
    (push_run_at needs_room n run p (latest n p)))

-- A run pushed: to the latest block of its number if that has room, else as a new block [P11] [P12].
abbrev pub push_run : ℕ → List ℕ → Packet → Outcome Packet
push_run n run p = push_run_by true n run p

-- The single-service form: to the latest block, whether or not it has room [P13].
abbrev pub push_run_single : ℕ → List ℕ → Packet → Outcome Packet
push_run_single n run p = push_run_by false n run p
