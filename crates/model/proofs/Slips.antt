-- Two tables beside the examples of the rule book: what rules out the slips that it names and that its own starred examples leave open, and each refusal once,
-- by its number and the values that it carries. Assumes nothing.
use mathlib.Core.Path.{◌≡◌, refl}
use mathlib.Core.Bool.{true, false}
use mathlib.Core.List.{List, [], ◌∷◌, map}
use mathlib.Core.Option.{none, some}
use Prim.Native.Nat.{ℕ}
use lib.ListN.{replicate}
use Rattle.model.specs.Said.{Said, gave, checked, put_into}
use Rattle.model.specs.Said as said
use Rattle.model.specs.Block.{Block, header_length, number_in, is_header_short, needed, is_short, block_in, short_at, read_block_at, read_block, new_block, push_to_block, written_header, written_block, block_length}
use Rattle.model.specs.Packet.{Packet, packet_size, plain_move, blocks_from, read_by, read_packet, reads, blocks_length, packet_length, push_block, latest_of, push_new, push_at, push_run_at, push_run_by, push_run, push_run_single}
use Rattle.model.specs.Codes.{first_ranges, ext1_ranges, told_in, told_length, is_untold, code_in, codes_from, codes_of, push_codes_by, push_codes}
use Rattle.model.specs.Frame.{pair, field1, seen, seen_all, flat, triples_in, flagged, frame_bytes}
use Rattle.model.specs.Demux.{turn608_on, fresh_demux, pairs_in, late_after, late_from, carries708, closed, packets_of, kept, wants, gather, ended, gathered, take_gathered, take_triples, unread, take_frame}
use Rattle.model.specs.Rate.{rounded, budgets}
use Rattle.model.specs.Mux.{fresh_mux, with_packets, queued, is_null, push_pair}
use Rattle.model.specs.Duration.{ceil, pairs_duration, lengths_of, bytes_left, bytes_duration, packet_duration}
use Rattle.model.specs.Distribution.{is_coded, sum_of, has_mark, announces_more, sections_in_order, sums_up, counters_agree, opened, ahead, newer, takes, received_into, receive, is_whole, packed}
use Rattle.model.specs.Run.{Read, read_frames}
use Rattle.model.proofs.Examples.{says, one, one_pair_sent}

-- what a fresh demultiplexer with 608 on gives for frames
abbrev given : List (List ℕ) → Read
given fs = read_frames fs (turn608_on fresh_demux)

-- a packet's first half, a frame with a pair alone, and the other half
abbrev halves : List (List ℕ)
halves = (0xC1 ∷ 0xFF ∷ 0xFF ∷ 0x02 ∷ 0x21 ∷ []) ∷ (0xC1 ∷ 0xFF ∷ 0xFC ∷ 0x94 ∷ 0x2C ∷ []) ∷ (0xC1 ∷ 0xFF ∷ 0xFE ∷ 0x41 ∷ 0x00 ∷ []) ∷ []

-- a frame of 608 data keeps the bytes that are pending: the packet comes whole, and so does the pair
pub pending_kept : (given halves).packets ≡ one 0 1 (0x41 ∷ []) ∷ []
unfolding
    header_length number_in is_header_short needed is_short block_in read_block_at packet_size plain_move blocks_from read_by read_packet reads written_header written_block block_length
    seen seen_all triples_in flagged pairs_in late_after late_from carries708 closed packets_of kept wants gather ended gathered take_gathered take_triples unread take_frame read_frames
pending_kept = refl

-- a triple that is not valid ends the 608 part, so that a pair before it is listed and one behind it is not
pub void_ends_608 : (given ((0xC3 ∷ 0xFF ∷ 0xFC ∷ 0x15 ∷ 0x2C ∷ 0xFA ∷ 0x00 ∷ 0x00 ∷ 0xFC ∷ 0x94 ∷ 0x2C ∷ []) ∷ [])).pairs ≡ field1 (pair 0x15 0x2C) ∷ []
unfolding seen seen_all triples_in flagged pairs_in late_after late_from carries708 gather ended gathered take_gathered take_triples unread take_frame read_frames
void_ends_608 = refl

-- one pair; two packets of 3 bytes: the sum is of lengths as they are, and is rounded once
pub durations : pairs_duration 1 ∷ packet_duration (with_packets (one 0 1 (0x41 ∷ []) ∷ one 0 1 (0x41 ∷ []) ∷ []) fresh_mux) ∷ [] ≡ 16684 ∷ 5005 ∷ []
unfolding ceil pairs_duration lengths_of bytes_left bytes_duration written_header written_block block_length blocks_length packet_length
durations = refl

-- a block of a number and a payload
abbrev block : ℕ → List ℕ → Block
block number payload = record { number = number; payload = payload }

-- a packet without blocks
abbrev bare : Packet
bare = record { sequence = 0; blocks = [] }

-- a run of so many bytes
abbrev run : ℕ → List ℕ
run n = replicate n 0x41

-- a packet whose block of service 1 is full, and another run for that service: a new block is made [P12]; the single-service form refuses
pub full_block : said.is_given (push_run 1 (run 1) (one 0 1 (run 31))) ∷ said.is_given (push_run_single 1 (run 1) (one 0 1 (run 31))) ∷ [] ≡ true ∷ false ∷ []
unfolding latest_of push_new push_at push_run_at push_run_by written_header written_block block_length blocks_length packet_length
full_block = refl

-- a run that is no whole codes, pushed under the profile: refused with 6 before, and with its own number before 4 and 3 [K7]
pub profile_order : map (λ (n : ℕ). said.says (push_codes n (0x10 ∷ 0x90 ∷ run 31) bare)) (64 ∷ 0 ∷ 1 ∷ []) ≡ says 6 [] ∷ says 21 [] ∷ says 21 [] ∷ []
unfolding first_ranges ext1_ranges told_in told_length is_untold code_in codes_from push_codes_by
profile_order = refl

-- what a reader answers that has accepted counter 0 and is lent nothing
abbrev after_nought : List ℕ → Said
after_nought d = said.says (receive (some 0) d [])

-- a packet that is wrong in several ways is refused by the first of them [L4] [L5]: all but the first of these are not newer either, the third has a wrong
-- sum and two counters, the fourth two counters; one that is newer is refused last, for want of room
pub packet_order : after_nought (0x95 ∷ 0x69 ∷ []) ∷ after_nought (0x96 ∷ 0x69 ∷ 0x03 ∷ [])
    ∷ after_nought (0x96 ∷ 0x69 ∷ 0x10 ∷ 0x4F ∷ 0x43 ∷ 0x00 ∷ 0x00 ∷ 0x72 ∷ 0xE1 ∷ 0xFC ∷ 0x94 ∷ 0x2C ∷ 0x74 ∷ 0x00 ∷ 0x01 ∷ 0xDC ∷ []) ∷ after_nought (0x96 ∷ 0x69 ∷ 0x10 ∷ 0x4F ∷ 0x43 ∷ 0x00 ∷ 0x00 ∷ 0x72 ∷ 0xE1 ∷ 0xFC ∷ 0x94 ∷ 0x2C ∷ 0x74 ∷ 0x00 ∷ 0x01 ∷ 0xDB ∷ [])
    ∷ after_nought one_pair_sent ∷ said.says (receive (some 65535) one_pair_sent []) ∷ []
    ≡ says 16 [] ∷ says 17 [] ∷ says 18 [] ∷ says 19 [] ∷ says 20 [] ∷ says 9 (5 ∷ []) ∷ []
unfolding is_coded sum_of has_mark announces_more sections_in_order sums_up counters_agree opened ahead newer takes flat triples_in frame_bytes put_into received_into receive
packet_order = refl

-- Each refusal [A1], by one call that gives it.
unfoldable pub refusals : List Said
refusals =
    (take_frame (0xC2 ∷ 0xFF ∷ 0xFA ∷ 0x00 ∷ 0x00 ∷ 0xFC ∷ 0x94 ∷ 0x2C ∷ []) fresh_demux).answer
    ∷ said.says (push_to_block (run 33) (block 1 []))
    ∷ said.says (push_to_block (run 1) (block 0 []))
    ∷ said.says (push_block (block 1 []) bare)
    ∷ said.says (new_block 64)
    ∷ said.says (push_to_block [] (block 1 []))
    ∷ said.says (budgets 121 1)
    ∷ said.says (put_into (0x00 ∷ []) (run 3))
    ∷ said.says (push_pair (pair 0x94 0x2C) (replicate 64 (pair 0x94 0x2C)))
    ∷ said.says (checked false (gave bare))
    ∷ (take_frame (0xC2 ∷ 0xFF ∷ 0xFF ∷ 0x02 ∷ 0x21 ∷ []) fresh_demux).answer
    ∷ said.says (read_packet [])
    ∷ said.says (read_block [])
    ∷ said.says (read_block (0x22 ∷ 0x41 ∷ []))
    ∷ said.says (receive none [] [])
    ∷ said.says (packed 0 9 (0xC0 ∷ 0xFF ∷ []))
    ∷ said.says (opened (0x96 ∷ 0x69 ∷ 0x10 ∷ 0x4F ∷ 0x43 ∷ 0x00 ∷ 0x00 ∷ 0x72 ∷ 0xE1 ∷ 0xFC ∷ 0x94 ∷ 0x2C ∷ 0x74 ∷ 0x00 ∷ 0x00 ∷ 0xDD ∷ []))
    ∷ said.says (opened (0x96 ∷ 0x69 ∷ 0x10 ∷ 0x4F ∷ 0x43 ∷ 0x00 ∷ 0x00 ∷ 0x72 ∷ 0xE1 ∷ 0xFC ∷ 0x94 ∷ 0x2C ∷ 0x74 ∷ 0x00 ∷ 0x01 ∷ 0xDB ∷ []))
    ∷ said.says (receive (some 0) one_pair_sent [])
    ∷ said.says (codes_of (0x10 ∷ 0x90 ∷ []))
    ∷ said.says (codes_of (0x98 ∷ 0x41 ∷ []))
    ∷ []

-- their numbers, and the values that they carry
pub refusals_told : refusals
    ≡ says 2 (3 ∷ []) ∷ says 3 (2 ∷ []) ∷ says 4 [] ∷ says 5 [] ∷ says 6 [] ∷ says 7 [] ∷ says 8 [] ∷ says 9 (3 ∷ []) ∷ says 10 [] ∷ says 11 []
    ∷ says 12 (8 ∷ 5 ∷ []) ∷ says 13 (1 ∷ 0 ∷ 0 ∷ []) ∷ says 14 (1 ∷ 0 ∷ 0 ∷ []) ∷ says 15 (3 ∷ 2 ∷ 0 ∷ []) ∷ says 16 [] ∷ says 17 [] ∷ says 18 [] ∷ says 19 [] ∷ says 20 []
    ∷ says 21 [] ∷ says 22 [] ∷ []
unfolding
    refusals first_ranges ext1_ranges told_in told_length is_untold code_in codes_from header_length is_header_short needed is_short short_at read_block_at read_by read_packet packet_size seen seen_all triples_in flagged pairs_in late_after late_from take_triples unread take_frame
    push_to_block block_length blocks_length packet_length push_block new_block rounded budgets put_into is_null queued push_pair
    is_coded sum_of has_mark announces_more sections_in_order sums_up counters_agree opened ahead newer takes receive is_whole packed
refusals_told = refl
