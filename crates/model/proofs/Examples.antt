-- The examples that docs/RULES.md marks with a star, as one table with one statement: what the definitions compute is what the rule book says.
-- Assumes nothing.
use mathlib.Core.Path.{◌≡◌, refl}
use mathlib.Core.Bool.{true, false}
use mathlib.Core.List.{List, [], ◌∷◌, map}
use mathlib.Core.Option.{Option, none, some}
use Prim.Native.Nat.{ℕ}
use lib.ListN.{length, replicate}
use Rattle.model.specs.Said.{Said, Outcome, gave, refused, and_then, mapped, put_into}
use Rattle.model.specs.Block.{Block, header_length, number_in, is_header_short, needed, is_short, block_in, short_at, read_block_at, read_block, written_header, written_block, block_length}
use Rattle.model.specs.Packet.{Packet, sequence_in, packet_size, plain_move, tidy_move, is_null_header, blocks_from, read_by, read_packet, reads, read_tidy, blocks_length, packet_length, written_blocks, packet_header, fill, written_packet}
use Rattle.model.specs.Services.{among, once, bits_of, services_of, distinct_services}
use Rattle.model.specs.Codes.{first_ranges, ext1_ranges, told_in, told_length, is_untold, code_in, codes_from, codes_of, codes_of_each, codes_of_blocks}
use Rattle.model.specs.Frame.{pair, Cea608, field1, field2, seen, seen_all, flat, triples_in, flagged, most_frame, frame_bytes}
use Rattle.model.specs.Demux.{turn608_on, fresh_demux, pairs_in, late_after, late_from, carries708, closed, packets_of, kept, wants, gather, ended, gathered, take_gathered, take_triples, unread, take_frame}
use Rattle.model.specs.Rate.{rounded, budgets, going_on, carried_budget, left_over, carried_on, carried_share, share_by}
use Rattle.model.specs.Mux.{fresh_mux, paddings, carrying_mode, true_counting, queued, push_packet, is_null, push_pair, push_cea608, turns_due, turn1, turn2, turned, continued, started, packet_triples, triples_queued, turns_sending, turns_counted, count_due, send, padding, framed, write_frame, share_at, write_share}
use Rattle.model.specs.Distribution.{is_coded, sum_of, closing, sections, laid_out, distribution_bytes, has_mark, announces_more, sections_in_order, sums_up, counters_agree, opened, ahead, newer, takes, frame_of, received_into, receive, counter_after, is_whole, packed, sent_into, distribute}
use Rattle.model.specs.Run.{Call, pushes, pushes608, sets, call, run, read_frames}

-- what a row asks
pub data Input : Type 0 where
  header : ℕ → Input
  written : Packet → Input
  plain tidy plain_set tidy_set alone codes block_codes : List ℕ → Input
  frames : List (List ℕ) → Input
  frame read_back : ℕ → ℕ → List Call → Input
  sent : ℕ → ℕ → List ℕ → Input
  next : ℕ → Input
  received : Option ℕ → List ℕ → Input

-- what the rule book says of it
pub data Result : Type 0 where
  size : ℕ → ℕ → Result
  bytes : List ℕ → Result
  packet : Packet → Result
  set : ℕ → ℕ → Result
  block : Block → Result
  counts : List ℕ → Result
  refusal : Said → Result
  items : List Said → List Cea608 → List Packet → Result
  carried : ℕ → ℕ → List ℕ → Result

-- an answer by its number and its values, as the rule book writes it; 0 is accepted
abbrev pub says : ℕ → List ℕ → Said
says number values = record { number = number; values = values }

-- a packet of one block
abbrev pub one : ℕ → ℕ → List ℕ → Packet
one sequence number payload = record { sequence = sequence; blocks = record { number = number; payload = payload } ∷ [] }

-- the set of a packet's services, and how many they are
abbrev set_of : Packet → Result
set_of p = set (services_of p) (distinct_services p)

-- a refusal is told as such, whatever was asked
abbrev told : {A : Type 0} → (A → Result) → Outcome A → Result
told f (gave x) = f x
told f (refused why) = refusal why

-- a fresh multiplexer writes one frame after some calls
abbrev after_calls : ℕ → ℕ → List Call → Outcome (List ℕ)
after_calls numer denom calls =
    let s = (run calls fresh_mux).last in
    mapped (λ h. frame_bytes (write_share h s).frame) (share_at numer denom s)

-- what a demultiplexer with 608 on makes of frames
abbrev read : List (List ℕ) → Result
read fs = let r = read_frames fs (turn608_on fresh_demux) in items r.answers r.pairs r.packets

-- a frame of one pair, and its packet with counter 0 at 30000/1001 frames a second
abbrev pub one_pair : List ℕ
one_pair = 0xC1 ∷ 0xFF ∷ 0xFC ∷ 0x94 ∷ 0x2C ∷ []

abbrev pub one_pair_sent : List ℕ
one_pair_sent = 0x96 ∷ 0x69 ∷ 0x10 ∷ 0x4F ∷ 0x43 ∷ 0x00 ∷ 0x00 ∷ 0x72 ∷ 0xE1 ∷ 0xFC ∷ 0x94 ∷ 0x2C ∷ 0x74 ∷ 0x00 ∷ 0x00 ∷ 0xDC ∷ []

-- what the definitions compute
abbrev answer : Input → Result
answer (header h) = size (sequence_in h) (packet_size h)
answer (written p) = bytes (written_packet p)
answer (plain d) = told packet (read_packet d)
answer (tidy d) = told packet (read_tidy d)
answer (plain_set d) = told set_of (read_packet d)
answer (tidy_set d) = told set_of (read_tidy d)
answer (alone d) = told block (read_block d)
answer (codes d) = told (λ cs. counts (map length cs)) (codes_of d)
answer (block_codes d) = told (λ css. counts (map length css)) (and_then (read_packet d) (λ p. codes_of_blocks p.blocks))
answer (frames fs) = read fs
answer (frame numer denom calls) = told bytes (after_calls numer denom calls)
answer (sent counter code f) = told bytes (mapped (λ x. distribution_bytes x) (packed counter code f))
answer (next counter) = told (λ x. counts (x.next ∷ [])) (distribute counter 4 one_pair (replicate 106 0))
answer (received last s) = told (λ x. carried x.packet.code x.packet.counter (frame_of x.packet)) (receive last s (replicate most_frame 0))
answer (read_back numer denom calls) = told (λ f. read (f ∷ [])) (after_calls numer denom calls)

-- an example of the rule book
pub record Row : Type 0 where
  pub input : Input
  pub result : Result

-- an input and its result
abbrev row : Input → Result → Row
row i r = record { input = i; result = r }

-- the pair 94 2C of field 1 twice, and a packet: at 30 frames a second without padding the second turn sends nothing
abbrev silent_turn : List Call
silent_turn = pushes608 (field1 (pair 0x94 0x2C)) ∷ pushes608 (field1 (pair 0x94 0x2C)) ∷ pushes (one 2 1 (0x41 ∷ [])) ∷ []

-- service 2 twice and service 1, with a null header before the last
abbrev two_services : List ℕ
two_services = 0x44 ∷ 0x41 ∷ 0x41 ∷ 0x41 ∷ 0x42 ∷ 0x00 ∷ 0x21 ∷ 0x43 ∷ []

-- the starred examples, in the rule book's order
unfoldable pub table : List Row
table =
    row (header 0x40) (size 1 128)
    ∷ row (header 0xFF) (size 3 126)
    ∷ row (written (one 2 1 (0x41 ∷ []))) (bytes (0x82 ∷ 0x21 ∷ 0x41 ∷ 0x00 ∷ []))
    ∷ row (plain (0x02 ∷ 0xE1 ∷ 0x07 ∷ 0x41 ∷ [])) (packet (one 0 7 (0x41 ∷ [])))
    ∷ row (plain (0x02 ∷ 0xE1 ∷ 0x01 ∷ 0x41 ∷ [])) (refusal (says 15 (2 ∷ 1 ∷ 3 ∷ [])))
    ∷ row (plain (0x02 ∷ 0x01 ∷ 0x21 ∷ 0x41 ∷ [])) (packet (one 0 1 (0x41 ∷ [])))
    ∷ row (tidy (0x02 ∷ 0x01 ∷ 0x21 ∷ 0x41 ∷ [])) (packet (record { sequence = 0; blocks = [] }))
    ∷ row (plain (0x03 ∷ 0x21 ∷ 0x41 ∷ 0x1F ∷ 0x21 ∷ 0x42 ∷ [])) (refusal (says 15 (32 ∷ 3 ∷ 3 ∷ [])))
    ∷ row (tidy (0x03 ∷ 0x21 ∷ 0x41 ∷ 0x1F ∷ 0x21 ∷ 0x42 ∷ [])) (packet (one 0 1 (0x41 ∷ [])))
    ∷ row
    (plain (0x04 ∷ 0x21 ∷ 0x41 ∷ 0xE1 ∷ 0x00 ∷ 0x42 ∷ 0x21 ∷ 0x43 ∷ []))
    (packet (record { sequence = 0; blocks = record { number = 1; payload = 0x41 ∷ [] } ∷ record { number = 2; payload = 0x21 ∷ 0x43 ∷ [] } ∷ [] }))
    ∷ row (tidy (0x04 ∷ 0x21 ∷ 0x41 ∷ 0xE1 ∷ 0x00 ∷ 0x42 ∷ 0x21 ∷ 0x43 ∷ [])) (packet (one 0 1 (0x41 ∷ [])))
    ∷ row (tidy (0x02 ∷ 0x21 ∷ 0x41 ∷ 0xE1 ∷ [])) (refusal (says 14 (2 ∷ 1 ∷ 3 ∷ [])))
    ∷ row (plain (0x01 ∷ 0x21 ∷ 0x41 ∷ 0x00 ∷ [])) (refusal (says 13 (2 ∷ 4 ∷ 0 ∷ [])))
    ∷ row (plain (0x08 ∷ 0x21 ∷ 0x41 ∷ [])) (packet (one 0 1 (0x41 ∷ [])))
    ∷ row (tidy (0x08 ∷ 0x21 ∷ 0x41 ∷ [])) (refusal (says 13 (16 ∷ 3 ∷ 0 ∷ [])))
    ∷ row (plain (0x04 ∷ 0x21 ∷ 0x41 ∷ 0xE2 ∷ [])) (refusal (says 14 (2 ∷ 1 ∷ 3 ∷ [])))
    ∷ row (plain (0x04 ∷ 0x21 ∷ 0x41 ∷ 0xE2 ∷ 0x07 ∷ 0x42 ∷ [])) (refusal (says 15 (4 ∷ 3 ∷ 3 ∷ [])))
    ∷ row
    (plain two_services)
    (packet (record { sequence = 1; blocks = record { number = 2; payload = 0x41 ∷ [] } ∷ record { number = 2; payload = 0x42 ∷ [] } ∷ record { number = 1; payload = 0x43 ∷ [] } ∷ [] }))
    ∷ row (plain_set two_services) (set 6 2)
    ∷ row (tidy two_services) (packet (record { sequence = 1; blocks = record { number = 2; payload = 0x41 ∷ [] } ∷ record { number = 2; payload = 0x42 ∷ [] } ∷ [] }))
    ∷ row (tidy_set two_services) (set 4 1)
    ∷ row (codes (0x41 ∷ 0x42 ∷ 0x43 ∷ [])) (counts (1 ∷ 1 ∷ 1 ∷ []))
    ∷ row (codes (0x10 ∷ 0x80 ∷ 0x01 ∷ 0x02 ∷ 0x03 ∷ 0x04 ∷ [])) (counts (6 ∷ []))
    ∷ row (codes (0x91 ∷ 0x01 ∷ 0x02 ∷ 0x03 ∷ [])) (counts (4 ∷ []))
    ∷ row (codes []) (counts [])
    ∷ row (codes (0x10 ∷ [])) (refusal (says 22 []))
    ∷ row (codes (0x10 ∷ 0x90 ∷ [])) (refusal (says 21 []))
    ∷ row (codes (0x41 ∷ 0x10 ∷ 0x90 ∷ 0x98 ∷ [])) (refusal (says 21 []))
    ∷ row (codes (0x41 ∷ 0x98 ∷ 0x10 ∷ 0x90 ∷ [])) (refusal (says 22 []))
    ∷ row (block_codes (0x06 ∷ 0x26 ∷ 0x41 ∷ 0x97 ∷ 0x01 ∷ 0x02 ∷ 0x03 ∷ 0x04 ∷ 0x43 ∷ 0x10 ∷ 0x08 ∷ 0x05 ∷ [])) (counts (2 ∷ 1 ∷ []))
    ∷ row (block_codes (0x06 ∷ 0x26 ∷ 0x41 ∷ 0x97 ∷ 0x01 ∷ 0x02 ∷ 0x03 ∷ 0x04 ∷ 0x43 ∷ 0x10 ∷ 0x98 ∷ 0x05 ∷ [])) (refusal (says 21 []))
    ∷ row (plain []) (refusal (says 13 (1 ∷ 0 ∷ 0 ∷ [])))
    ∷ row (tidy []) (refusal (says 13 (1 ∷ 0 ∷ 0 ∷ [])))
    ∷ row (alone []) (refusal (says 14 (1 ∷ 0 ∷ 0 ∷ [])))
    ∷ row (alone (0x22 ∷ 0x41 ∷ [])) (refusal (says 15 (3 ∷ 2 ∷ 0 ∷ [])))
    ∷ row (frames ((0xC2 ∷ 0xFF ∷ 0xFF ∷ 0x02 ∷ 0x21 ∷ []) ∷ [])) (items (says 12 (8 ∷ 5 ∷ []) ∷ []) [] [])
    ∷ row (frames ((0xC2 ∷ 0xFF ∷ 0xFA ∷ 0x00 ∷ 0x00 ∷ 0xFC ∷ 0x94 ∷ 0x2C ∷ []) ∷ [])) (items (says 2 (3 ∷ []) ∷ []) [] [])
    ∷ row (frames ((0xC1 ∷ 0xFF ∷ 0xFF ∷ 0x02 ∷ 0x21 ∷ []) ∷ [])) (items (says 0 [] ∷ []) [] [])
    ∷ row
    (frames ((0xC1 ∷ 0xFF ∷ 0xFF ∷ 0x02 ∷ 0x21 ∷ []) ∷ (0xC1 ∷ 0xFF ∷ 0xFE ∷ 0x41 ∷ 0x00 ∷ []) ∷ []))
    (items (says 0 [] ∷ says 0 [] ∷ []) [] (one 0 1 (0x41 ∷ []) ∷ []))
    ∷ row (frame 30 1 (pushes608 (field2 (pair 0x15 0x2C)) ∷ [])) (bytes (0xC2 ∷ 0xFF ∷ 0xFC ∷ 0x80 ∷ 0x80 ∷ 0xFD ∷ 0x15 ∷ 0x2C ∷ []))
    ∷ row
    (frame 30 1 silent_turn)
    (bytes (0xC4 ∷ 0xFF ∷ 0xFC ∷ 0x94 ∷ 0x2C ∷ 0xFF ∷ 0x82 ∷ 0x21 ∷ 0xFE ∷ 0x41 ∷ 0x00 ∷ []))
    ∷ row (read_back 30 1 silent_turn) (items (says 12 (14 ∷ 11 ∷ []) ∷ []) [] [])
    ∷ row
    (frame 30 1 (sets (true_counting true) ∷ silent_turn))
    (bytes (0xC3 ∷ 0xFF ∷ 0xFC ∷ 0x94 ∷ 0x2C ∷ 0xFF ∷ 0x82 ∷ 0x21 ∷ 0xFE ∷ 0x41 ∷ 0x00 ∷ []))
    ∷ row
    (read_back 30 1 (sets (true_counting true) ∷ silent_turn))
    (items (says 0 [] ∷ []) (field1 (pair 0x94 0x2C) ∷ []) (one 2 1 (0x41 ∷ []) ∷ []))
    ∷ row (frame 24 1 (sets (paddings true false) ∷ [])) (bytes (0xC3 ∷ 0xFF ∷ 0xF8 ∷ 0x80 ∷ 0x80 ∷ 0xF9 ∷ 0x80 ∷ 0x80 ∷ 0xF8 ∷ 0x80 ∷ 0x80 ∷ []))
    ∷ row (frame 24 1 (sets (paddings true false) ∷ sets (carrying_mode true) ∷ [])) (bytes (0xC2 ∷ 0xFF ∷ 0xF8 ∷ 0x80 ∷ 0x80 ∷ 0xF9 ∷ 0x80 ∷ 0x80 ∷ []))
    ∷ row (sent 0 4 one_pair) (bytes one_pair_sent)
    ∷ row (sent 65535 8 (0xC0 ∷ 0xFF ∷ [])) (bytes (0x96 ∷ 0x69 ∷ 0x0D ∷ 0x8F ∷ 0x43 ∷ 0xFF ∷ 0xFF ∷ 0x72 ∷ 0xE0 ∷ 0x74 ∷ 0xFF ∷ 0xFF ∷ 0x60 ∷ []))
    ∷ row (sent 0 4 (0xC2 ∷ 0xFF ∷ 0xFC ∷ 0x94 ∷ 0x2C ∷ [])) (refusal (says 17 []))
    ∷ row (sent 0 4 []) (refusal (says 17 []))
    ∷ row (sent 0 9 one_pair) (refusal (says 17 []))
    ∷ row (next 0) (counts (1 ∷ []))
    ∷ row (next 65535) (counts (0 ∷ []))
    ∷ row (received none one_pair_sent) (carried 4 0 one_pair)
    ∷ row (received none (0x96 ∷ 0x69 ∷ 0x10 ∷ 0x40 ∷ 0x00 ∷ 0x00 ∷ 0x00 ∷ 0x72 ∷ 0x01 ∷ 0xFC ∷ 0x94 ∷ 0x2C ∷ 0x74 ∷ 0x00 ∷ 0x00 ∷ 0x0E ∷ [])) (carried 4 0 one_pair)
    ∷ row (received none (0x96 ∷ 0x69 ∷ 0x10 ∷ 0x4F ∷ 0x5F ∷ 0x00 ∷ 0x00 ∷ 0x72 ∷ 0xE1 ∷ 0xFC ∷ 0x94 ∷ 0x2C ∷ 0x74 ∷ 0x00 ∷ 0x00 ∷ 0xC0 ∷ [])) (carried 4 0 one_pair)
    ∷ row (received (some 65535) one_pair_sent) (carried 4 0 one_pair)
    ∷ row (received (some 32769) one_pair_sent) (carried 4 0 one_pair)
    ∷ row (received (some 32768) one_pair_sent) (refusal (says 20 []))
    ∷ row (received (some 0) one_pair_sent) (refusal (says 20 []))
    ∷ row (received none (0x69 ∷ 0x96 ∷ [])) (refusal (says 16 []))
    ∷ row (received none (0x96 ∷ 0x69 ∷ 0x10 ∷ 0x4F ∷ 0xC3 ∷ 0x00 ∷ 0x00 ∷ 0x72 ∷ 0xE1 ∷ 0xFC ∷ 0x94 ∷ 0x2C ∷ 0x74 ∷ 0x00 ∷ 0x00 ∷ 0x5C ∷ [])) (refusal (says 17 []))
    ∷ row (received none (0x96 ∷ 0x69 ∷ 0x10 ∷ 0x4F ∷ 0x63 ∷ 0x00 ∷ 0x00 ∷ 0x72 ∷ 0xE1 ∷ 0xFC ∷ 0x94 ∷ 0x2C ∷ 0x74 ∷ 0x00 ∷ 0x00 ∷ 0xBC ∷ [])) (refusal (says 17 []))
    ∷ row (received none (0x96 ∷ 0x69 ∷ 0x10 ∷ 0x4F ∷ 0x43 ∷ 0x00 ∷ 0x00 ∷ 0x72 ∷ 0xE1 ∷ 0xFC ∷ 0x94 ∷ 0x2C ∷ 0x74 ∷ 0x00 ∷ 0x00 ∷ 0xDD ∷ [])) (refusal (says 18 []))
    ∷ row (received none (0x96 ∷ 0x69 ∷ 0x10 ∷ 0x4F ∷ 0x43 ∷ 0x00 ∷ 0x00 ∷ 0x72 ∷ 0xE1 ∷ 0xFC ∷ 0x94 ∷ 0x2C ∷ 0x74 ∷ 0x00 ∷ 0x01 ∷ 0xDB ∷ [])) (refusal (says 19 []))
    ∷ []

-- every row computes to its result
pub examples : map (λ (r : Row). answer r.input) table ≡ map (λ (r : Row). r.result) table
unfolding table
    header_length number_in is_header_short needed is_short block_in short_at read_block_at written_header written_block block_length
    packet_size plain_move tidy_move is_null_header blocks_from read_by read_packet reads read_tidy blocks_length packet_length written_blocks packet_header fill written_packet
    among once bits_of services_of distinct_services
    first_ranges ext1_ranges told_in told_length is_untold code_in codes_from codes_of_each
    seen seen_all flat triples_in flagged frame_bytes
    pairs_in late_after late_from carries708 closed packets_of kept wants gather ended gathered take_gathered take_triples unread take_frame
    rounded budgets going_on carried_budget left_over carried_on carried_share share_by
    queued push_packet is_null push_pair push_cea608 turns_due turn1 turn2 turned continued started packet_triples triples_queued
    turns_sending turns_counted count_due send padding framed write_frame
    call run read_frames put_into
    is_coded sum_of closing sections laid_out has_mark announces_more sections_in_order sums_up counters_agree opened ahead newer takes received_into receive counter_after is_whole packed sent_into distribute
examples = refl
