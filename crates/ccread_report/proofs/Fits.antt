-- The lines of a record are short: whoever leaves room for 32768 bytes has all of them. Assumes nothing.
use mathlib.Core.Path.{◌≡◌, refl, ap}
use mathlib.Core.Bool.{true, false}
use mathlib.Core.List.{List, [], ◌∷◌, ◌++◌, append-nil}
use mathlib.Core.Option.{Option, none, some}
use Prim.Native.Nat.{ℕ, ◌+◌, ◌*◌, ◌^◌, ◌≤◌, ◌<◌}
use native.Mathlib.Omega.{arith}
use lib.Dec.{eqb, ltb}
use lib.ListN.{length, get_or, drop, length-append}
use borrow.Author.Tests.{ne_eqb, eqb-true, eqb-false, ltb-true, ltb-false}
use Rattle.model.specs.Lists.{every}
use Rattle.model.specs.Said.{Said, Outcome, gave, refused, accepted, bad_value}
use Rattle.model.specs.Block.{Block, block_length}
use Rattle.model.specs.Packet.{Packet, carriable, valid_packet, blocks_length}
use Rattle.model.specs.Frame.{Cea608, field1, field2, pair, Seen, seen_all, triples_in, count_in}
use Rattle.model.specs.Demux.{Demux, Taken, Gathered, packets_of, pairs_in, late_from, gathered, take_gathered, take_triples, unread, take_frame}
use Rattle.model.specs.Distribution.{frame_of, Received}
use Rattle.model.proofs.Cases.{by_test, by_cond, both, Gives, Refuses}
use Rattle.model.proofs.Blocks.{carriable_facts, length_short, length_long}
use Rattle.model.proofs.Packets.{Valid, valid_facts, length_some}
use Rattle.program_text.specs.Text.{word, decimal, hex}
use Rattle.program_text.proofs.Layings.{length_hex}
use Rattle.program_text.proofs.Decimals.{digits_most}
use Rattle.program_lines.specs.Lines.{value_text, values_text, answer_text, pair_text, packet_text, frame_line, block_line}
use Rattle.parser.specs.Valid.{valid}
use Rattle.parser.specs.Means.{means, Shaped}
use Rattle.parser.specs.declared.CCDataParser.{CCDataParser}
use Rattle.parser.proofs.Laid.{Sound}
use Rattle.parser.proofs.Kept.{sound_demux}
use Rattle.model.proofs.DemuxStates.{DemuxLimits, demux_facts, take_valid}
use Rattle.distribution.specs.States.{last_of}
use Rattle.distribution.proofs.Given.{ReceivedAs, OfPacket, received_as, received_refused}
use Rattle.ccread_report.specs.Report.{pair_line, block_lines, packet_lines, pair_lines, packets_lines, waiting_lines, taken_lines, frame_lines, lent, cdp_read, cdp_values, cdp_line, cdp_told, cdp_lines, record_lines}
use Rattle.ccread_report.specs.declared.Capture.{Capture}
use Rattle.ccread_report.proofs.Packets.{refused_alone}

-- the length of several parts
two : (x y : List ℕ) → length (x ++ y) ≡ length x + length y
two x y = length-append x y

-- a pair's line
pair_fits : (x : Cea608) → length (pair_line x) ≡ 12
unfolding pair_line pair_text
pair_fits (field1 (pair a b)) = refl
pair_fits (field2 (pair a b)) = refl

pairs_fit : (xs : List Cea608) → length (pair_lines xs) ≡ 12 * length xs
unfolding pair_lines
pairs_fit [] = refl
pairs_fit (x ∷ xs) = rw (two (pair_line x) (pair_lines xs)) (omega (arith, pair_fits x, pairs_fit xs))

-- a block's line: its number has at most two digits
block_fits : (n : ℕ) (bs : List ℕ) → n ≤ 63 → length (block_line n bs) ≤ 10 + 2 * length bs
unfolding block_line
block_fits n bs h =
    let d : length (decimal n) ≤ 2 = digits_most 1 n (omega arith) in
    rw (
      two (word "block " ++ decimal n ++ word " " ++ hex bs) (word "\n"),
      two (word "block " ++ decimal n ++ word " ") (hex bs),
      two (word "block " ++ decimal n)
          (word " "),
      two (word "block ") (decimal n),
      length_hex bs,
    )
    (omega arith)

-- a block of n bytes is written in 1 + n or 2 + n
block_least : (b : Block) → 1 ≤ length b.payload → 1 + length b.payload ≤ block_length b
block_least b h =
    by_test (ltb b.number 7)
    (λ e. omega (arith, length_short b (ltb-true _ _ e) h))
    (λ e. omega (arith, length_long b (ltb-false _ _ e) h))

-- the lines of a packet's blocks: 10 + 2 n is at most 6 (1 + n)
blocks_fit : (bs : List Block) → every carriable bs ≡ true → length (block_lines bs) ≤ 6 * blocks_length bs
unfolding block_lines every blocks_length
blocks_fit [] ok = omega arith
blocks_fit (b ∷ bs) ok =
    let f = both (carriable b) (every carriable bs) ok in
    let c = carriable_facts b f.0 in
    rw (two (block_line b.number b.payload) (block_lines bs))
    (omega (arith, block_fits b.number b.payload c.known, blocks_fit bs f.1, block_least b c.filled, c.filled))

no_blocks : (bs : List Block) → length bs ≡ 0 → blocks_length bs ≡ 0
unfolding blocks_length
no_blocks [] z = refl
no_blocks (b ∷ bs) z = absurd (omega arith)

-- those of a packet
blocks_short : (p : Packet) → Valid p → blocks_length p.blocks ≤ 127
blocks_short p v =
    by_test (eqb (length p.blocks) 0)
    (λ e. let z = no_blocks p.blocks (eqb-true _ _ e) in omega (arith, z))
    (λ e. omega (arith, length_some p (omega (arith, eqb-false (length p.blocks) 0 e)), v.length))

packet_fits : (p : Packet) → Valid p → length (packet_lines p) ≤ 771
unfolding packet_lines packet_text
packet_fits p v =
    let d : length (decimal p.sequence) ≤ 1 = digits_most 0 p.sequence (omega (arith, v.sequence)) in
    rw (two ((word "packet " ++ decimal p.sequence) ++ word "\n") (block_lines p.blocks), two (word "packet " ++ decimal p.sequence) (word "\n"), two (word "packet ") (decimal p.sequence))
    (omega (arith, d, blocks_fit p.blocks v.blocks, blocks_short p v))

packets_fit : (ps : List Packet) → every valid_packet ps ≡ true → length (packets_lines ps) ≤ 771 * length ps
unfolding packets_lines every
packets_fit [] ok = omega arith
packets_fit (p ∷ ps) ok =
    let f = both (valid_packet p) (every valid_packet ps) ok in
    rw (two (packet_lines p) (packets_lines ps)) (omega (arith, packet_fits p (valid_facts p f.0), packets_fit ps f.1))

-- everything that waits
waiting_fits : (d : Demux) → length d.pairs ≤ 31 → length d.waiting ≤ 32 → every valid_packet d.waiting ≡ true
    → length (waiting_lines d) ≤ 25044
unfolding waiting_lines
waiting_fits d h k ok =
    rw (two (pair_lines d.pairs) (packets_lines d.waiting))
    (omega (arith, pairs_fit d.pairs, packets_fit d.waiting ok))

-- a frame's own line: a number of 64 bits has at most 20 digits, and that of a refusal two
line_fits : (r : ℕ) (s : Said) → r < 2 ^ 64 → s.number ≤ 12 → length (frame_line r s) ≤ 40
unfolding frame_line
line_fits r s h k =
    let d : length (decimal r) ≤ 20 = digits_most 19 r (omega arith) in
    let e : length (decimal s.number) ≤ 2 = digits_most 1 s.number (omega arith) in
    by_test (eqb s.number 0)
    (λ z. rw (z, two (word "frame " ++ decimal r) (word " ok\n"), two (word "frame ") (decimal r)) (omega arith))
    (λ z. rw (
      z,
      two (word "frame " ++ decimal r) (word " refused " ++ decimal s.number ++ word "\n"),
      two (word "frame ") (decimal r),
      two
          (word " refused " ++ decimal s.number) (word "\n"),
      two (word " refused ") (decimal s.number),
    ) (omega arith))

-- what a frame is answered is at most 12: 13 to 15 are of packets and blocks alone
abbrev Numbered : Taken → Type 0
Numbered t = t.answer.number ≤ 12

gathered_numbered : (ps : List Cea608) (o : Gathered) (d : Demux) → Numbered (take_gathered ps o d)
unfolding take_gathered
gathered_numbered ps o d = by_cond Numbered (ltb 32 (length d.waiting + length (packets_of o.runs))) (λ _. omega arith) (λ _. omega arith)

triples_numbered : (ts : List Seen) (late : Option ℕ) (d : Demux) → Numbered (take_triples ts late d)
unfolding take_triples
triples_numbered ts none d = gathered_numbered (pairs_in ts) (gathered d.pending ts) d
triples_numbered ts (some at) d = omega arith

frame_numbered : (f : List ℕ) (d : Demux) → Numbered (take_frame f d)
unfolding take_frame
frame_numbered f d =
    by_cond Numbered (unread f) (λ _. omega arith)
    (λ _. by_cond Numbered (eqb (length f) (3 * count_in (get_or f 0 0) + 2))
    (λ _. triples_numbered (seen_all (triples_in (drop 2 f))) (late_from 0 (seen_all (triples_in (drop 2 f)))) d)
    (λ _. omega arith))

-- the lines of a frame
module _ (r : ℕ) (f : List ℕ) (p : CCDataParser) (few : r < 2 ^ 64) (shaped : Shaped p) where
  taken_fits : valid p ≡ true → length (taken_lines r (take_frame f (means p))) ≤ 25084
  unfolding taken_lines
  taken_fits v =
      let s : Sound p = record { valid = v; shaped = shaped } in
      let d : DemuxLimits (take_frame f (means p)).next = demux_facts (take_frame f (means p)).next (take_valid f (means p) (sound_demux p s)) in
      let w : length (waiting_lines (take_frame f (means p)).next) ≤ 25044 = waiting_fits (take_frame f (means p)).next d.pairs d.waiting d.packets in
      let l : length (frame_line r (take_frame f (means p)).answer) ≤ 40 = line_fits r (take_frame f (means p)).answer few (frame_numbered f (means p)) in
      by_test (eqb (take_frame f (means p)).answer.number 0)
      (λ z. rw (z, two (frame_line r (take_frame f (means p)).answer) (waiting_lines (take_frame f (means p)).next)) (omega arith))
      (λ z. rw (z, append-nil) (omega arith))

  frame_fits : length (frame_lines r f p) ≤ 25084
  unfolding frame_lines
  frame_fits = by_test (valid p) (λ v. rw v (taken_fits v)) (λ v. rw v (omega (arith, line_fits r bad_value few (omega arith))))

-- the code of a rate has one digit, and a counter at most five
values_fit : (s out : List ℕ) (x : Received) → ((i : ℕ) → get_or s i 0 < 256) → ReceivedAs s out x → length (answer_text (accepted (cdp_values x))) ≤ 10
unfolding answer_text values_text value_text
values_fit s out x bytes g =
    let c = x.packet.code in
    let n = x.packet.counter in
    let d : length (decimal c) ≤ 1 = digits_most 0 c (omega (arith, g.packet.code)) in
    let e : length (decimal n) ≤ 5 = digits_most 4 n (omega (arith, g.packet.counter, bytes 5, bytes 6)) in
    rw (
      append-nil,
      two (word "ok") ((word " " ++ decimal c) ++ (word " " ++ decimal n)),
      two (word " " ++ decimal c) (word " " ++ decimal n),
      two (word " ") (decimal c),
      two (word " ") (decimal n),
    )
    (omega arith)

-- a refusal has two
refusal_fits : (why : Said) → OfPacket why → length (answer_text why) ≤ 10
unfolding answer_text values_text
refusal_fits why g =
    let n = why.number in
    let d : length (decimal n) ≤ 2 = digits_most 1 n (omega (arith, g.most)) in
    let some : eqb n 0 ≡ false = ne_eqb n 0 (λ z. omega (arith, g.least, z)) in
    let none : values_text why.values ≡ [] = ap values_text g.bare in
    rw (some, none, append-nil (decimal n)) (omega arith)

-- a packet's own line
cdp_line_fits : (r : ℕ) (a : Said) → r < 2 ^ 64 → length (answer_text a) ≤ 10 → length (cdp_line r a) ≤ 36
unfolding cdp_line
cdp_line_fits r a h k =
    let d : length (decimal r) ≤ 20 = digits_most 19 r (omega arith) in
    rw (
      two (word "cdp " ++ decimal r ++ word " " ++ answer_text a) (word "\n"),
      two (word "cdp " ++ decimal r ++ word " ") (answer_text a),
      two (word "cdp " ++ decimal r) (word " "),
      two (word "cdp ") (decimal r),
    )
    (omega arith)

-- the lines of a record of bytes
module _ (r : ℕ) (s : List ℕ) (c : Capture) (few : r < 2 ^ 64) (shaped : Shaped c.parser) (bytes : (i : ℕ) → get_or s i 0 < 256) where
  lines_fit : (o : Outcome Received) → Gives (ReceivedAs s lent) o → Refuses OfPacket o → length (cdp_told r c.parser o) ≤ 32768
  unfolding cdp_told
  lines_fit (gave x) g w =
      let l = cdp_line_fits r (accepted (cdp_values x)) few (values_fit s lent x bytes g) in
      rw (two (cdp_line r (accepted (cdp_values x))) (frame_lines r (frame_of x.packet) c.parser)) (omega (arith, l, frame_fits r (frame_of x.packet) c.parser few shaped))
  lines_fit (refused why) g w = rw (refused_alone r c.parser why) (omega (arith, cdp_line_fits r why few (refusal_fits why w)))

  cdp_fits : length (cdp_lines r s c) ≤ 32768
  unfolding cdp_lines cdp_read
  cdp_fits =
      lines_fit (cdp_read s c.reader) (received_as (last_of c.reader.last) s lent) (received_refused (last_of c.reader.last) s lent (omega arith))

  pub record_fits : (kind : ℕ) → length (record_lines r kind s c) ≤ 32768
  unfolding record_lines
  record_fits kind =
      by_cond (λ (l : List ℕ). length l ≤ 32768) (eqb kind 0xCD) (λ _. cdp_fits) (λ _. omega (arith, frame_fits r s c.parser few shaped))
