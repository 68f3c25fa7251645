-- Packets as they are written: how long they are, what their header says, and that the plain reader gives them back. Assumes nothing.
use mathlib.Core.Path.{◌≡◌, refl, sym, ap, ◌∙◌}
use mathlib.Core.Bool.{true, false, ◌&&◌}
use mathlib.Core.List.{List, [], ◌∷◌, ◌++◌, append-nil}
use Prim.Native.Nat.{ℕ, suc, ◌+◌, ◌*◌, ◌/◌, ◌%◌, ◌≤◌}
use native.Mathlib.Omega.{arith}
use lib.Dec.{eqb, leb, ltb}
use lib.ListN.{length, length-append}
use borrow.Author.Tests.{eq-eqb, ne_eqb, le-leb, le-ltb, ltb-true, ltb-false, leb-true, eqb-true, eqb-false}
use Rattle.model.specs.Lists.{every}
use Rattle.model.specs.Said.{gave}
use Rattle.model.specs.Block.{Block, header_length, number_in, is_header_short, needed, is_short, block_in, read_block_at, written_block}
use Rattle.model.specs.Packet.{Packet, sequence_in, packet_size, plain_move, plainly, blocks_from, read_by, read_packet, blocks_length, packet_length, written_blocks, packet_header, fill, written_packet, carriable, valid_packet}
use Rattle.model.proofs.Cases.{by_test, both}
use Rattle.model.proofs.Blocks.{carriable_facts, written_block_length}
use Rattle.model.proofs.BlockTrip.{written_some}
use Rattle.model.proofs.Walk.{Written, plain_takes, written_row, row_then}

-- a packet within the limits, as facts
pub record Valid (p : Packet) : Type 0 where
  pub sequence : p.sequence ≤ 3
  pub blocks : every carriable p.blocks ≡ true
  pub length : packet_length p ≤ 128

-- what passes the test is within the limits,
pub valid_facts : (p : Packet) → valid_packet p ≡ true → Valid p
unfolding valid_packet
valid_facts p e =
    let v = both (leb p.sequence 3 && every carriable p.blocks) (leb (packet_length p) 128) e in
    let w = both (leb p.sequence 3) (every carriable p.blocks) v.0 in
    record { sequence = leb-true _ _ w.0; blocks = w.1; length = leb-true _ _ v.1 }

-- and what is within them passes it
pub facts_valid : (p : Packet) → Valid p → valid_packet p ≡ true
unfolding valid_packet
facts_valid p v = simp (le-leb _ _ v.sequence, v.blocks, le-leb _ _ v.length)

-- blocks of a packet: their lengths' sum is the length of what they are written in, two bytes or more each
pub written_blocks_length : (bs : List Block) → every carriable bs ≡ true → length (written_blocks bs) ≡ blocks_length bs
unfolding every written_blocks blocks_length
written_blocks_length [] ok = refl
written_blocks_length (b ∷ bs) ok =
    let f = both (carriable b) (every carriable bs) ok in
    let e = written_block_length b (carriable_facts b f.0).filled in
    omega (arith, length-append (written_block b) (written_blocks bs), written_blocks_length bs f.1, e)

-- each of them has two bytes or more
pub blocks_two : (bs : List Block) → every carriable bs ≡ true → 2 * length bs ≤ blocks_length bs
unfolding every blocks_length
blocks_two [] ok = omega arith
blocks_two (b ∷ bs) ok =
    let f = both (carriable b) (every carriable bs) ok in
    let c = carriable_facts b f.0 in
    omega (arith, blocks_two bs f.1, written_block_length b c.filled, written_some b [] c)

-- the length of a packet, empty and not
pub length_empty : (p : Packet) → length p.blocks ≡ 0 → packet_length p ≡ 0
unfolding packet_length
length_empty p h = simp (eq-eqb _ _ h)

-- a packet with blocks
pub length_some : (p : Packet) → 1 ≤ length p.blocks → packet_length p ≡ 1 + blocks_length p.blocks
unfolding packet_length
length_some p h = simp (ne_eqb (length p.blocks) 0 (λ e. omega arith))

-- the filling makes the length even
pub fill_length : (n : ℕ) → length (fill n) ≡ n % 2
unfolding fill
fill_length n = by_test (eqb (n % 2) 1) (λ e. simp e (omega (arith, eqb-true (n % 2) 1 e))) (λ e. simp e (omega (arith, eqb-false (n % 2) 1 e)))

-- a packet as written has an even length from 4 to 128, and a header that gives this size and its sequence number
pub record Shape (p : Packet) : Type 0 where
  pub even : length (written_packet p) ≡ 2 * ((packet_length p + 1) / 2)
  pub least : 4 ≤ length (written_packet p)
  pub most : length (written_packet p) ≤ 128
  pub header : packet_size (packet_header p) ≡ length (written_packet p)
  pub sequence : sequence_in (packet_header p) ≡ p.sequence

-- a header that says a sequence number,
says_sequence : (q n : ℕ) → q ≤ 3 → sequence_in (q * 64 + n % 64) ≡ q
says_sequence q n few = omega (arith, few)

-- and 2n bytes in all
header_says : (q n : ℕ) → q ≤ 3 → 1 ≤ n → n ≤ 64 → (sequence_in (q * 64 + n % 64) ≡ q) × (packet_size (q * 64 + n % 64) ≡ 2 * n)
unfolding packet_size
header_says q n few least most =
    let low : (q * 64 + n % 64) % 64 ≡ n % 64 = omega arith in
    let size : packet_size (q * 64 + n % 64) ≡ 2 * n =
    by_test (ltb n 64)
    (λ e. let same : n % 64 ≡ n = omega (arith, ltb-true n 64 e) in rw (low, same, ne_eqb n 0 (λ z. omega arith)))
    (λ e. let is : n ≡ 64 = omega (arith, ltb-false n 64 e) in rw (low, is)) in
    (says_sequence q n few, size)

module _ (p : Packet) (v : Valid p) (some : 1 ≤ length p.blocks) where
  -- a packet with a block has at least three bytes
  least_length : 3 ≤ packet_length p
  least_length = omega (arith, length_some p some, blocks_two p.blocks v.blocks)

  -- it is written in an even number of bytes
  written_even : length (written_packet p) ≡ 2 * ((packet_length p + 1) / 2)
  unfolding written_packet
  written_even =
      omega (arith, length-append (written_blocks p.blocks) (fill (packet_length p)), written_blocks_length p.blocks v.blocks, fill_length (packet_length p), length_some p some)

  -- it has the bounds of that number, which its header says
  pub shape : Shape p
  unfolding packet_header
  shape =
      let says = header_says p.sequence ((packet_length p + 1) / 2) v.sequence (omega (arith, least_length)) (omega (arith, v.length)) in
      record {
        even = written_even;
        least = omega (arith, written_even, least_length);
        most = omega (arith, written_even, v.length);
        header = says.1 ∙ sym written_even;
        sequence = says.0;
      }

-- the filling alone is no block
filled_none : (offset n : ℕ) → blocks_from plainly offset 0 (fill n) ≡ gave []
unfolding fill blocks_from read_block_at is_short needed is_header_short header_length number_in block_in plain_move
filled_none offset n = by_test (eqb (n % 2) 1) (λ e. simp e) (λ e. simp e)

-- written blocks and the byte that may fill them are read as the blocks
blocks_back : (offset : ℕ) (bs : List Block) (n : ℕ) → every carriable bs ≡ true → blocks_from plainly offset 0 (written_blocks bs ++ fill n) ≡ gave bs
blocks_back offset bs n ok =
    row_then plainly Written plain_takes (written_row bs ok) offset (fill n) ∙ rw (filled_none (offset + length (written_blocks bs)) n) (ap gave (append-nil bs))

-- a packet without blocks has a header that says 128
pub bare_size : (q : ℕ) → packet_size (packet_header (record { sequence = q; blocks = [] })) ≡ 128
unfolding packet_size packet_header packet_length
bare_size q = let e : (q * 64 + 0) % 64 ≡ 0 = omega arith in rw e

-- a written packet is not longer than its header says: one without blocks, and one with
not_longer : (q : ℕ) (bs : List Block) → (let p : Packet = record { sequence = q; blocks = bs } in Valid p → length (written_packet p) ≤ packet_size (packet_header p))
unfolding written_packet written_blocks packet_length fill
not_longer q [] v = rw (bare_size q) (omega arith)
not_longer q (b ∷ bs) v = omega (arith, (shape (record { sequence = q; blocks = b ∷ bs }) v (omega arith)).header)

-- a packet that is written is read back plainly, with its sequence number, block numbers and payloads, the empty packet too
pub plain_back : (p : Packet) → Valid p → read_packet (written_packet p) ≡ gave p
unfolding read_packet read_by written_packet packet_header
plain_back p v =
    let rest : List ℕ = written_blocks p.blocks ++ fill (packet_length p) in
    let top : sequence_in (packet_header p) ≡ p.sequence = says_sequence p.sequence ((packet_length p + 1) / 2) v.sequence in
    let some : eqb (suc (length rest)) 0 ≡ false = ne_eqb (suc (length rest)) 0 (λ e. omega arith) in
    let fits : ltb (packet_size (packet_header p)) (length (written_packet p)) ≡ false = le-ltb _ _ (not_longer p.sequence p.blocks v) in
    rw (some, fits, blocks_back 1 p.blocks (packet_length p) v.blocks) (ap (λ (q : ℕ). gave (record { sequence = q; blocks = p.blocks })) top)
