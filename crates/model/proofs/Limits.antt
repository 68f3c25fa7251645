-- What a packet reader gives is a packet within the limits. Assumes nothing.
use mathlib.Core.Path.{◌≡◌, refl}
use mathlib.Core.Bool.{true, false}
use mathlib.Core.List.{List, [], ◌∷◌}
use Prim.Native.Nat.{ℕ, zero, suc, ◌+◌, ◌-◌, ◌%◌, ◌≤◌}
use native.Mathlib.Omega.{arith}
use lib.Dec.{eqb, ltb}
use lib.ListN.{length, get_or, take, drop, length-take, length-drop}
use lib.Seq.{length-take-le}
use borrow.Author.Tests.{eq-eqb, ne_eqb, le-leb, eqb-true, eqb-false, ltb-true, ltb-false, not-false}
use Rattle.model.specs.Lists.{every}
use Rattle.model.specs.Said.{gave}
use Rattle.model.specs.Block.{Block, valid_block, top_number, block_size, header_length, number_in, is_header_short, needed, is_short, block_in, read_block_at, read_block, block_length}
use Rattle.model.specs.Packet.{Packet, packet_size, plain_move, tidy_move, Way, plainly, tidily, kept, blocks_from, read_by, read_packet, read_tidy, blocks_length, packet_length, carriable}
use Rattle.model.proofs.Cases.{by_test, by_cond, and_both, Gives, gives_then, gives_mapped, gives_at}
use Rattle.model.proofs.Blocks.{Carriable, facts_carriable, header_one, header_two, header_bare, header_bytes, written_block_length, block_length_none, length_short, length_long}
use Rattle.model.proofs.BlockTrip.{written_some}
use Rattle.model.proofs.Packets.{Valid, blocks_two, length_some}

-- a move by m: forward, within the n bytes that there are, and over the l bytes that the block is written in
pub record Moves (m n l : ℕ) : Type 0 where
  pub least : 1 ≤ m
  pub most : m ≤ n
  pub covers : l ≤ m

-- a block that was read from d: within the limits if it has a payload, and written in no more bytes than its reader moves on by
pub record ReadFrom (d : List ℕ) (b : Block) : Type 0 where
  pub carried : 1 ≤ length b.payload → Carriable b
  pub plain : Moves (plain_move d) (length d) (block_length b)
  pub tidy : Moves (tidy_move d) (length d) (block_length b)

-- a header has one byte or two, and two only for number 7 with a size
pub header_cases : {P : Type 0} (h : ℕ) → (header_length h ≡ 1 → (top_number h ≡ 7 → block_size h ≡ 0) → P) → (header_length h ≡ 2 → (top_number h ≡ 7) × (block_size h ≡ 0 → ⊥) → P) → P
header_cases h one two =
    by_test (eqb (top_number h) 7)
    (λ e. by_test (eqb (block_size h) 0)
    (λ z. one (header_bare h (eqb-true _ _ z)) (λ _. eqb-true _ _ z))
    (λ z. two (header_two h (eqb-true _ _ e) (eqb-false _ _ z)) (eqb-true _ _ e, eqb-false _ _ z)))
    (λ e. one (header_one h (eqb-false _ _ e)) (λ t. absurd (eqb-false _ _ e t)))

-- the number that a header of one byte gives
pub number_one : (d : List ℕ) → header_length (get_or d 0 0) ≡ 1 → number_in d ≡ top_number (get_or d 0 0)
unfolding number_in
number_one d e = simp (ne_eqb (header_length (get_or d 0 0)) 2 (λ z. omega arith))

-- and one of two
pub number_two : (d : List ℕ) → header_length (get_or d 0 0) ≡ 2 → number_in d ≡ get_or d 1 0 % 64
unfolding number_in
number_two d e = simp (eq-eqb (header_length (get_or d 0 0)) 2 e)

-- neither is above 63
number_known : (d : List ℕ) → number_in d ≤ 63
number_known d = header_cases (get_or d 0 0) (λ e _. rw (number_one d e) (omega arith)) (λ e _. rw (number_two d e) (omega arith))

-- a block of number 0 has no payload
payload_none : (d : List ℕ) → number_in d ≡ 0 → length (block_in d).payload ≡ 0
unfolding block_in
payload_none d z = simp (eq-eqb _ _ z)

-- the tidy reader moves forward
pub tidy_least : (d : List ℕ) → 1 ≤ tidy_move d
unfolding tidy_move
tidy_least d = omega (arith, header_bytes (get_or d 0 0))

-- bytes d that are all there
module _ (d : List ℕ) (whole : needed d ≤ length d) where
  -- the header and its body are there
  pub all_there : header_length (get_or d 0 0) + block_size (get_or d 0 0) ≤ length d
  unfolding needed is_header_short
  all_there =
      by_test (ltb (length d) (header_length (get_or d 0 0)))
      (λ e. let w : header_length (get_or d 0 0) ≤ length d = simp e at whole in absurd (omega (arith, ltb-true (length d) (header_length (get_or d 0 0)) e)))
      (λ e. simp e at whole)

  -- so that the payload has the size that the header gives
  payload_length : (number_in d ≡ 0 → ⊥) → length (block_in d).payload ≡ block_size (get_or d 0 0)
  unfolding block_in
  payload_length n =
      simp (ne_eqb _ _ n)
      (length-take-le (block_size (get_or d 0 0)) (drop (header_length (get_or d 0 0)) d) (rw length-drop (omega (arith, all_there))))

  -- a block with a payload
  module _ (some : 1 ≤ length (block_in d).payload) where
    -- it has a number
    named : number_in d ≡ 0 → ⊥
    named z = omega (arith, payload_none d z)

    -- and may stand in a packet
    pub carried : Carriable (block_in d)
    unfolding block_in
    carried =
        record {
          named = omega (arith, named);
          known = number_known d;
          filled = some;
          small = omega (arith, payload_length named);
        }

    -- a number from 7 on was read from two bytes
    long_header : 7 ≤ (block_in d).number → header_length (get_or d 0 0) ≡ 2
    unfolding block_in
    long_header l =
        header_cases (get_or d 0 0)
        (λ e t. let z : block_size (get_or d 0 0) ≡ 0 = t (omega (arith, number_one d e)) in absurd (omega (arith, payload_length named)))
        (λ e _. e)

    -- it is written in no more bytes than it was read from
    fits : block_length (block_in d) ≤ tidy_move d
    unfolding tidy_move
    fits =
        by_test (ltb (block_in d).number 7)
        (λ e. let l = length_short (block_in d) (ltb-true _ _ e) some in
        header_cases (get_or d 0 0) (λ q _. omega (arith, payload_length named)) (λ q _. omega (arith, payload_length named)))
        (λ e. let l : 7 ≤ (block_in d).number = ltb-false _ _ e in omega (arith, length_long (block_in d) l some, payload_length named, long_header l))

    -- it is written in a byte or more
    written_from : 1 ≤ block_length (block_in d)
    written_from = omega (arith, written_block_length (block_in d) some, written_some (block_in d) [] carried)

  -- the tidy reader stays within the bytes
  tidy_most : tidy_move d ≤ length d
  unfolding tidy_move
  tidy_most = all_there

  -- the plain reader moves on by one past a block without payload
  plain_none : length (block_in d).payload ≡ 0 → plain_move d ≡ 1
  unfolding plain_move
  plain_none z = simp (eq-eqb _ _ z)

  -- and by the written length past any other
  plain_some : 1 ≤ length (block_in d).payload → plain_move d ≡ block_length (block_in d)
  unfolding plain_move
  plain_some s = simp (ne_eqb (length (block_in d).payload) 0 (λ z. omega arith))

  -- the block at the head of such bytes is so read
  pub read_from : ReadFrom d (block_in d)
  read_from =
      by_test (eqb (length (block_in d).payload) 0)
      (λ e. let z : length (block_in d).payload ≡ 0 = eqb-true _ _ e in
      record {
        carried = λ s. absurd (omega arith);
        plain = record { least = omega (arith, plain_none z); most = omega (arith, plain_none z, tidy_least d, tidy_most); covers = omega (arith, block_length_none (block_in d) z) };
        tidy = record { least = tidy_least d; most = tidy_most; covers = omega (arith, block_length_none (block_in d) z) };
      })
      (λ e. let s : 1 ≤ length (block_in d).payload = omega (arith, eqb-false (length (block_in d).payload) 0 e) in
      record {
        carried = carried;
        plain = record { least = omega (arith, plain_some s, written_from s); most = omega (arith, plain_some s, fits s, tidy_most); covers = omega (arith, plain_some s) };
        tidy = record { least = tidy_least d; most = tidy_most; covers = fits s };
      })

-- a block that is read breaks no limit
block_valid : (d : List ℕ) → needed d ≤ length d → valid_block (block_in d) ≡ true
unfolding valid_block block_in
block_valid d whole =
    by_test (eqb (number_in d) 0)
    (λ e. simp (le-leb _ _ (number_known d), e))
    (λ e. let n : (number_in d ≡ 0 → ⊥) = eqb-false _ _ e in
    let small : length (take (block_size (get_or d 0 0)) (drop (header_length (get_or d 0 0)) d)) ≤ 31 =
    omega (arith, length-take (block_size (get_or d 0 0)) (drop (header_length (get_or d 0 0)) d)) in
    simp (le-leb _ _ (number_known d), e, le-leb _ _ small))

-- a block that the reader gives breaks no limit
pub read_valid : (d : List ℕ) {b : Block} → read_block d ≡ gave b → valid_block b ≡ true
unfolding read_block_at is_short
read_valid d e =
    gives_at (λ (b : Block). valid_block b ≡ true) _ e
    (by_cond (Gives (λ (b : Block). valid_block b ≡ true)) (ltb (length d) (needed d)) (λ _. tt) (λ q. block_valid d (ltb-false _ _ q)))

-- a block reader gives blocks of that kind
read_gives : (offset : ℕ) (d : List ℕ) → Gives (ReadFrom d) (read_block_at offset d)
unfolding read_block_at is_short
read_gives offset d = by_cond (Gives (ReadFrom d)) (ltb (length d) (needed d)) (λ _. tt) (λ e. read_from d (ltb-false _ _ e))

-- blocks that are within the limits and written in at most n bytes
pub record Within (n : ℕ) (bs : List Block) : Type 0 where
  pub carriable : every carriable bs ≡ true
  pub short : blocks_length bs ≤ n

-- one more block, kept if it has a payload
within_kept : (b : Block) (bs : List Block) (n : ℕ) → (1 ≤ length b.payload → Carriable b) → Within n bs → Within (block_length b + n) (kept b bs)
unfolding every blocks_length
within_kept b bs n c w =
    by_cond (Within (block_length b + n)) (eqb (length b.payload) 0)
    (λ e. record { carriable = w.carriable; short = omega (arith, w.short) })
    (λ e. let s : 1 ≤ length b.payload = omega (arith, eqb-false (length b.payload) 0 e) in
    record { carriable = and_both _ _ (facts_carriable b (c s)) w.carriable; short = omega (arith, w.short) })

-- the length of a packet of these blocks
packet_short : (q : ℕ) (bs : List Block) → blocks_length bs ≤ 127 → packet_length (record { sequence = q; blocks = bs }) ≤ 128
unfolding packet_length
packet_short q bs h = by_cond (λ n. n ≤ 128) (eqb (length bs) 0) (λ _. omega arith) (λ _. omega arith)

-- no header says more than 128 bytes
pub size_most : (h : ℕ) → packet_size h ≤ 128
unfolding packet_size
size_most h = by_cond (λ n. n ≤ 128) (eqb (h % 64) 0) (λ _. omega arith) (λ _. omega arith)

-- a reader that stays within the bytes and goes on from no block by less than it is written in
module _ (way : Way) (moves : (d : List ℕ) (b : Block) → ReadFrom d b → Moves (way.move d) (length d) (block_length b)) where
  -- the blocks read from some bytes are written in no more of them
  pub blocks_within : (offset k : ℕ) (d : List ℕ) → k ≤ length d → Gives (Within (length d - k)) (blocks_from way offset k d)
  unfolding blocks_from every blocks_length
  blocks_within offset k [] h = record { carriable = refl; short = omega arith }
  blocks_within offset (suc k) (x ∷ d) h = let e : suc (length d) - suc k ≡ length d - k = omega arith in rw e (blocks_within (suc offset) k d (omega arith))
  blocks_within offset zero (x ∷ d) h =
      let next : ℕ = way.move (x ∷ d) - 1 in
      by_cond (Gives (Within (suc (length d) - 0))) (way.stops (x ∷ d))
      (λ _. record { carriable = refl; short = omega arith })
      (λ _. gives_then (Within (suc (length d) - 0)) (ReadFrom (x ∷ d)) (read_block_at offset (x ∷ d)) _ (read_gives offset (x ∷ d))
      (λ b f. let m = moves (x ∷ d) b f in
      gives_mapped (Within (suc (length d) - 0)) (Within (length d - next)) (blocks_from way (suc offset) next d) (kept b)
      (blocks_within (suc offset) next d (omega (arith, m.least, m.most)))
      (λ bs w. let v = within_kept b bs (length d - next) f.carried w in
      record { carriable = v.carriable; short = omega (arith, v.short, m.least, m.most, m.covers) })))

  -- what a packet reader gives of data that is not longer than 128 bytes
  pub packet_within : (d : List ℕ) → (way.wrong (packet_size (get_or d 0 0)) (length d) ≡ false → length d ≤ 128) → Gives Valid (read_by way d)
  unfolding read_by
  packet_within d short =
      by_cond (Gives Valid) (eqb (length d) 0) (λ _. tt)
      (λ e. by_cond (Gives Valid) (way.wrong (packet_size (get_or d 0 0)) (length d)) (λ _. tt)
      (λ r. let l = short r in
      gives_mapped Valid (Within (length (drop 1 d) - 0)) (blocks_from way 1 0 (drop 1 d)) _ (blocks_within 1 0 (drop 1 d) (omega arith))
      (λ bs w. record { sequence = omega arith; blocks = w.carriable; length = packet_short _ bs (omega (arith, w.short, length-drop 1 d)) })))

-- the plain reader
pub plain_within : (d : List ℕ) → Gives Valid (read_packet d)
unfolding read_packet
plain_within d = packet_within plainly (λ _ _ f. f.plain) d (λ e. omega (arith, size_most (get_or d 0 0), ltb-false (packet_size (get_or d 0 0)) (length d) e))

-- the tidy reader
pub tidy_within : (d : List ℕ) → Gives Valid (read_tidy d)
unfolding read_tidy
tidy_within d =
    packet_within tidily (λ _ _ f. f.tidy) d
    (λ e. omega (arith, size_most (get_or d 0 0), eqb-true (packet_size (get_or d 0 0)) (length d) (not-false _ e)))

-- a packet within the limits has at most 63 blocks
pub few_blocks : (p : Packet) → Valid p → length p.blocks ≤ 63
few_blocks p v =
    by_test (eqb (length p.blocks) 0)
    (λ e. omega (arith, eqb-true (length p.blocks) 0 e))
    (λ e. omega (arith, length_some p (omega (arith, eqb-false (length p.blocks) 0 e)), blocks_two p.blocks v.blocks, v.length))

-- what the plain reader gives breaks no limit
pub plain_valid : (d : List ℕ) {p : Packet} → read_packet d ≡ gave p → Valid p
plain_valid d e = gives_at Valid (read_packet d) e (plain_within d)

-- nor does what the tidy reader gives
pub tidy_valid : (d : List ℕ) {p : Packet} → read_tidy d ≡ gave p → Valid p
tidy_valid d e = gives_at Valid (read_tidy d) e (tidy_within d)
