-- What the tidy reader makes of a packet: whole blocks are read up to the first null header, or to the end, and nothing behind that header counts [T2].
-- Assumes nothing.
use mathlib.Core.Path.{◌≡◌, refl, sym, ap, subst, ◌∙◌}
use mathlib.Core.Bool.{true, false, true≢false}
use mathlib.Core.List.{List, [], ◌∷◌, ◌++◌, append_assoc, append-nil}
use Prim.Native.Nat.{ℕ, zero, suc, ◌+◌, ◌%◌, ◌≤◌, ◌<◌}
use native.Mathlib.Omega.{arith}
use lib.Dec.{eqb}
use lib.ListN.{length, get_or, take, drop, length-append, length-drop, take-append-drop, drop_of_length-le, get_or-append}
use lib.Seq.{get_or-take, take-append-le, drop-append-le, length-take-le}
use borrow.Author.Tests.{eq-eqb, ne_eqb, eqb-true, eqb-false}
use Rattle.model.specs.Said.{gave, refused, mapped, packet_length_wrong}
use Rattle.model.specs.Block.{Block, top_number, block_size, header_length, number_in, is_short, block_in, short_at, read_block_at, written_block}
use Rattle.model.specs.Packet.{Packet, sequence_in, packet_size, tidy_move, is_null_header, tidily, kept, blocks_from, read_by, read_packet, read_tidy, written_blocks, packet_header, packet_length, written_packet, fill}
use Rattle.model.proofs.Cases.{by_test, by_cond, mapped_mapped}
use Rattle.model.proofs.Fills.{Fills}
use Rattle.model.proofs.Blocks.{header_one, header_two, header_bytes, read_whole, not_short, null_header, null_facts, header_named}
use Rattle.model.proofs.BlockTrip.{Begins, begins}
use Rattle.model.proofs.Walk.{blocks_none, blocks_stop, blocks_next, Takes, Row, nothing, more, row_each, row_then, Written, written_row}
use Rattle.model.proofs.Packets.{Valid, shape, bare_size, plain_back}
use Rattle.model.proofs.Limits.{header_cases, number_one, number_two, all_there, tidy_least}

-- a header of number 0 in one byte, whose lower five bits may be any size; and in two, whose second byte has nothing in its lower six bits
pub data NullBytes : List ℕ → Type 0 where
  in_one : (x : ℕ) (d : List ℕ) → x < 0x20 → NullBytes (x ∷ d)
  in_two : (x y : ℕ) (d : List ℕ) → 0xE0 < x → x ≤ 0xFF → y % 64 ≡ 0 → NullBytes (x ∷ y ∷ d)

-- these are null headers,
pub bytes_null : {d : List ℕ} → NullBytes d → is_null_header d ≡ true
unfolding number_in
bytes_null (in_one x d few) =
    let one : header_length x ≡ 1 = header_one x (λ e. omega arith) in
    let top : top_number x ≡ 0 = omega arith in
    null_header (x ∷ d) (omega arith) (simp (one, top))
bytes_null (in_two x y d above byte z) =
    let two : header_length x ≡ 2 = header_two x (omega arith) (λ e. omega arith) in
    null_header (x ∷ y ∷ d) (omega arith) (simp (two, z))

-- and no other bytes are
pub null_bytes : (x : ℕ) (d : List ℕ) → x ≤ 0xFF → is_null_header (x ∷ d) ≡ true → NullBytes (x ∷ d)
null_bytes x d byte null =
    let f = null_facts (x ∷ d) null in
    header_cases x
    (λ e _. in_one x d (omega (arith, number_one (x ∷ d) e, f.1)))
    (λ e z. second d f.0 e z.0 z.1 (sym (number_two (x ∷ d) e) ∙ f.1))
  where
    second : (d : List ℕ) → header_length x ≤ suc (length d) → header_length x ≡ 2 → top_number x ≡ 7 → (block_size x ≡ 0 → ⊥) → get_or (x ∷ d) 1 0 % 64 ≡ 0 → NullBytes (x ∷ d)
    second [] there e t z y = absurd (omega arith)
    second (s ∷ d) there e t z y = in_two x s d (omega arith) byte y

-- the bytes of the block b and no others: a header that is not of number 0, and all that it announces
pub record Exactly (d : List ℕ) (b : Block) : Type 0 where
  pub named : number_in d ≡ 0 → ⊥
  pub long : length d ≡ header_length (get_or d 0 0) + block_size (get_or d 0 0)
  pub is : block_in d ≡ b

-- bytes that are such blocks one behind the other, and those of the blocks that have a payload
abbrev pub WholeBlocks : List ℕ → List Block → Type 0
WholeBlocks front bs = Row Exactly front bs

-- as many bytes as the header at their head and its body have, whatever follows them
module _ (d rest : List ℕ) (long : length d ≡ header_length (get_or d 0 0) + block_size (get_or d 0 0)) where
  first_same : get_or (d ++ rest) 0 0 ≡ get_or d 0 0
  first_same = get_or-append d rest 0 0 (omega (arith, header_bytes (get_or d 0 0)))

  number_same : number_in (d ++ rest) ≡ number_in d
  unfolding number_in
  number_same =
      by_test (eqb (header_length (get_or d 0 0)) 2)
      (λ e. let second : get_or (d ++ rest) 1 0 ≡ get_or d 1 0 = get_or-append d rest 0 1 (omega (arith, eqb-true (header_length (get_or d 0 0)) 2 e)) in rw (first_same, e, second))
      (λ e. rw (first_same, e))

  block_same : block_in (d ++ rest) ≡ block_in d
  unfolding block_in
  block_same =
      let h : ℕ = header_length (get_or d 0 0) in
      let n : ℕ = block_size (get_or d 0 0) in
      let body : drop h (d ++ rest) ≡ drop h d ++ rest = drop-append-le h d rest (omega arith) in
      let all : take n (drop h d ++ rest) ≡ take n (drop h d) = take-append-le n (drop h d) rest (omega (arith, length-drop h d)) in
      rw (number_same, first_same, body, all)

  all_same : header_length (get_or (d ++ rest) 0 0) + block_size (get_or (d ++ rest) 0 0) ≤ length (d ++ rest)
  all_same = rw first_same (omega (arith, length-append d rest))

-- the tidy reader takes them for the block
tidy_takes : (d : List ℕ) (b : Block) → Exactly d b → (rest : List ℕ) → Takes tidily d rest b
unfolding tidy_move
tidy_takes d b x rest =
    let long = x.long in
    record {
      some = omega (arith, header_bytes (get_or d 0 0));
      met = header_named (d ++ rest) (λ z. x.named (sym (number_same d rest long) ∙ z));
      read = λ offset. read_whole offset (d ++ rest) (all_same d rest long) ∙ ap gave (block_same d rest long ∙ x.is);
      moves = rw (first_same d rest long) (sym long);
    }

-- a packet of whole blocks and some bytes behind them
module _ (h : ℕ) {front : List ℕ} {bs : List Block} (w : WholeBlocks front bs) (rest : List ℕ) where
  -- the packet of those blocks
  abbrev given : Packet
  given = record { sequence = sequence_in h; blocks = bs }

  -- with as many bytes as its header says
  module _ (long : packet_size h ≡ suc (length (front ++ rest))) where
    right_length : read_tidy (h ∷ (front ++ rest)) ≡ mapped (λ cs. record { sequence = sequence_in h; blocks = bs ++ cs }) (blocks_from tidily (1 + length front) 0 rest)
    unfolding read_tidy read_by
    right_length =
        let some : eqb (suc (length (front ++ rest))) 0 ≡ false = ne_eqb (suc (length (front ++ rest))) 0 (λ e. omega arith) in
        rw (some, eq-eqb _ _ long, row_then tidily Exactly tidy_takes w 1 rest) (mapped_mapped _ _ (blocks_from tidily (1 + length front) 0 rest))

    -- where these are fill, the blocks are all of the packet
    pub filled_tidily : Fills rest → read_tidy (h ∷ (front ++ rest)) ≡ gave given
    filled_tidily fills =
        let none : blocks_from tidily (1 + length front) 0 rest ≡ gave [] =
        by_test (eqb (length rest) 0)
        (λ e. rw (drop_of_length-le rest {i = 0} (omega (arith, eqb-true (length rest) 0 e)), blocks_none tidily (1 + length front)))
        (λ e. blocks_stop tidily (1 + length front) rest (fills (eqb-false (length rest) 0 e))) in
        right_length ∙ rw (none, append-nil bs)

    -- else the next block is short, and is what the packet is refused for, at the place where it is met
    pub short_tidily : 1 ≤ length rest → is_null_header rest ≡ false → is_short rest ≡ true → read_tidy (h ∷ (front ++ rest)) ≡ refused (short_at (1 + length front) rest)
    unfolding read_block_at
    short_tidily some on short =
        right_length ∙ rw (blocks_next tidily (1 + length front) rest some on (tidy_least rest)) (simp short)

-- What the tidy reader gives depends on no byte behind the first null header, nor on that header's own size: behind whole blocks any bytes may stand for
-- others, as many of them, if both begin with a null header [T2]. Which the whole blocks of any bytes are is told by `split`.
pub behind_null : (h : ℕ) {front : List ℕ} {bs : List Block} → WholeBlocks front bs → (d e : List ℕ) → is_null_header d ≡ true → is_null_header e ≡ true → length d ≡ length e
    → read_tidy (h ∷ (front ++ d)) ≡ read_tidy (h ∷ (front ++ e))
unfolding read_tidy read_by
behind_null h {front} {bs} w d e nd ne same =
    let long : length (front ++ d) ≡ length (front ++ e) = omega (arith, length-append front d, length-append front e) in
    let next : ℕ = 1 + length front in
    let then : (rest : List ℕ) → blocks_from tidily 1 0 (front ++ rest) ≡ mapped (λ cs. bs ++ cs) (blocks_from tidily next 0 rest) = row_then tidily Exactly tidy_takes w 1 in
    rw (long, then d, then e, blocks_stop tidily next d nd, blocks_stop tidily next e ne)

-- Any bytes are whole blocks and behind them fill, or a block that is short.
pub record Split (d : List ℕ) : Type 0 where
  pub front : List ℕ
  pub rest : List ℕ
  pub blocks : List Block
  pub is : front ++ rest ≡ d
  pub whole : WholeBlocks front blocks
  pub ends : (length rest ≡ 0 → ⊥) → is_null_header rest ≡ false → is_short rest ≡ true

-- a block that is all there and not null
module _ (d : List ℕ) (on : is_null_header d ≡ false) (there : header_length (get_or d 0 0) + block_size (get_or d 0 0) ≤ length d) where
  abbrev first : List ℕ
  first = take (tidy_move d) d

  first_byte : get_or first 0 0 ≡ get_or d 0 0
  first_byte = get_or-take (tidy_move d) d 0 0 (tidy_least d)

  first_long : length first ≡ header_length (get_or first 0 0) + block_size (get_or first 0 0)
  unfolding tidy_move
  first_long = rw first_byte (length-take-le (tidy_move d) d there)

  not_null : number_in d ≡ 0 → ⊥
  not_null z = true≢false (sym (null_header d (omega arith) z) ∙ on)

  exactly : Exactly first (block_in first)
  exactly =
      record {
        named = λ z. not_null (ap number_in (sym (take-append-drop (tidy_move d) d)) ∙ number_same first (drop (tidy_move d) d) first_long ∙ z);
        long = first_long;
        is = refl;
      }

-- where no whole block is at the head
no_block : (d : List ℕ) → ((length d ≡ 0 → ⊥) → is_null_header d ≡ false → is_short d ≡ true) → Split d
no_block d e = record { front = []; rest = d; blocks = []; is = refl; whole = nothing; ends = e }

-- one block more
one_more : (d : List ℕ) → (let f : List ℕ = take (tidy_move d) d in Exactly f (block_in f)) → Split (drop (tidy_move d) d) → Split d
one_more d x s =
    let k : ℕ = tidy_move d in
    record {
      front = take k d ++ s.front;
      rest = s.rest;
      blocks = kept (block_in (take k d)) s.blocks;
      is = append_assoc (take k d) s.front s.rest ∙ ap (λ (l : List ℕ). take k d ++ l) s.is ∙ take-append-drop k d;
      whole = more (take k d) s.front (block_in (take k d)) s.blocks x s.whole;
      ends = s.ends;
    }

-- with so many bytes at the most
split_within : (n : ℕ) (d : List ℕ) → length d ≤ n → Split d
split_within zero d few = no_block d (λ some _. absurd (some (omega arith)))
split_within (suc n) d few =
    by_test (is_null_header d) (λ e. no_block d (λ _ on. absurd (true≢false (sym e ∙ on))))
    (λ on. by_test (is_short d) (λ e. no_block d (λ _ _. e))
    (λ e. one_more d (exactly d on (all_there d (not_short d e))) (split_within n (drop (tidy_move d) d) (omega (arith, length-drop (tidy_move d) d, tidy_least d)))))

pub split : (d : List ℕ) → Split d
split d = split_within (length d) d (omega arith)

-- a block that may stand in a packet, as it is written: its bytes and no others
written_exactly : (d : List ℕ) (b : Block) → Written d b → Exactly d b
unfolding block_in
written_exactly d b w =
    let e : written_block b ++ [] ≡ d = append-nil (written_block b) ∙ sym w.is in
    let g : Begins b d = subst (Begins b) e (begins b [] w.carriable) in
    record {
      named = λ z. omega (arith, ap (λ (c : Block). c.number) g.block, w.carriable.named);
      long = ap length w.is ∙ sym g.long;
      is = g.block;
    }

-- Blocks as they are written, behind a header that says how many bytes there are in all, and any fill up to that number, read tidily as their packet [T2].
tidy_filled : (p : Packet) → Valid p → (h : ℕ) (old : List ℕ) → sequence_in h ≡ p.sequence → packet_size h ≡ suc (length (written_blocks p.blocks ++ old)) → Fills old
    → read_tidy (h ∷ (written_blocks p.blocks ++ old)) ≡ gave p
tidy_filled p v h old top long fills =
    filled_tidily h (row_each written_exactly (written_row p.blocks v.blocks)) old long fills ∙ ap (λ (q : ℕ). gave (record { sequence = q; blocks = p.blocks })) top

-- So does all that is written of a packet behind its header, with the fill up to the number of bytes that the header in front of it says. Where the
-- written length is odd the byte 0x00 behind it is a null header already, and any bytes may follow it.
pub tidy_appended : (p : Packet) → Valid p → (h : ℕ) (old : List ℕ) → sequence_in h ≡ p.sequence → packet_size h ≡ length (written_packet p) + length old
    → Fills (fill (packet_length p) ++ old) → read_tidy (h ∷ (drop 1 (written_packet p) ++ old)) ≡ gave p
unfolding written_packet
tidy_appended p v h old top long fills =
    let bs : List ℕ = written_blocks p.blocks in
    let n : ℕ = packet_length p in
    let all : packet_size h ≡ suc (length (bs ++ (fill n ++ old))) = omega (arith, long, length-append (bs ++ fill n) old, ap length (append_assoc bs (fill n) old)) in
    rw append_assoc (tidy_filled p v h (fill n ++ old) top all fills)

-- that byte is fill, or there is none
fill_fills : (n : ℕ) → Fills (fill n)
unfolding fill
fill_fills n = by_cond Fills (eqb (n % 2) 1) (λ _ _. bytes_null (in_one 0x00 [] (omega arith))) (λ _ some. absurd (some refl))

-- a packet that is written is read back tidily, if it has a block,
pub tidy_back : (p : Packet) → Valid p → 1 ≤ length p.blocks → read_tidy (written_packet p) ≡ gave p
unfolding written_packet
tidy_back p v some =
    let s = shape p v some in
    let n : ℕ = packet_length p in
    tidy_filled p v (packet_header p) (fill n) s.sequence s.header (fill_fills n)

-- so that there both readers agree;
pub readers_agree : (p : Packet) → Valid p → 1 ≤ length p.blocks → read_packet (written_packet p) ≡ read_tidy (written_packet p)
readers_agree p v some = plain_back p v ∙ sym (tidy_back p v some)

-- a sequence number alone is written in one byte, which says 128
bare_refused : (q : ℕ) → read_tidy (written_packet (record { sequence = q; blocks = [] })) ≡ refused (packet_length_wrong 128 1 0)
unfolding read_tidy read_by written_packet written_blocks packet_length fill
bare_refused q = rw (bare_size q)

-- so a packet without blocks is refused tidily as it is written [T1]
pub tidy_bare : (p : Packet) → length p.blocks ≡ 0 → read_tidy (written_packet p) ≡ refused (packet_length_wrong 128 1 0)
tidy_bare p none =
    let e : p.blocks ≡ [] = drop_of_length-le p.blocks {i = 0} (omega arith) in
    ap (λ (bs : List Block). read_tidy (written_packet (record { sequence = p.sequence; blocks = bs }))) e ∙ bare_refused p.sequence
