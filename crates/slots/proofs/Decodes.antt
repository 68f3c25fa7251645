-- A slot that passes the walk is a written packet. Assumes nothing.
use mathlib.Core.Path.{◌≡◌, refl, sym, ◌∙◌}
use mathlib.Core.Bool.{Bool, true, false, cond, not, ◌&&◌, ◌||◌, false≢true}
use mathlib.Core.List.{List, [], ◌∷◌, ◌++◌, append-nil}
use Prim.Native.Nat.{ℕ, zero, suc, ◌+◌, ◌-◌, ◌*◌, ◌/◌, ◌%◌, ◌≤◌, ◌<◌}
use native.Mathlib.Numerals.{add-one}
use native.Mathlib.Omega.{arith}
use borrow.Author.Tests.{eqb-true, eqb-false, leb-true, ltb-true, not-true}
use lib.Dec.{eqb, leb, ltb}
use lib.ListN.{length, get_or, take, drop, take-append-drop, length-drop}
use lib.Seq.{length-take-le, take-suc}
use Rattle.model.specs.Lists.{every}
use Rattle.model.specs.Block.{Block, written_block}
use Rattle.model.specs.Packet.{Packet, packet_length, packet_header, written_blocks, written_packet, fill, blocks_length, carriable}
use Rattle.model.proofs.Cases.{by_test, both, and_both}
use Rattle.model.proofs.Blocks.{Carriable, facts_carriable, written_short, written_long}
use Rattle.model.proofs.Packets.{Valid, written_blocks_length, length_some}
use Rattle.slots.specs.Slot.{written_length, written_bytes, written_slot}
use Rattle.slots.specs.Walk.{block_span, whole_blocks, framed_slot, walked_slot}
use Rattle.slots.proofs.Written.{facts_written}
use Rattle.slots.specs.declared.Slot.{Slot}

-- blocks that bytes are the written form of
record Decoded (d : List ℕ) : Type 0 where
  blocks : List Block
  ok : every carriable blocks ≡ true
  same : written_blocks blocks ≡ d

-- what the first bytes of a written block are
data Span (h n : ℕ) : ℕ → Type 0 where
  short : 1 ≤ h / 32 → h / 32 < 7 → 1 ≤ h % 32 → Span h n (1 + h % 32)
  long : h / 32 ≡ 7 → 7 ≤ n → n ≤ 63 → 1 ≤ h % 32 → Span h n (2 + h % 32)

-- a span that is not 0 is that of a written block
span : (h n : ℕ) → (block_span h n ≡ 0 → ⊥) → Span h n (block_span h n)
unfolding block_span
span h n =
    by_case (eqb (h % 32) 0) (eqb (h / 32) 0) (ltb (h / 32) 7) (eqb (h / 32) 7) (leb 7 n) (leb n 63) refl refl refl refl refl refl
  where
    -- by the six tests
    by_case : (a b c d e f : Bool) → eqb (h % 32) 0 ≡ a → eqb (h / 32) 0 ≡ b → ltb (h / 32) 7 ≡ c → eqb (h / 32) 7 ≡ d → leb 7 n ≡ e → leb n 63 ≡ f
        → (cond (a || b) 0 (cond c (1 + h % 32) (cond (d && (e && f)) (2 + h % 32) 0)) ≡ 0 → ⊥) → Span h n (cond (a || b) 0 (cond c (1 + h % 32) (cond (d && (e && f)) (2 + h % 32) 0)))
    by_case true b c d e f ea eb ec ed ee ef z = absurd (z refl)
    by_case false true c d e f ea eb ec ed ee ef z = absurd (z refl)
    by_case false false true d e f ea eb ec ed ee ef z =
        short (omega (arith, eqb-false (h / 32) 0 eb)) (ltb-true (h / 32) 7 ec) (omega (arith, eqb-false (h % 32) 0 ea))
    by_case false false false true true true ea eb ec ed ee ef z =
        long (eqb-true (h / 32) 7 ed) (leb-true 7 n ee) (leb-true n 63 ef) (omega (arith, eqb-false (h % 32) 0 ea))
    by_case false false false false e f ea eb ec ed ee ef z = absurd (z refl)
    by_case false false false true false f ea eb ec ed ee ef z = absurd (z refl)
    by_case false false false true true false ea eb ec ed ee ef z = absurd (z refl)

-- one block more in front
ahead : (b : Block) (d e : List ℕ) → Carriable b → d ≡ written_block b ++ e → Decoded e → Decoded d
unfolding every written_blocks
ahead b d e c s r = record { blocks = b ∷ r.blocks; ok = and_both _ _ (facts_carriable b c) r.ok; same = rw r.same (sym s) }

-- the block at the head, and those behind it
front : (x : ℕ) (d : List ℕ) {m : ℕ} → Span x (get_or d 0 0) m → m - 1 ≤ length d → Decoded (drop (m - 1) d) → Decoded (x ∷ d)
front x d (short a b s) h r =
    let n : ℕ = x % 32 in
    let e : 1 + n - 1 ≡ n = omega arith in
    let l : length (take n d) ≡ n = length-take-le n d (omega arith) in
    let p : Block = record { number = x / 32; payload = take n d } in
    let w : x / 32 * 32 + length (take n d) ≡ x = omega arith in
    ahead p (x ∷ d) (drop n d) (record { named = a; known = omega arith; filled = omega arith; small = omega arith })
    (sym (rw (written_short p b, w, take-append-drop n d))) (rw e at r)
front x [] (long t a b s) h r = absurd (omega arith)
front x (y ∷ d) (long t a b s) h r =
    let n : ℕ = x % 32 in
    let e : 2 + n - 1 ≡ suc n = omega arith in
    let l : length (take n d) ≡ n = length-take-le n d (omega arith) in
    let p : Block = record { number = y; payload = take n d } in
    let w : 0xE0 + length (take n d) ≡ x = omega arith in
    ahead p (x ∷ y ∷ d) (drop n d) (record { named = omega arith; known = b; filled = omega arith; small = omega arith })
    (sym (rw (written_long p a, w, take-append-drop n d))) (rw e at r)

-- bytes that pass the walk are written blocks
decoded : (k : ℕ) (d : List ℕ) → whole_blocks k d ≡ true → (k ≤ length d) × Decoded (drop k d)
unfolding whole_blocks every written_blocks
decoded zero [] e = (omega arith, record { blocks = []; ok = refl; same = refl })
decoded (suc k) [] e = absurd (false≢true e)
decoded (suc k) (x ∷ d) e = let r = decoded k d e in (omega (arith, r.0), r.1)
decoded zero (x ∷ d) e =
    let m : ℕ = block_span x (get_or d 0 0) in
    let t = both (not (eqb m 0)) (whole_blocks (m - 1) d) e in
    let r = decoded (m - 1) d t.1 in
    (omega arith, front x d (span x (get_or d 0 0) (eqb-false m 0 (not-true _ t.0))) r.0 r.1)

-- the tests that a slot passes
record Passed (s : Slot) : Type 0 where
  least : 3 ≤ s.len
  most : s.len ≤ 128
  header : get_or s.bytes 0 0 % 64 ≡ (s.len + 1) / 2 % 64
  byte : get_or s.bytes 0 0 ≤ 255
  filled : (eqb (s.len % 2) 0 || eqb (get_or s.bytes s.len 0) 0) ≡ true
  there : written_length s ≤ length s.bytes
  blocks : whole_blocks 0 (drop 1 (take s.len s.bytes)) ≡ true

-- what the test says
passed : (s : Slot) → walked_slot s ≡ true → Passed s
unfolding walked_slot framed_slot
passed s e =
    let t = both (leb 3 s.len) _ e in
    let u = both (leb s.len 128) _ t.1 in
    let v = both (framed_slot s) (whole_blocks 0 (drop 1 (take s.len s.bytes))) u.1 in
    let w = both (eqb (get_or s.bytes 0 0 % 64) ((s.len + 1) / 2 % 64)) _ v.0 in
    let x = both (leb (get_or s.bytes 0 0) 255) _ w.1 in
    let y = both (eqb (s.len % 2) 0 || eqb (get_or s.bytes s.len 0) 0) (leb (written_length s) (length s.bytes)) x.1 in
    record {
      least = leb-true _ _ t.0;
      most = leb-true _ _ u.0;
      header = eqb-true _ _ w.0;
      byte = leb-true _ _ x.0;
      filled = y.0;
      there = leb-true _ _ y.1;
      blocks = v.1;
    }

-- the bytes with the one that fills them
filled_bytes : (n : ℕ) (d : List ℕ) → n + n % 2 ≤ length d → (eqb (n % 2) 0 || eqb (get_or d n 0) 0) ≡ true → take (n + n % 2) d ≡ take n d ++ fill n
unfolding fill
filled_bytes n d h f =
    by_test (eqb (n % 2) 0)
    (λ e. let z : n % 2 ≡ 0 = eqb-true (n % 2) 0 e in
    let k : n + 0 ≡ n = omega arith in
    rw (z, k) (sym (append-nil (take n d))))
    (λ e. let z : n % 2 ≡ 1 = omega (arith, eqb-false (n % 2) 0 e) in
    let g : get_or d n 0 ≡ 0 = eqb-true (get_or d n 0) 0 (rw e at f) in
    rw (z, add-one n, take-suc d n 0 (omega arith), g))

module _ (s : Slot) (e : walked_slot s ≡ true) where
  -- the tests
  p : Passed s
  p = passed s e

  -- the blocks
  d : Decoded (drop 1 (take s.len s.bytes))
  d = (decoded 0 (drop 1 (take s.len s.bytes)) p.blocks).1

  -- the packet's bytes are there
  taken : length (take s.len s.bytes) ≡ s.len
  taken = length-take-le s.len s.bytes (omega (arith, p.there))

  -- the packet
  it : Packet
  it = record { sequence = get_or s.bytes 0 0 / 64; blocks = d.blocks }

  -- the blocks take all bytes but the first
  blocks_are : blocks_length d.blocks ≡ s.len - 1
  blocks_are = sym (written_blocks_length d.blocks d.ok) ∙ rw d.same (length-drop 1 (take s.len s.bytes) ∙ rw taken)

  -- there is a block
  some_block : 1 ≤ length d.blocks
  unfolding blocks_length
  some_block = by d.blocks (omega (arith, blocks_are, p.least))
    where
      -- by the list
      by : (bs : List Block) → 1 ≤ blocks_length bs → 1 ≤ length bs
      by [] h = h
      by (b ∷ bs) h = omega arith

  -- the packet's length is the slot's
  length_is : packet_length it ≡ s.len
  unfolding it
  length_is = length_some it some_block ∙ (omega (arith, blocks_are, p.least))

  -- the packet is within the limits
  valid : Valid it
  unfolding it
  valid = record { sequence = omega (arith, p.byte); blocks = d.ok; length = omega (arith, length_is, p.most) }

  -- the header, and the rest
  first_byte : take s.len s.bytes ≡ get_or s.bytes 0 0 ∷ drop 1 (take s.len s.bytes)
  first_byte = by s.len s.bytes p.least (omega (arith, p.there, p.least))
    where
      -- by the list
      by : (n : ℕ) (l : List ℕ) → 3 ≤ n → 1 ≤ length l → take n l ≡ get_or l 0 0 ∷ drop 1 (take n l)
      by zero l h k = absurd (omega arith)
      by (suc n) [] h k = absurd (omega arith)
      by (suc n) (x ∷ l) h k = refl

  -- the slot's bytes are the packet's
  written : written_bytes s ≡ written_packet it
  unfolding written_bytes written_packet packet_header it
  written =
      let h : get_or s.bytes 0 0 / 64 * 64 + (s.len + 1) / 2 % 64 ≡ get_or s.bytes 0 0 = omega (arith, p.header) in
      filled_bytes s.len s.bytes p.there p.filled
      ∙ rw (first_byte, length_is, h, d.same)

  -- so it is a written packet
  pub walked : written_slot s ≡ true
  unfolding it d
  walked = facts_written s it valid some_block length_is written
