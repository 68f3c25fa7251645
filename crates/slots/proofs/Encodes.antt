-- The bytes that a packet within the limits is written in pass the test of a slot. Assumes nothing.
use mathlib.Core.Path.{◌≡◌, refl, sym, ap, ◌∙◌}
use mathlib.Core.Bool.{true, ◌||◌}
use mathlib.Core.List.{List, [], ◌∷◌, ◌++◌, append_assoc}
use Prim.Native.Nat.{ℕ, suc, ◌+◌, ◌-◌, ◌*◌, ◌/◌, ◌%◌, ◌≤◌, ◌<◌}
use native.Mathlib.Omega.{arith}
use borrow.Author.Tests.{eq-eqb, ne_eqb, eqb-false, le-leb, ltb-true, ltb-false}
use lib.Dec.{eqb, ltb}
use lib.ListN.{length, get_or, take, length-append}
use lib.Seq.{take_at, get_or_at}
use Rattle.model.specs.Lists.{every}
use Rattle.model.specs.Block.{Block, written_block}
use Rattle.model.specs.Packet.{Packet, packet_length, packet_header, written_blocks, written_packet, fill, carriable}
use Rattle.model.proofs.Cases.{by_test, both}
use Rattle.model.proofs.Blocks.{Carriable, carriable_facts, written_short, written_long}
use Rattle.model.proofs.Packets.{Valid, Shape, shape, written_blocks_length, length_some}
use Rattle.slots.specs.Walk.{block_span, whole_blocks, framed_slot, walked_slot}
use Rattle.slots.proofs.Spans.{span_short, span_long}

-- bytes of the block before
passes : (x d : List ℕ) → whole_blocks (length x) (x ++ d) ≡ whole_blocks 0 d
unfolding whole_blocks
passes [] d = refl
passes (y ∷ x) d = passes x d

-- one block in front
module _ (b : Block) (d : List ℕ) (c : Carriable b) where
  -- a block of a number below 7
  one_short : b.number < 7 → whole_blocks 0 (written_block b ++ d) ≡ whole_blocks 0 d
  unfolding whole_blocks
  one_short s =
      let k : ℕ = length b.payload in
      let h : ℕ = b.number * 32 + k in
      let m = c.small in
      let f = c.filled in
      let g = c.named in
      let t : h / 32 ≡ b.number = omega arith in
      let z : h % 32 ≡ k = omega arith in
      let e : block_span h (get_or (b.payload ++ d) 0 0) ≡ suc k = sym (span_short h (get_or (b.payload ++ d) 0 0) (λ y. omega arith) (λ y. omega arith) (omega arith)) ∙ (omega arith) in
      let n : suc k - 1 ≡ k = omega arith in
      rw (written_short b s, e, ne_eqb (suc k) 0 (λ y. omega arith), n) (passes b.payload d)

  -- a block of a number from 7 on
  one_long : 7 ≤ b.number → whole_blocks 0 (written_block b ++ d) ≡ whole_blocks 0 d
  unfolding whole_blocks
  one_long s =
      let k : ℕ = length b.payload in
      let h : ℕ = 0xE0 + k in
      let m = c.small in
      let f = c.filled in
      let z : h % 32 ≡ k = omega arith in
      let e : block_span h b.number ≡ suc (suc k) = sym (span_long h b.number (λ y. omega arith) (λ y. omega arith) (omega arith) (omega arith) s c.known) ∙ (omega arith) in
      let n : suc (suc k) - 1 ≡ suc k = omega arith in
      rw (written_long b s, e, ne_eqb (suc (suc k)) 0 (λ y. omega arith), n) (passes b.payload d)

-- written blocks pass the walk
whole_written : (bs : List Block) → every carriable bs ≡ true → whole_blocks 0 (written_blocks bs) ≡ true
unfolding whole_blocks written_blocks every
whole_written [] ok = refl
whole_written (b ∷ bs) ok =
    let t = both (carriable b) (every carriable bs) ok in
    let c = carriable_facts b t.0 in
    by_test (ltb b.number 7) (λ e. one_short b (written_blocks bs) c (ltb-true _ _ e)) (λ e. one_long b (written_blocks bs) c (ltb-false _ _ e))
    ∙ whole_written bs t.1

module _ (p : Packet) (v : Valid p) (some : 1 ≤ length p.blocks) (rest : List ℕ) where
  -- the shape of the packet
  h : Shape p
  h = shape p v some

  -- the bytes but the one that fills them
  body : length (packet_header p ∷ written_blocks p.blocks) ≡ packet_length p
  body = omega (arith, written_blocks_length p.blocks v.blocks, length_some p some)

  -- the filling byte stands behind the blocks
  split : written_packet p ++ rest ≡ (packet_header p ∷ written_blocks p.blocks) ++ (fill (packet_length p) ++ rest)
  unfolding written_packet
  split = ap (λ (l : List ℕ). packet_header p ∷ l) (append_assoc (written_blocks p.blocks) (fill (packet_length p)) rest)

  -- an odd length is followed by 0x00
  filled : (eqb (packet_length p % 2) 0 || eqb (get_or (written_packet p ++ rest) (packet_length p) 0) 0) ≡ true
  unfolding fill
  filled =
      by_test (eqb (packet_length p % 2) 0) (λ e. rw e)
      (λ e. let o : packet_length p % 2 ≡ 1 = omega (arith, eqb-false (packet_length p % 2) 0 e) in
      rw (e, split, o, get_or_at (packet_header p ∷ written_blocks p.blocks) 0x00 rest 0 (packet_length p) body))

  -- "the written form of a nonempty packet"
  pub written_passes : walked_slot (record { len = packet_length p; bytes = written_packet p ++ rest }) ≡ true
  unfolding walked_slot framed_slot packet_header written_packet
  written_passes =
      let l : 3 ≤ packet_length p = omega (arith, h.least, h.even) in
      let a : get_or (written_packet p ++ rest) 0 0 % 64 ≡ (packet_length p + 1) / 2 % 64 = omega arith in
      let b : get_or (written_packet p ++ rest) 0 0 ≤ 255 = omega (arith, v.sequence) in
      let w : packet_length p + packet_length p % 2 ≤ length (written_packet p ++ rest) = omega (arith, h.even, length-append (written_packet p) rest) in
      let d : take (packet_length p) (written_packet p ++ rest) ≡ packet_header p ∷ written_blocks p.blocks =
      rw split (take_at (packet_header p ∷ written_blocks p.blocks) (fill (packet_length p) ++ rest) (packet_length p) body) in
      simp (le-leb _ _ l, le-leb _ _ v.length, eq-eqb _ _ a, le-leb _ _ b, filled, le-leb _ _ w, d) (whole_written p.blocks v.blocks)
