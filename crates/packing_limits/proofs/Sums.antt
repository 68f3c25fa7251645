-- What blocks take of their packet: the length of a block at a place of the tables, and the sum of what is left of a packet. Assumes nothing.
use mathlib.Core.Path.{◌≡◌, refl, sym, ap, ◌∙◌}
use mathlib.Core.Bool.{true, false, cond, ◌&&◌, false≢true}
use mathlib.Core.List.{List, [], ◌∷◌, ◌++◌, flat_map}
use Prim.Native.Nat.{ℕ, suc, ◌+◌, ◌*◌, ◌-◌, ◌≤◌, ◌<◌}
use native.Mathlib.Omega.{arith}
use lib.Dec.{eqb, leb}
use lib.ListN.{length, get_or, length-replicate}
use borrow.Author.Tests.{eq-eqb, ne_eqb, le-leb, lt-leb}
use Rattle.model.specs.Lists.{every}
use Rattle.model.specs.Block.{Block, block_length}
use Rattle.model.specs.Packet.{Packet, carriable, blocks_length, packet_length, valid_packet}
use Rattle.model.proofs.Cases.{by_test, by_cond, both}
use Rattle.model.proofs.Blocks.{written_header_most}
use Rattle.model_packing.specs.Pieces.{count_from}
use Rattle.service_headers.specs.Head.{length_for}
use Rattle.service_headers.proofs.Heads.{length_by}
use Rattle.packing_limits.specs.Tables.{place_of, block_at, blocks_at, taken}

-- the block at a place of the tables
module _ (ns ss : List ℕ) (i : ℕ) where
  -- there is none
  pub takes_none : get_or ns i 0 ≡ 0 → 0 ≡ taken (block_at ns ss i)
  unfolding block_at taken
  takes_none e = simp (eq-eqb (get_or ns i 0) 0 e)

  module _ (some : get_or ns i 0 ≡ 0 → ⊥) where
    -- what it takes, test by test
    one_block : taken (block_at ns ss i)
        ≡ cond ((leb 1 (get_or ns i 0) && leb (get_or ns i 0) 63) && (leb 1 (get_or ss i 0) && leb (get_or ss i 0) 31)) (length_for (get_or ns i 0) (get_or ss i 0)) 128
    unfolding block_at taken carriable
    one_block = simp (ne_eqb (get_or ns i 0) 0 some, length-replicate {A = ℕ} (get_or ss i 0) 0) (omega arith)

    -- its number is not 0
    named : leb 1 (get_or ns i 0) ≡ true
    named = le-leb 1 (get_or ns i 0) (omega (arith, some))

    -- its number is no service
    pub takes_unknown : 63 < get_or ns i 0 → 128 ≡ taken (block_at ns ss i)
    takes_unknown h = sym (one_block ∙ simp (named, lt-leb _ _ h))

    module _ (known : get_or ns i 0 ≤ 63) where
      -- it has no payload
      pub takes_empty : get_or ss i 0 < 1 → 128 ≡ taken (block_at ns ss i)
      takes_empty h = sym (one_block ∙ simp (named, le-leb _ _ known, lt-leb _ _ h))

      module _ (m : ℕ) (filled : 1 ≤ get_or ss i 0) (is : m ≡ get_or ss i 0) where
        -- it has too much
        pub takes_over : 31 < m → 128 ≡ taken (block_at ns ss i)
        takes_over h = sym (one_block ∙ simp (named, le-leb _ _ known, le-leb _ _ filled, ← is, lt-leb _ _ h))

        -- it may stand there
        pub takes_length : (r : ℕ) → m ≤ 31 → r ≡ length_for (get_or ns i 0) (get_or ss i 0) → r ≡ taken (block_at ns ss i)
        takes_length r h e = let z : get_or ss i 0 ≤ 31 = omega arith in e ∙ sym (one_block ∙ simp (named, le-leb _ _ known, le-leb _ _ filled, le-leb _ _ z))

-- a block of 31 bytes or fewer does not take all of a packet
pub length_most : (n k m r : ℕ) → m ≡ k → m ≤ 31 → r ≡ length_for n k → r ≤ 128
length_most n k m r e h is = rw (is, length_by n k) (by_cond (λ m. m ≤ 128) (eqb k 0) (λ _. omega arith) (λ _. omega (arith, written_header_most n)))

-- what two lists of blocks take, one behind the other
taken_both : (bs cs : List Block) → taken (bs ++ cs) ≡ taken bs + taken cs
unfolding taken
taken_both [] cs = omega arith
taken_both (b ∷ bs) cs = let e = taken_both bs cs in omega arith

-- blocks that may stand in a packet take their lengths,
taken_lengths : (bs : List Block) → every carriable bs ≡ true → taken bs ≡ blocks_length bs
unfolding every taken blocks_length
taken_lengths [] e = refl
taken_lengths (b ∷ bs) e =
    let t = both (carriable b) (every carriable bs) e in
    let z : carriable b ≡ true = t.0 in
    rw z (ap (λ (n : ℕ). block_length b + n) (taken_lengths bs t.1))

-- and where one may not, all of it is taken
taken_all : (bs : List Block) → every carriable bs ≡ false → 128 ≤ taken bs
unfolding every taken
taken_all [] e = absurd (false≢true (sym e))
taken_all (b ∷ bs) e =
    by_test (carriable b)
    (λ t. let z = taken_all bs (rw t at e) in rw t (omega arith))
    (λ f. rw f (omega arith))

-- the packet that blocks make, with its header
packet_length_test : (bs : List Block) → (let p : Packet = record { sequence = 0; blocks = bs } in leb (packet_length p) 128 ≡ leb (1 + blocks_length bs) 128)
unfolding packet_length blocks_length
packet_length_test [] = refl
packet_length_test (b ∷ bs) = rw (ne_eqb (suc (length bs)) 0 (λ e. omega arith))

-- a packet keeps the limits where what is taken of it is not more than there is
pub valid_taken : (bs : List Block) → valid_packet (record { sequence = 0; blocks = bs }) ≡ leb (1 + taken bs) 128
unfolding valid_packet
valid_taken bs =
    by_test (every carriable bs)
    (λ t. rw (t, packet_length_test bs, taken_lengths bs t))
    (λ f. rw f (sym (lt-leb (1 + taken bs) 128 (omega (arith, taken_all bs f)))))

module _ (ns ss : List ℕ) (p n : ℕ) where
  -- what is left of a packet from block b on
  abbrev pub rest : ℕ → ℕ
  rest b = taken (blocks_at ns ss p b (n - b))

  module _ (b l : ℕ) (e : 1 + taken (blocks_at ns ss p 0 n) ≡ l + rest b) where
    module _ (r : ℕ) (is : r ≡ taken (block_at ns ss (p * 256 + b))) (h : b < n) where
      -- what is left is this block and the rest
      one_more : rest b ≡ r + rest (b + 1)
      unfolding blocks_at count_from flat_map
      one_more =
          let z : n - b ≡ suc (n - (b + 1)) = omega arith in
          let w : b + 1 ≡ suc b = omega arith in
          let u : p * 256 + b ≡ place_of p b = omega arith in
          rw z (taken_both (block_at ns ss (place_of p b)) (blocks_at ns ss p (suc b) (n - (b + 1))) ∙ rw (is, u, w))

      -- one block more
      pub rest_more : 1 + taken (blocks_at ns ss p 0 n) ≡ l + r + rest (b + 1)
      rest_more = omega (arith, one_more)

      -- so much that it is too much
      pub rest_over : 128 < l + r → false ≡ valid_packet (record { sequence = 0; blocks = blocks_at ns ss p 0 n })
      rest_over g = sym (valid_taken (blocks_at ns ss p 0 n) ∙ lt-leb (1 + taken (blocks_at ns ss p 0 n)) 128 (omega (arith, one_more)))

    -- no block is left
    pub rest_none : n ≤ b → l ≤ 128 → true ≡ valid_packet (record { sequence = 0; blocks = blocks_at ns ss p 0 n })
    unfolding blocks_at count_from flat_map taken
    rest_none h g =
        let z : n - b ≡ 0 = omega arith in
        let k : 1 + taken (blocks_at ns ss p 0 n) ≡ l + 0 = rw z at e in
        sym (valid_taken (blocks_at ns ss p 0 n) ∙ le-leb (1 + taken (blocks_at ns ss p 0 n)) 128 (omega arith))
