-- What follows of the definitions of a block: how a header reads, how long a block is, and that a block written is read back. Assumes nothing.
use mathlib.Core.Path.{◌≡◌, refl, ap, ◌∙◌}
use mathlib.Core.Bool.{true, false, cond, not, ◌&&◌}
use mathlib.Core.List.{List, ◌∷◌, ◌++◌}
use Prim.Native.Nat.{ℕ, ◌+◌, ◌*◌, ◌≤◌, ◌<◌}
use native.Mathlib.Omega.{arith}
use lib.Dec.{eqb, leb, ltb}
use lib.ListN.{length, get_or, drop, length-append}
use lib.Seq.{take_at}
use borrow.Author.Tests.{eq-eqb, ne_eqb, le-leb, lt-ltb, le-ltb, leb-true, eqb-true, ltb-false, not-true}
use Rattle.model.specs.Said.{gave, refused, block_header_short, block_body_short}
use Rattle.model.specs.Block.{Block, valid_block, top_number, block_size, header_length, number_in, is_header_short, needed, is_short, block_in, short_at, read_block_at, written_header, written_block, block_length}
use Rattle.model.specs.Packet.{is_null_header, carriable}
use Rattle.model.proofs.Cases.{by_test, by_cond, both}

-- what a block has to be to stand in a packet, as facts on numbers
pub record Carriable (b : Block) : Type 0 where
  pub named : 1 ≤ b.number
  pub known : b.number ≤ 63
  pub filled : 1 ≤ length b.payload
  pub small : length b.payload ≤ 31

-- what passes the test is so,
pub carriable_facts : (b : Block) → carriable b ≡ true → Carriable b
unfolding carriable
carriable_facts b e =
    let n : ℕ = b.number in
    let k : ℕ = length b.payload in
    let v = both (leb 1 n && leb n 63) (leb 1 k && leb k 31) e in
    let w = both (leb 1 n) (leb n 63) v.0 in
    let x = both (leb 1 k) (leb k 31) v.1 in
    record { named = leb-true 1 n w.0; known = leb-true n 63 w.1; filled = leb-true 1 k x.0; small = leb-true k 31 x.1 }

-- and what is so passes the test
pub facts_carriable : (b : Block) → Carriable b → carriable b ≡ true
unfolding carriable
facts_carriable b f = simp (le-leb _ _ f.named, le-leb _ _ f.known, le-leb _ _ f.filled, le-leb _ _ f.small)

-- a block of a packet breaks no limit
pub carriable_valid : (b : Block) → Carriable b → valid_block b ≡ true
unfolding valid_block
carriable_valid b f =
    let n : eqb b.number 0 ≡ false = ne_eqb b.number 0 (λ e. omega (arith, f.named)) in
    simp (le-leb _ _ f.known, le-leb _ _ f.small, n)

-- a header of two bytes, and of one
pub header_two : (h : ℕ) → top_number h ≡ 7 → (block_size h ≡ 0 → ⊥) → header_length h ≡ 2
unfolding header_length
header_two h t s = simp (eq-eqb _ _ t, ne_eqb _ _ s)

-- one byte where the number is not 7
pub header_one : (h : ℕ) → (top_number h ≡ 7 → ⊥) → header_length h ≡ 1
unfolding header_length
header_one h t = simp (ne_eqb _ _ t)

-- one byte where the size is 0
pub header_bare : (h : ℕ) → block_size h ≡ 0 → header_length h ≡ 1
unfolding header_length
header_bare h s = by_test (eqb (top_number h) 7) (λ e. simp (e, eq-eqb _ _ s)) (λ e. simp e)

-- a header has one byte or two
pub header_bytes : (h : ℕ) → (1 ≤ header_length h) × (header_length h ≤ 2)
unfolding header_length
header_bytes h = by_cond (λ n. (1 ≤ n) × (n ≤ 2)) (eqb (top_number h) 7 && not (eqb (block_size h) 0)) (λ _. omega arith) (λ _. omega arith)

-- a header of number 0 is null once its bytes are there,
pub null_header : (d : List ℕ) → header_length (get_or d 0 0) ≤ length d → number_in d ≡ 0 → is_null_header d ≡ true
unfolding is_null_header is_header_short
null_header d there z = simp (le-ltb _ _ there, eq-eqb _ _ z)

-- and only then
pub null_facts : (d : List ℕ) → is_null_header d ≡ true → (header_length (get_or d 0 0) ≤ length d) × (number_in d ≡ 0)
unfolding is_null_header is_header_short
null_facts d e =
    let f = both (not (ltb (length d) (header_length (get_or d 0 0)))) (eqb (number_in d) 0) e in
    (ltb-false _ _ (not-true _ f.0), eqb-true _ _ f.1)

-- so one of another number is not
pub header_named : (d : List ℕ) → (number_in d ≡ 0 → ⊥) → is_null_header d ≡ false
header_named d n = by_test (is_null_header d) (λ e. absurd (n (null_facts d e).1)) (λ e. e)

-- bytes that are read as a block, at any offset
module _ (offset : ℕ) (d : List ℕ) where
  -- of the header some are missing
  pub header_missing : length d < header_length (get_or d 0 0) → read_block_at offset d ≡ refused (block_header_short (header_length (get_or d 0 0)) (length d) offset)
  unfolding read_block_at short_at is_short needed is_header_short
  header_missing h = simp (lt-ltb _ _ h)

  -- the header is there, and of the body some are missing
  pub body_missing : header_length (get_or d 0 0) ≤ length d → length d < header_length (get_or d 0 0) + block_size (get_or d 0 0)
      → read_block_at offset d ≡ refused (block_body_short (header_length (get_or d 0 0) + block_size (get_or d 0 0)) (length d) offset)
  unfolding read_block_at short_at is_short needed is_header_short
  body_missing k h = simp (le-ltb _ _ k, lt-ltb _ _ h)

  -- none is missing
  pub read_whole : header_length (get_or d 0 0) + block_size (get_or d 0 0) ≤ length d → read_block_at offset d ≡ gave (block_in d)
  unfolding read_block_at is_short needed is_header_short
  read_whole h = simp (le-ltb (length d) (header_length (get_or d 0 0)) (omega arith), le-ltb _ _ h)

-- no byte is missing
pub not_short : (d : List ℕ) → is_short d ≡ false → needed d ≤ length d
unfolding is_short
not_short d e = ltb-false _ _ e

-- what a block is written in
pub written_short : (b : Block) → b.number < 7 → written_block b ≡ (b.number * 32 + length b.payload) ∷ b.payload
unfolding written_block written_header
written_short b h = simp (lt-ltb _ _ h)

-- numbers 7 to 63
pub written_long : (b : Block) → 7 ≤ b.number → written_block b ≡ (0xE0 + length b.payload) ∷ b.number ∷ b.payload
unfolding written_block written_header
written_long b h = simp (le-ltb _ _ h)

-- how long the header is written
pub header_written : (number size : ℕ) → length (written_header number size) ≡ cond (ltb number 7) 1 2
unfolding written_header
header_written number size = by_test (ltb number 7) (λ e. rw e) (λ e. rw e)

-- two bytes at the most
pub written_header_most : (n : ℕ) → cond (ltb n 7) 1 2 ≤ 2
written_header_most n = by_cond (λ k. k ≤ 2) (ltb n 7) (λ _. omega arith) (λ _. omega arith)

-- and how long the block
pub written_length : (b : Block) → length (written_block b) ≡ cond (ltb b.number 7) 1 2 + length b.payload
unfolding written_block
written_length b =
    length-append (written_header b.number (length b.payload)) b.payload
    ∙ ap (λ n. n + length b.payload) (header_written b.number (length b.payload))

-- with a payload its length is that of what it is written in
pub written_block_length : (b : Block) → 1 ≤ length b.payload → block_length b ≡ length (written_block b)
unfolding block_length
written_block_length b h = simp (ne_eqb (length b.payload) 0 (λ e. omega arith))

-- without payload it is 0
pub block_length_none : (b : Block) → length b.payload ≡ 0 → block_length b ≡ 0
unfolding block_length
block_length_none b h = simp (eq-eqb _ _ h)

-- the length for numbers 0 to 6
pub length_short : (b : Block) → b.number < 7 → 1 ≤ length b.payload → block_length b ≡ 1 + length b.payload
length_short b n h = written_block_length b h ∙ rw (written_short b n) (omega arith)

-- the length for numbers 7 to 63
pub length_long : (b : Block) → 7 ≤ b.number → 1 ≤ length b.payload → block_length b ≡ 2 + length b.payload
length_long b n h = written_block_length b h ∙ rw (written_long b n) (omega arith)

-- bytes d that begin with a header of k bytes for number n and the payload p
module _ (d p rest : List ℕ) (n k : ℕ) (head : header_length (get_or d 0 0) ≡ k) (size : block_size (get_or d 0 0) ≡ length p) (number : number_in d ≡ n)
    (named : n ≡ 0 → ⊥) (body : drop k d ≡ p ++ rest) (enough : k + length p ≤ length d) where
  -- it is the block of that number and payload
  pub block_at : block_in d ≡ record { number = n; payload = p }
  unfolding block_in
  block_at = simp (number, ne_eqb _ _ named, head, size, body, take_at p rest (length p) refl)

  -- and the reader gives it, wherever it stands
  pub read_at : (offset : ℕ) → read_block_at offset d ≡ gave (record { number = n; payload = p })
  read_at offset = rw (read_whole offset d (omega (arith, head, size)), block_at)
