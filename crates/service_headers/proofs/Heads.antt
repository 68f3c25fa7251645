-- What the header of a block says, by each way out of its reader. Assumes nothing.
use mathlib.Core.Path.{◌≡◌, sym, ◌∙◌}
use mathlib.Core.Bool.{false, cond}
use mathlib.Core.List.{List}
use Prim.Native.Nat.{ℕ, suc, ◌+◌, ◌*◌, ◌/◌, ◌%◌, ◌≤◌, ◌<◌}
use native.Mathlib.Numerals.{add-one}
use native.Mathlib.Omega.{arith}
use lib.Dec.{eqb, ltb}
use lib.ListN.{length, get_or, set, replicate, length-replicate, length-set}
use lib.Seq.{sets, set_out}
use borrow.Author.Tests.{eq-eqb, ne_eqb, lt-ltb, le-ltb}
use Rattle.model.specs.Block.{Block, block_size, header_length, number_in, is_header_short, is_short, written_header, written_block, block_length}
use Rattle.model.specs.Packet.{is_null_header}
use Rattle.model.proofs.Blocks.{header_one, header_two, header_bare, header_written, written_header_most, written_length}
use Rattle.service_headers.specs.Head.{length_for}
use Rattle.basics.proofs.Runs.{sets_append}

-- the header's own length
pub two_bytes : (h : ℕ) → h / 32 % 8 ≡ 7 → (h % 32 ≡ 0 → ⊥) → 2 ≡ header_length h
two_bytes h t s = sym (header_two h t s)

-- one byte where the number is not 7
pub one_byte : (h : ℕ) → (h / 32 % 8 ≡ 7 → ⊥) → 1 ≡ header_length h
one_byte h t = sym (header_one h t)

-- one byte where the size is 0
pub bare_byte : (h : ℕ) → h % 32 ≡ 0 → 1 ≡ header_length h
bare_byte h s = sym (header_bare h s)

-- a header is written in one byte or in two
pub written_most : (n start : ℕ) → start ≡ cond (ltb n 7) 1 2 → start ≤ 2
written_most n start e = rw e (written_header_most n)

-- whether the header of bytes of this many is null that begin so
module _ (d : List ℕ) (n h second start : ℕ) (is : length d ≡ n) (first : h ≡ get_or d 0 0) (e : start ≡ header_length h) where
  -- it is cut
  pub null_cut : n < start → false ≡ is_null_header d
  unfolding is_null_header is_header_short
  null_cut k = rw (← first, ← e, is) (simp (lt-ltb _ _ k))

  -- two bytes: the second says
  pub null_two : start ≤ n → (2 ≤ n → second ≡ get_or d 1 0) → start ≡ 2 → eqb (second % 64) 0 ≡ is_null_header d
  unfolding is_null_header is_header_short number_in
  null_two k next t = rw (← first, ← e, is, ← next (omega arith)) (simp (le-ltb _ _ k, eq-eqb _ _ t))

  -- one byte: its top bits do
  pub null_one : start ≤ n → (start ≡ 2 → ⊥) → eqb (h / 32 % 8) 0 ≡ is_null_header d
  unfolding is_null_header is_header_short number_in
  null_one k t = rw (← first, ← e, is) (simp (le-ltb _ _ k, ne_eqb _ _ t))

-- a header laid into a list: of one byte, of two, and of two where there is room for one
module _ (l : List ℕ) (at number size : ℕ) where
  -- one byte
  pub laid_one : number < 7 → set l at (number * 32 + size) ≡ sets l at (written_header number size)
  unfolding written_header
  laid_one h = simp (lt-ltb _ _ h)

  -- two bytes
  pub laid_two : 7 ≤ number → set (set l at (224 + size)) (at + 1) number ≡ sets l at (written_header number size)
  unfolding written_header
  laid_two h = simp (le-ltb _ _ h, add-one)

  -- two bytes, of which one has room
  pub laid_cut : 7 ≤ number → length l ≤ at + 1 → set l at (224 + size) ≡ sets l at (written_header number size)
  unfolding written_header
  laid_cut h k = simp (le-ltb _ _ h) (sym (set_out (set l at (224 + size)) (suc at) number (rw length-set (omega arith))))

-- the length of a block, by its number and the size of its payload alone
length_told : (b : Block) → block_length b ≡ cond (eqb (length b.payload) 0) 0 (cond (ltb b.number 7) 1 2 + length b.payload)
unfolding block_length
length_told b = rw (written_length b)

-- whatever bytes stand for it
pub length_by : (n k : ℕ) → length_for n k ≡ cond (eqb k 0) 0 (cond (ltb n 7) 1 2 + k)
length_by n k = length_told (record { number = n; payload = replicate k 0 }) ∙ rw (length-replicate {A = ℕ} k 0)

-- so that it is the block's
pub length_of : (b : Block) → block_length b ≡ length_for b.number (length b.payload)
length_of b = length_told b ∙ sym (length_by b.number (length b.payload))

-- a header and the payload behind it are the block as written
pub laid_block : (b : Block) (l : List ℕ) (at start size : ℕ) → start ≡ cond (ltb b.number 7) 1 2 → size ≡ length b.payload
    → sets (sets l at (written_header b.number size)) (at + start) b.payload ≡ sets l at (written_block b)
unfolding written_block
laid_block b l at start size p q =
    let n : length (written_header b.number (length b.payload)) ≡ start = header_written b.number (length b.payload) ∙ sym p in
    rw q (sym (sets_append (written_header b.number (length b.payload)) b.payload l at ∙ rw n))

-- what is known where a header was read
pub record Headed (d : List ℕ) (n st sz : ℕ) : Type 0 where
  pub whole : is_short d ≡ false
  pub number : number_in d ≡ n
  pub start : header_length (get_or d 0 0) ≡ st
  pub size : block_size (get_or d 0 0) ≡ sz
  pub fits : st + sz ≤ length d
  pub some : 1 ≤ st
  pub small : sz ≤ 31
