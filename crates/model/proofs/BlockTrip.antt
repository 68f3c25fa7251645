-- A block that is written is read back, whatever follows it, and the plain reader moves on past it. Assumes nothing.
use mathlib.Core.Path.{◌≡◌, refl}
use mathlib.Core.List.{List, ◌∷◌, ◌++◌}
use Prim.Native.Nat.{ℕ, suc, ◌+◌, ◌*◌, ◌%◌, ◌≤◌, ◌<◌}
use native.Mathlib.Omega.{arith}
use lib.Dec.{ltb}
use lib.ListN.{length, get_or, length-append}
use borrow.Author.Tests.{ne_eqb, ltb-true, ltb-false}
use Rattle.model.specs.Said.{gave}
use Rattle.model.specs.Block.{Block, top_number, block_size, header_length, number_in, block_in, read_block_at, written_block}
use Rattle.model.specs.Packet.{plain_move}
use Rattle.model.proofs.Cases.{by_test}
use Rattle.model.proofs.Blocks.{Carriable, header_one, header_two, written_short, written_long, written_block_length, block_at, read_at}

-- what is known of bytes that begin with a written block
pub record Begins (b : Block) (d : List ℕ) : Type 0 where
  pub read : (offset : ℕ) → read_block_at offset d ≡ gave b
  pub block : block_in d ≡ b
  pub long : header_length (get_or d 0 0) + block_size (get_or d 0 0) ≡ length (written_block b)

module _ (b : Block) (rest : List ℕ) (f : Carriable b) where
  -- one of number 1 to 6, behind a header of one byte
  begins_short : b.number < 7 → Begins b (written_block b ++ rest)
  unfolding number_in
  begins_short small =
      let h : ℕ = b.number * 32 + length b.payload in
      let top : top_number h ≡ b.number = omega (arith, f.small) in
      let size : block_size h ≡ length b.payload = omega (arith, f.small) in
      let one : header_length h ≡ 1 = header_one h (λ e. omega arith) in
      let number : number_in (h ∷ (b.payload ++ rest)) ≡ b.number = simp (one, top) in
      let named : (b.number ≡ 0 → ⊥) = λ e. omega (arith, f.named) in
      let enough : 1 + length b.payload ≤ suc (length (b.payload ++ rest)) = omega (arith, length-append b.payload rest) in
      rw (written_short b small)
      (record {
        read = read_at (h ∷ (b.payload ++ rest)) b.payload rest b.number 1 one size number named refl enough;
        block = block_at (h ∷ (b.payload ++ rest)) b.payload rest b.number 1 one size number named refl enough;
        long = rw (one, size, written_short b small) (omega arith);
      })

  -- one of number 7 to 63, behind a header of two
  begins_long : 7 ≤ b.number → Begins b (written_block b ++ rest)
  unfolding number_in
  begins_long large =
      let h : ℕ = 0xE0 + length b.payload in
      let top : top_number h ≡ 7 = omega (arith, f.small) in
      let size : block_size h ≡ length b.payload = omega (arith, f.small) in
      let two : header_length h ≡ 2 = header_two h top (λ e. omega (arith, f.filled)) in
      let low : b.number % 64 ≡ b.number = omega (arith, f.known) in
      let number : number_in (h ∷ b.number ∷ (b.payload ++ rest)) ≡ b.number = simp (two, low) in
      let named : (b.number ≡ 0 → ⊥) = λ e. omega (arith, f.named) in
      let enough : 2 + length b.payload ≤ suc (suc (length (b.payload ++ rest))) = omega (arith, length-append b.payload rest) in
      rw (written_long b large)
      (record {
        read = read_at (h ∷ b.number ∷ (b.payload ++ rest)) b.payload rest b.number 2 two size number named refl enough;
        block = block_at (h ∷ b.number ∷ (b.payload ++ rest)) b.payload rest b.number 2 two size number named refl enough;
        long = rw (two, size, written_long b large) (omega arith);
      })

  -- any block that may stand in a packet
  pub begins : Begins b (written_block b ++ rest)
  begins = by_test (ltb b.number 7) (λ e. begins_short (ltb-true _ _ e)) (λ e. begins_long (ltb-false _ _ e))

  -- a block that is written is read back, wherever it stands
  pub read_written : (offset : ℕ) → read_block_at offset (written_block b ++ rest) ≡ gave b
  read_written = begins.read

  -- the plain reader moves on past it
  pub plain_passes : plain_move (written_block b ++ rest) ≡ length (written_block b)
  unfolding plain_move
  plain_passes = rw begins.block (simp (ne_eqb (length b.payload) 0 (λ e. omega (arith, f.filled))) (written_block_length b f.filled))

  -- it takes at least a header byte and one of payload
  pub written_some : 2 ≤ length (written_block b)
  written_some = by_test (ltb b.number 7) (λ e. rw (written_short b (ltb-true _ _ e)) (omega (arith, f.filled))) (λ e. rw (written_long b (ltb-false _ _ e)) (omega arith))
