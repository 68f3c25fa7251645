-- How the blocks of a packet are read one after another, by either reader. Assumes nothing.
use mathlib.Core.Path.{◌≡◌, refl, sym, ap, subst, ◌∙◌}
use mathlib.Core.Bool.{true, false}
use mathlib.Core.List.{List, [], ◌∷◌, ◌++◌, append_assoc}
use Prim.Native.Nat.{ℕ, zero, suc, ◌+◌, ◌-◌, ◌≤◌}
use native.Mathlib.Omega.{arith}
use lib.Dec.{eqb}
use lib.ListN.{length, drop, length-append}
use lib.Seq.{drop-nil, drop_at}
use borrow.Author.Tests.{ne_eqb}
use Rattle.model.specs.Lists.{every}
use Rattle.model.specs.Said.{Outcome, gave, and_then, mapped}
use Rattle.model.specs.Block.{Block, read_block_at, written_block}
use Rattle.model.specs.Packet.{Way, plainly, kept, blocks_from, written_blocks, carriable}
use Rattle.model.proofs.Cases.{by_test, both, mapped_mapped, mapped_same, mapped_by}
use Rattle.model.proofs.Blocks.{Carriable, carriable_facts}
use Rattle.model.proofs.BlockTrip.{read_written, written_some, plain_passes}

module _ (way : Way) where
  -- bytes that are passed over
  pub blocks_after : (offset k : ℕ) (d : List ℕ) → blocks_from way offset k d ≡ blocks_from way (offset + k) 0 (drop k d)
  unfolding blocks_from
  blocks_after offset k [] = rw (drop-nil k)
  blocks_after offset zero (x ∷ d) = let e : offset + 0 ≡ offset = omega arith in rw e
  blocks_after offset (suc k) (x ∷ d) = let e : offset + suc k ≡ suc offset + k = omega arith in rw e (blocks_after (suc offset) k d)

  -- blocks are read until no byte is left [P4]
  pub blocks_none : (offset : ℕ) → blocks_from way offset 0 [] ≡ gave []
  unfolding blocks_from
  blocks_none offset = refl

  -- a move over the head and the rest
  less_one : (m : ℕ) (x : ℕ) (d : List ℕ) → 1 ≤ m → drop (m - 1) d ≡ drop m (x ∷ d)
  less_one zero x d h = absurd (omega arith)
  less_one (suc m) x d h = let e : suc m - 1 ≡ m = omega arith in rw e

  -- where the reader stops all that is left is fill [T2]
  pub blocks_stop : (offset : ℕ) (d : List ℕ) → way.stops d ≡ true → blocks_from way offset 0 d ≡ gave []
  unfolding blocks_from
  blocks_stop offset [] h = refl
  blocks_stop offset (x ∷ d) h = rw h

  -- else there are the block at the head, and then the blocks from where it moves on to
  pub blocks_next : (offset : ℕ) (d : List ℕ) → 1 ≤ length d → way.stops d ≡ false → 1 ≤ way.move d
      → blocks_from way offset 0 d ≡ and_then (read_block_at offset d) (λ b. mapped (kept b) (blocks_from way (offset + way.move d) 0 (drop (way.move d) d)))
  unfolding blocks_from
  blocks_next offset [] h on k = absurd (omega arith)
  blocks_next offset (x ∷ d) h on k =
      let m : ℕ = way.move (x ∷ d) in
      let e : suc offset + (m - 1) ≡ offset + m = omega arith in
      let rest : blocks_from way (suc offset) (m - 1) d ≡ blocks_from way (offset + m) 0 (drop m (x ∷ d)) = blocks_after (suc offset) (m - 1) d ∙ rw (e, less_one m x d k) in
      rw on (ap (λ (o : Outcome (List Block)). and_then (read_block_at offset (x ∷ d)) (λ b. mapped (kept b) o)) rest)

-- bytes that the reader takes for the block b where these others follow
pub record Takes (way : Way) (d rest : List ℕ) (b : Block) : Type 0 where
  pub some : 1 ≤ length d
  pub met : way.stops (d ++ rest) ≡ false
  pub read : (offset : ℕ) → read_block_at offset (d ++ rest) ≡ gave b
  pub moves : way.move (d ++ rest) ≡ length d

-- bytes that are blocks one behind the other, each as `One` says, and those of the blocks that have a payload
pub data Row (One : List ℕ → Block → Type 0) : List ℕ → List Block → Type 0 where
  nothing : Row One [] []
  more : (d rest : List ℕ) (b : Block) (bs : List Block) → One d b → Row One rest bs → Row One (d ++ rest) (kept b bs)

-- a row of blocks of one kind is one of any kind that each of them is of
pub row_each : {One Other : List ℕ → Block → Type 0} → ((d : List ℕ) (b : Block) → One d b → Other d b) → {front : List ℕ} {bs : List Block} → Row One front bs → Row Other front bs
row_each f nothing = nothing
row_each f (more d rest b bs x r) = more d rest b bs (f d b x) (row_each f r)

-- a block kept before others
kept_before : (b : Block) (bs cs : List Block) → kept b (bs ++ cs) ≡ kept b bs ++ cs
kept_before b bs cs = by_test (eqb (length b.payload) 0) (λ e. rw e) (λ e. rw e)

module _ (way : Way) where
  -- one block is read, and then what follows it
  block_then : (d rest : List ℕ) (b : Block) → Takes way d rest b → (offset : ℕ)
      → blocks_from way offset 0 (d ++ rest) ≡ mapped (kept b) (blocks_from way (offset + length d) 0 rest)
  block_then d rest b t offset =
      let e = t.moves in
      let at : drop (way.move (d ++ rest)) (d ++ rest) ≡ rest = rw e (drop_at d rest (length d) refl) in
      blocks_next way offset (d ++ rest) (omega (arith, length-append d rest, t.some)) t.met (omega (arith, t.some)) ∙ rw (t.read offset, at, e)

  -- a row of them is read, and then what follows it
  module _ (One : List ℕ → Block → Type 0) (takes : (d : List ℕ) (b : Block) → One d b → (rest : List ℕ) → Takes way d rest b) where
    pub row_then : {front : List ℕ} {bs : List Block} → Row One front bs → (offset : ℕ) (rest : List ℕ)
        → blocks_from way offset 0 (front ++ rest) ≡ mapped (λ cs. bs ++ cs) (blocks_from way (offset + length front) 0 rest)
    row_then nothing offset rest = let e : offset + 0 ≡ offset = omega arith in rw e (sym (mapped_same (blocks_from way offset 0 rest)))
    row_then (more d front b bs x r) offset rest =
        let next : ℕ = offset + length d in
        let e : offset + length (d ++ front) ≡ next + length front = omega (arith, length-append d front) in
        rw (append_assoc, e)
        (block_then d (front ++ rest) b (takes d b x (front ++ rest)) offset ∙ ap (mapped (kept b)) (row_then r next rest)
        ∙ mapped_mapped _ _ (blocks_from way (next + length front) 0 rest) ∙ mapped_by (kept_before b bs) (blocks_from way (next + length front) 0 rest))

-- a block that may stand in a packet, as it is written
pub record Written (d : List ℕ) (b : Block) : Type 0 where
  pub is : d ≡ written_block b
  pub carriable : Carriable b

-- the plain reader takes it for the block
pub plain_takes : (d : List ℕ) (b : Block) → Written d b → (rest : List ℕ) → Takes plainly d rest b
plain_takes d b w rest =
    let f = w.carriable in
    rw w.is (record { some = omega (arith, written_some b rest f); met = refl; read = read_written b rest f; moves = plain_passes b rest f })

-- written blocks are such a row
pub written_row : (bs : List Block) → every carriable bs ≡ true → Row Written (written_blocks bs) bs
unfolding every written_blocks
written_row [] ok = nothing
written_row (b ∷ bs) ok =
    let f = both _ _ ok in
    let c = carriable_facts b f.0 in
    let keeps : kept b bs ≡ b ∷ bs = simp (ne_eqb (length b.payload) 0 (λ z. omega (arith, c.filled))) in
    subst (Row Written (written_block b ++ written_blocks bs)) keeps (more (written_block b) (written_blocks bs) b bs (record { is = refl; carriable = c }) (written_row bs f.1))
