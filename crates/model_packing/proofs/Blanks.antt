-- Packets with zeros in place of their payloads' bytes: a push looks at numbers and lengths alone, so that what it makes of such a packet is what it
-- makes of the packet itself. Assumes nothing.
use mathlib.Core.Path.{◌≡◌, refl, sym, ap, ◌∙◌}
use mathlib.Core.Bool.{Bool, true, false, cond}
use mathlib.Core.List.{List, [], ◌∷◌, ◌++◌, map}
use mathlib.Core.Option.{Option, none, some}
use Prim.Native.Nat.{ℕ, zero, suc}
use lib.ListN.{length, get_or, set, length-append, length-map, length-replicate, replicate-append-replicate, get_or-map}
use Rattle.model.specs.Said.{Outcome, mapped}
use Rattle.model.specs.Block.{Block, block_length, with_run}
use Rattle.model.specs.Packet.{Packet, blocks_length, packet_length, no_block, latest_of, latest, push_new, push_at, push_run_at, push_run_by, push_run}
use Rattle.model.proofs.Blocks.{written_length}
use Rattle.model_packing.specs.Proposals.{zeros}

-- a block with zeros for its bytes
abbrev pub blank_block : Block → Block
blank_block b = record { number = b.number; payload = zeros (length b.payload) }

-- blocks with zeros for their bytes
abbrev pub blanks : List Block → List Block
blanks bs = map blank_block bs

-- a packet with zeros for its bytes, and without its sequence number
abbrev pub blanked : Packet → Packet
blanked p = record { sequence = 0; blocks = blanks p.blocks }

-- a map over one of two outcomes
mapped_cond : {A B : Type 0} (f : A → B) (b : Bool) (x y : Outcome A) → mapped f (cond b x y) ≡ cond b (mapped f x) (mapped f y)
mapped_cond f true x y = refl
mapped_cond f false x y = refl

-- what is made of elements with one more behind them,
pub map_more : {A B : Type 0} (f : A → B) (l : List A) (x : A) → map f (l ++ (x ∷ [])) ≡ map f l ++ (f x ∷ [])
map_more f [] x = refl
map_more f (y ∷ l) x = ap (λ m. f y ∷ m) (map_more f l x)

-- and with one of them changed
map_set : {A B : Type 0} (f : A → B) (l : List A) (i : ℕ) (x : A) → map f (set l i x) ≡ set (map f l) i (f x)
map_set f [] i x = refl
map_set f (y ∷ l) zero x = refl
map_set f (y ∷ l) (suc i) x = ap (λ m. f y ∷ m) (map_set f l i x)

-- the lengths are the same: of a block,
blank_length : (b : Block) → block_length (blank_block b) ≡ block_length b
unfolding block_length
blank_length b =
    let n : length (zeros (length b.payload)) ≡ length b.payload = length-replicate (length b.payload) 0 in
    rw (written_length (blank_block b), written_length b, n)

-- of blocks,
blanks_length : (bs : List Block) → blocks_length (blanks bs) ≡ blocks_length bs
unfolding blocks_length
blanks_length [] = refl
blanks_length (b ∷ bs) = rw (blank_length b, blanks_length bs)

-- and of a packet
blanked_length : (p : Packet) → packet_length (blanked p) ≡ packet_length p
unfolding packet_length
blanked_length p = rw (length-map p.blocks blank_block, blanks_length p.blocks)

-- the block at a place
blank_at : (bs : List Block) (i : ℕ) → get_or (blanks bs) i no_block ≡ blank_block (get_or bs i no_block)
blank_at bs i = get_or-map blank_block bs i no_block

-- the latest block of a number stands at the same place
blank_latest : (n k : ℕ) (bs : List Block) → latest_of n k (blanks bs) ≡ latest_of n k bs
unfolding latest_of
blank_latest n zero bs = refl
blank_latest n (suc k) bs = rw (blank_at bs k, blank_latest n k bs)

-- in a packet too
pub latest_blanked : (n : ℕ) (p : Packet) → latest n (blanked p) ≡ latest n p
latest_blanked n p = rw length-map (blank_latest n (length p.blocks) p.blocks)

-- a block that takes a run
blank_grown : (run : List ℕ) (b : Block) → blank_block (with_run run b) ≡ with_run (zeros (length run)) (blank_block b)
blank_grown run b =
    ap (λ (d : List ℕ). record { number = b.number; payload = d })
    (ap zeros (length-append b.payload run) ∙ sym (replicate-append-replicate (length b.payload) (length run) 0))

module _ (n : ℕ) (run : List ℕ) (p : Packet) where
  -- as many zeros as bytes
  as_many : length (zeros (length run)) ≡ length run
  as_many = length-replicate (length run) 0

  -- a run as a new block
  new_blank : mapped blanked (push_new n run p) ≡ push_new n (zeros (length run)) (blanked p)
  unfolding push_new
  new_blank = simp (mapped_cond, as_many, blanked_length p, blank_length (record { number = n; payload = run }), map_more)

  -- a run to the block at a place
  at_blank : (i : ℕ) → mapped blanked (push_at i run p) ≡ push_at i (zeros (length run)) (blanked p)
  unfolding push_at
  at_blank i = simp (mapped_cond, as_many, blanked_length p, blank_at p.blocks i, length-replicate, map_set, blank_grown)

  -- a run to the one or to the other
  placed_blank : (o : Option ℕ) → mapped blanked (push_run_at true n run p o) ≡ push_run_at true n (zeros (length run)) (blanked p) o
  unfolding push_run_at
  placed_blank none = new_blank
  placed_blank (some i) = simp (mapped_cond, as_many, blank_at p.blocks i, length-replicate, new_blank, at_blank i)

  -- A push of zeros to the packet with zeros: it is accepted where the push itself is, and gives what that gives, with zeros.
  pub pushed_blank : mapped blanked (push_run n run p) ≡ push_run n (zeros (length run)) (blanked p)
  unfolding push_run_by
  pushed_blank = simp (mapped_cond, as_many, length-map, blank_latest, placed_blank)
