-- What a push gives is a packet within the limits. Assumes nothing.
use mathlib.Core.Path.{◌≡◌, refl, sym, ap, ◌∙◌}
use mathlib.Core.Bool.{Bool, true, false, not, ◌&&◌, ◌||◌, true≢false}
use mathlib.Core.List.{List, [], ◌∷◌, ◌++◌}
use mathlib.Core.Option.{Option, none, some}
use Prim.Native.Nat.{ℕ, zero, suc, ◌+◌, ◌-◌, ◌≤◌, ◌<◌}
use native.Mathlib.Omega.{arith}
use lib.Dec.{eqb, leb, ltb}
use lib.ListN.{length, get_or, set, length-append, length-set}
use borrow.Author.Tests.{ne_eqb, eqb-true, eqb-false, leb-true, ltb-false}
use Rattle.model.specs.Lists.{every}
use Rattle.model.specs.Block.{Block, valid_block, block_length, block_room, with_run}
use Rattle.model.specs.Packet.{Packet, packet_length, packet_room, blocks_length, carriable, with_blocks, push_block, push_new, push_at, push_run_at, push_run_by, latest_of, latest, no_block, block_at, extended}
use Rattle.model.proofs.Cases.{by_test, by_cond, both, and_both, Gives}
use Rattle.model.proofs.Lists.{every_append, every_set, every_at}
use Rattle.model.proofs.Blocks.{Carriable, carriable_facts, facts_carriable, written_block_length, written_header_most, written_length}
use Rattle.model.proofs.Packets.{Valid, length_some}

-- blocks of a packet, one behind the others
carriable_append : (bs : List Block) (b : Block) → every carriable bs ≡ true → Carriable b → every carriable (bs ++ (b ∷ [])) ≡ true
unfolding every
carriable_append bs b ok c = every_append carriable bs (b ∷ []) ok (and_both (carriable b) true (facts_carriable b c) refl)

lengths_append : (bs : List Block) (b : Block) → blocks_length (bs ++ (b ∷ [])) ≡ blocks_length bs + block_length b
unfolding blocks_length
lengths_append [] b = omega arith
lengths_append (x ∷ bs) b = omega (arith, lengths_append bs b)

-- a block has at most 33 bytes
block_most : (b : Block) → Carriable b → block_length b ≤ 33
block_most b c = omega (arith, written_block_length b c.filled, written_length b, written_header_most b.number, c.small)

no_lengths : (bs : List Block) → length bs ≡ 0 → blocks_length bs ≡ 0
unfolding blocks_length
no_lengths [] e = refl
no_lengths (b ∷ bs) e = absurd (omega arith)

-- a block within the limits that has a payload may stand in a packet
not_both : (a b : Bool) → not a || b ≡ true → b ≡ false → a ≡ false
not_both false b e f = refl
not_both true b e f = absurd (true≢false (sym e ∙ f))

pub valid_carriable : (b : Block) → valid_block b ≡ true → (length b.payload ≡ 0 → ⊥) → Carriable b
unfolding valid_block
valid_carriable b v full =
    let n : ℕ = b.number in
    let k : ℕ = length b.payload in
    let x = both (leb n 63 && leb k 31) (not (eqb n 0) || eqb k 0) v in
    let y = both (leb n 63) (leb k 31) x.0 in
    let z : (n ≡ 0 → ⊥) = eqb-false n 0 (not_both (eqb n 0) (eqb k 0) x.1 (ne_eqb k 0 full)) in
    record { named = omega arith; known = leb-true n 63 y.0; filled = omega arith; small = leb-true k 31 y.1 }

-- one of the blocks in another's place
carriable_set : (bs : List Block) (i : ℕ) (b : Block) → every carriable bs ≡ true → Carriable b → every carriable (set bs i b) ≡ true
carriable_set bs i b ok c = every_set carriable bs i b ok (facts_carriable b c)

lengths_set : (bs : List Block) (i : ℕ) (b : Block) → i < length bs → blocks_length (set bs i b) + block_length (get_or bs i no_block) ≡ blocks_length bs + block_length b
unfolding blocks_length
lengths_set [] i b h = absurd (omega arith)
lengths_set (x ∷ bs) zero b h = omega arith
lengths_set (x ∷ bs) (suc i) b h = omega (arith, lengths_set bs i b (omega arith))

carriable_at : (bs : List Block) (i : ℕ) → every carriable bs ≡ true → i < length bs → Carriable (get_or bs i no_block)
carriable_at bs i ok h = carriable_facts (get_or bs i no_block) (every_at carriable bs i no_block ok h)

-- a block that takes a run
grown_block : (run : List ℕ) (b : Block) → Carriable b → length run ≤ block_room b → Carriable (with_run run b)
grown_block run b c h =
    let n : length (b.payload ++ run) ≡ length b.payload + length run = length-append b.payload run in
    record { named = c.named; known = c.known; filled = omega (arith, c.filled); small = omega (arith, c.small) }

grown_length : (run : List ℕ) (b : Block) → Carriable b → block_length (with_run run b) ≡ block_length b + length run
grown_length run b c =
    let n : length (b.payload ++ run) ≡ length b.payload + length run = length-append b.payload run in
    omega (arith, written_block_length (with_run run b) (omega (arith, c.filled)), written_length (with_run run b), written_block_length b c.filled, written_length b)

-- the latest block is one of the packet's
pub latest_within : (n k : ℕ) (bs : List Block) (i : ℕ) → latest_of n k bs ≡ some i → i < k
unfolding latest_of
latest_within n zero bs i e = let z : ◌≡◌ {A = ℕ} 0 1 = cc in absurd (omega arith)
latest_within n (suc k) bs i e =
    by_test (eqb (get_or bs k no_block).number n)
    (λ q. let f : some k ≡ some i = sym (rw q) ∙ e in let z : k ≡ i = cc in omega arith)
    (λ q. let f : latest_of n k bs ≡ some i = sym (rw q) ∙ e in omega (arith, latest_within n k bs i f))

module _ (p : Packet) (v : Valid p) where
  -- the packet with a block more
  appended_valid : (b : Block) → Carriable b → block_length b ≤ packet_room p → Valid (with_blocks (p.blocks ++ (b ∷ [])) p)
  appended_valid b c h =
      let q : Packet = with_blocks (p.blocks ++ (b ∷ [])) p in
      let l : packet_length q ≡ 1 + (blocks_length p.blocks + block_length b) = length_some q (omega (arith, length-append p.blocks (b ∷ []))) ∙ ap (λ k. 1 + k) (lengths_append p.blocks b) in
      record {
        sequence = v.sequence;
        blocks = carriable_append p.blocks b v.blocks c;
        length =
            by_test (eqb (length p.blocks) 0)
            (λ e. omega (arith, no_lengths p.blocks (eqb-true _ _ e), block_most b c))
            (λ e. omega (arith, length_some p (omega (arith, eqb-false (length p.blocks) 0 e)), v.length));
      }

  -- a block pushed
  pub block_valid : (b : Block) → valid_block b ≡ true → Gives Valid (push_block b p)
  unfolding push_block
  block_valid b ok =
      by_cond (Gives Valid) (ltb (packet_room p) (block_length b)) (λ _. tt)
      (λ r. by_cond (Gives Valid) (eqb (length b.payload) 0) (λ _. tt) (λ e. appended_valid b (valid_carriable b ok (eqb-false _ _ e)) (ltb-false _ _ r)))

  module _ (n : ℕ) (known : n ≤ 63) (run : List ℕ) (full : 1 ≤ length run) where
    -- a run as a new block
    new_valid : Gives Valid (push_new n run p)
    unfolding push_new
    new_valid =
        by_cond (Gives Valid) (eqb n 0) (λ _. tt)
        (λ z. by_cond (Gives Valid) (ltb 31 (length run)) (λ _. tt)
        (λ s. by_cond (Gives Valid) (ltb (packet_room p) (block_length (record { number = n; payload = run }))) (λ _. tt)
        (λ r. appended_valid (record { number = n; payload = run }) (record { named = omega (arith, eqb-false n 0 z); known = known; filled = full; small = ltb-false _ _ s }) (ltb-false _ _ r))))

    -- a run to the block at a place
    at_valid : (i : ℕ) → i < length p.blocks → Gives Valid (push_at i run p)
    unfolding push_at
    at_valid i there =
        by_cond (Gives Valid) (ltb (packet_room p) (length run)) (λ _. tt)
        (λ r. by_cond (Gives Valid) (ltb (block_room (block_at p i)) (length run)) (λ _. tt)
        (λ s. let b = block_at p i in
        let c = carriable_at p.blocks i v.blocks there in
        let q : Packet = extended i run p in
        let few : length run ≤ packet_room p = ltb-false _ _ r in
        let l : packet_length q ≡ 1 + blocks_length (set p.blocks i (with_run run (block_at p i))) = length_some q (rw length-set (omega arith)) in
        record {
          sequence = v.sequence;
          blocks = carriable_set p.blocks i _ v.blocks (grown_block run b c (ltb-false _ _ s));
          length = omega (arith, lengths_set p.blocks i (with_run run (block_at p i)) there, grown_length run (block_at p i) c, length_some p (omega arith), v.length);
        }))

    placed_valid : (needs_room : Bool) (o : Option ℕ) → latest n p ≡ o → Gives Valid (push_run_at needs_room n run p o)
    unfolding push_run_at
    placed_valid needs_room none e = new_valid
    placed_valid needs_room (some i) e =
        by_cond (Gives Valid) (needs_room && ltb (block_room (block_at p i)) (length run)) (λ _. new_valid) (λ _. at_valid i (latest_within n (length p.blocks) p.blocks i e))

  -- a run pushed, in either form
  pub run_valid : (needs_room : Bool) (n : ℕ) (run : List ℕ) → Gives Valid (push_run_by needs_room n run p)
  unfolding push_run_by
  run_valid needs_room n run =
      by_cond (Gives Valid) (ltb 63 n) (λ _. tt)
      (λ k. by_cond (Gives Valid) (eqb (length run) 0) (λ _. tt)
      (λ s. placed_valid n (ltb-false _ _ k) run (omega (arith, eqb-false (length run) 0 s)) needs_room (latest n p) refl))
