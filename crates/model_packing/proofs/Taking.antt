-- What an accepted push makes of the blocks of a packet, place by place: one block takes the run, the latest of its number then, and every other stays.
-- Assumes nothing.
use mathlib.Core.Path.{◌≡◌, refl, sym, ap, ◌∙◌}
use mathlib.Core.Bool.{true, cond}
use mathlib.Core.List.{List, [], ◌∷◌, ◌++◌}
use mathlib.Core.Option.{Option, none, some}
use Prim.Native.Nat.{ℕ, zero, suc, ◌≤◌, ◌<◌}
use native.Mathlib.Omega.{arith}
use lib.Dec.{eqb, ltb}
use lib.ListN.{length, get_or, set, take, drop, length-append, length-set, get_or-append}
use lib.Seq.{drop-nil, drop-cons, drop-length, get_or-append_seam}
use borrow.Author.Tests.{eq-eqb, ne_eqb, eqb-true, eqb-false}
use Rattle.model.specs.Block.{Block, block_length, block_room, with_run}
use Rattle.model.specs.Packet.{Packet, packet_room, with_blocks, no_block, block_at, latest_of, latest, extended, push_new, push_at, push_run_at, push_run_by, push_run}
use Rattle.model.proofs.Cases.{by_test, by_cond, Gives}
use Rattle.model.proofs.Pushing.{latest_within}

-- the block at a place, as a list: of none where there is none
abbrev pub at_place : ℕ → List Block → List Block
at_place b bs = take 1 (drop b bs)

-- a run behind the payload of a block, and as a block of its own where there is none
abbrev pub joined : ℕ → List ℕ → List Block → List Block
joined n run [] = record { number = n; payload = run } ∷ []
joined n run (b ∷ bs) = with_run run b ∷ []

-- a block that is there
at_there : (bs : List Block) (i : ℕ) → i < length bs → at_place i bs ≡ get_or bs i no_block ∷ []
at_there bs i h = ap (take 1) (drop-cons bs i no_block h)

-- one block more
at_more : (bs : List Block) (x : Block) (b : ℕ) → at_place b (bs ++ (x ∷ [])) ≡ cond (eqb (length bs) b) (x ∷ []) (at_place b bs)
at_more [] x zero = refl
at_more [] x (suc b) = rw (drop-nil b, ne_eqb 0 (suc b) (λ e. omega arith))
at_more (y ∷ bs) x zero = rw (ne_eqb (suc (length bs)) 0 (λ e. omega arith))
at_more (y ∷ bs) x (suc b) =
    by_test (eqb (length bs) b)
    (λ e. rw (at_more bs x b, e, eq-eqb (suc (length bs)) (suc b) (omega (arith, eqb-true (length bs) b e))))
    (λ e. rw (at_more bs x b, e, ne_eqb (suc (length bs)) (suc b) (λ f. eqb-false (length bs) b e (omega arith))))

-- one block in the place of another
at_set : (bs : List Block) (i : ℕ) (x : Block) (b : ℕ) → i < length bs → at_place b (set bs i x) ≡ cond (eqb i b) (x ∷ []) (at_place b bs)
at_set [] i x b h = absurd (omega arith)
at_set (y ∷ bs) zero x zero h = refl
at_set (y ∷ bs) zero x (suc b) h = rw (ne_eqb 0 (suc b) (λ e. omega arith))
at_set (y ∷ bs) (suc i) x zero h = rw (ne_eqb (suc i) 0 (λ e. omega arith))
at_set (y ∷ bs) (suc i) x (suc b) h =
    by_test (eqb i b)
    (λ e. rw (at_set bs i x b (omega arith), e, eq-eqb (suc i) (suc b) (omega (arith, eqb-true i b e))))
    (λ e. rw (at_set bs i x b (omega arith), e, ne_eqb (suc i) (suc b) (λ f. eqb-false i b e (omega arith))))

-- a block of the same number in the place of another changes no number
number_set : (bs : List Block) (i : ℕ) (x : Block) (b : ℕ) → x.number ≡ (get_or bs i no_block).number → (get_or (set bs i x) b no_block).number ≡ (get_or bs b no_block).number
number_set [] i x b e = refl
number_set (y ∷ bs) zero x zero e = e
number_set (y ∷ bs) zero x (suc b) e = refl
number_set (y ∷ bs) (suc i) x zero e = refl
number_set (y ∷ bs) (suc i) x (suc b) e = number_set bs i x b e

-- so the latest of a number stays where it is
latest_set : (n k : ℕ) (bs : List Block) (i : ℕ) (x : Block) → x.number ≡ (get_or bs i no_block).number → latest_of n k (set bs i x) ≡ latest_of n k bs
unfolding latest_of
latest_set n zero bs i x e = refl
latest_set n (suc k) bs i x e = rw (number_set bs i x k e, latest_set n k bs i x e)

-- the latest block of a number has the number,
pub latest_is : (n k : ℕ) (bs : List Block) (i : ℕ) → latest_of n k bs ≡ some i → (get_or bs i no_block).number ≡ n
unfolding latest_of
latest_is n zero bs i e = let z : ◌≡◌ {A = ℕ} 0 1 = cc in absurd (omega arith)
latest_is n (suc k) bs i e =
    by_test (eqb (get_or bs k no_block).number n)
    (λ q. let f : some k ≡ some i = sym (rw q) ∙ e in let z : k ≡ i = cc in rw (← z) (eqb-true _ _ q))
    (λ q. latest_is n k bs i (sym (rw q) ∙ e))

-- and none behind it has
pub latest_last : (n k : ℕ) (bs : List Block) (i b : ℕ) → latest_of n k bs ≡ some i → b < k → (get_or bs b no_block).number ≡ n → b ≤ i
unfolding latest_of
latest_last n zero bs i b e h q = absurd (omega arith)
latest_last n (suc k) bs i b e h q =
    by_test (eqb (get_or bs k no_block).number n)
    (λ t. let f : some k ≡ some i = sym (rw t) ∙ e in let z : k ≡ i = cc in omega arith)
    (λ t. let f : latest_of n k bs ≡ some i = sym (rw t) ∙ e in
    by_test (eqb b k)
    (λ s. let z : b ≡ k = eqb-true b k s in absurd (eqb-false _ _ t (rw z at q)))
    (λ s. latest_last n k bs i b f (omega (arith, eqb-false b k s)) q))

-- a run taken by a packet
pub record Took (n : ℕ) (run : List ℕ) (old new : Packet) : Type 0 where
  -- where: at the latest block of its number,
  pub place : ℕ
  pub found : latest n new ≡ some place
  pub within : place < length new.blocks
  -- behind what that had, if it was there; every other place has what it had,
  pub blocks : (b : ℕ) → at_place b new.blocks ≡ cond (eqb place b) (joined n run (at_place b old.blocks)) (at_place b old.blocks)
  -- no block is gone or has another number,
  pub kept : (b : ℕ) → b < length old.blocks → (b < length new.blocks) × ((block_at new b).number ≡ (block_at old b).number)
  -- and the sequence number stays
  pub sequence : new.sequence ≡ old.sequence

module _ (n : ℕ) (run : List ℕ) (p : Packet) where
  -- as a block more
  new_taken : Took n run p (with_blocks (p.blocks ++ (record { number = n; payload = run } ∷ [])) p)
  unfolding latest_of
  new_taken =
      let bs : List Block = p.blocks in
      let x : Block = record { number = n; payload = run } in
      let l : length (bs ++ (x ∷ [])) ≡ suc (length bs) = omega (arith, length-append bs (x ∷ [])) in
      record {
        place = length bs;
        found = rw (l, get_or-append_seam bs x [] no_block, eq-eqb n n refl);
        within = omega arith;
        blocks =
            λ b. at_more bs x b ∙ by_test (eqb (length bs) b)
            (λ e. let z : length bs ≡ b = eqb-true (length bs) b e in rw (e, ← z, drop-length bs))
            (λ e. rw e);
        kept = λ b h. (omega arith, ap (λ (y : Block). y.number) (get_or-append bs (x ∷ []) no_block b h));
        sequence = refl;
      }

  -- behind the payload of the latest block of its number
  grown_taken : (i : ℕ) → latest n p ≡ some i → Took n run p (extended i run p)
  grown_taken i e =
      let bs : List Block = p.blocks in
      let x : Block = with_run run (get_or bs i no_block) in
      let h : i < length bs = latest_within n (length bs) bs i e in
      let l : length (set bs i x) ≡ length bs = length-set bs i x in
      record {
        place = i;
        found = rw l (latest_set n (length bs) bs i x refl ∙ e);
        within = omega arith;
        blocks =
            λ b. at_set bs i x b h ∙ by_test (eqb i b)
            (λ q. let z : i ≡ b = eqb-true i b q in rw (q, ← z, at_there bs i h))
            (λ q. rw q);
        kept = λ b g. (omega arith, number_set bs i x b refl);
        sequence = refl;
      }

  -- a run as a new block
  new_takes : Gives (Took n run p) (push_new n run p)
  unfolding push_new
  new_takes =
      by_cond (Gives (Took n run p)) (eqb n 0) (λ _. tt)
      (λ _. by_cond (Gives (Took n run p)) (ltb 31 (length run)) (λ _. tt)
      (λ _. by_cond (Gives (Took n run p)) (ltb (packet_room p) (block_length (record { number = n; payload = run }))) (λ _. tt) (λ _. new_taken)))

  -- a run to the latest block of its number
  at_takes : (i : ℕ) → latest n p ≡ some i → Gives (Took n run p) (push_at i run p)
  unfolding push_at
  at_takes i e =
      by_cond (Gives (Took n run p)) (ltb (packet_room p) (length run)) (λ _. tt)
      (λ _. by_cond (Gives (Took n run p)) (ltb (block_room (block_at p i)) (length run)) (λ _. tt) (λ _. grown_taken i e))

  -- a run to the one or to the other
  placed_takes : (o : Option ℕ) → latest n p ≡ o → Gives (Took n run p) (push_run_at true n run p o)
  unfolding push_run_at
  placed_takes none e = new_takes
  placed_takes (some i) e = by_cond (Gives (Took n run p)) (ltb (block_room (block_at p i)) (length run)) (λ _. new_takes) (λ _. at_takes i e)

  -- a run pushed is taken
  pub push_takes : Gives (Took n run p) (push_run n run p)
  unfolding push_run_by
  push_takes =
      by_cond (Gives (Took n run p)) (ltb 63 n) (λ _. tt)
      (λ _. by_cond (Gives (Took n run p)) (eqb (length run) 0) (λ _. tt) (λ _. placed_takes (latest n p) refl))
