-- The blocks that pieces describe, as one more piece stands behind the others: the block that it names takes its bytes, and every other stays. Assumes nothing.
use mathlib.Core.Path.{◌≡◌, refl, sym, ap, ◌∙◌}
use mathlib.Core.Bool.{Bool, true, false, cond}
use mathlib.Core.List.{List, [], ◌∷◌, ◌++◌, flat_map, append-nil, append_assoc}
use Prim.Native.Nat.{ℕ, zero, suc, ◌+◌, ◌≤◌}
use native.Mathlib.Omega.{arith}
use lib.Dec.{eqb}
use lib.ListN.{length, take, drop}
use lib.Seq.{take_all, take-add, drop-drop, drop-nil}
use borrow.Author.Tests.{eq-eqb, ne_eqb}
use Rattle.model.specs.Block.{Block}
use Rattle.model.proofs.Cases.{by_test}
use Rattle.model_packing.specs.Pieces.{Piece, service_of, count_from, those}
use Rattle.model_packing.specs.Proposals.{lies_in, pieces_in, block_for, blocks_in}
use Rattle.model_packing.proofs.Taking.{at_place, joined}

-- those that pass a test, with one more behind them
those_more : {A : Type 0} (test : A → Bool) (l : List A) (x : A) → those test (l ++ (x ∷ [])) ≡ those test l ++ cond (test x) (x ∷ []) []
unfolding those
those_more test [] x = refl
those_more test (y ∷ l) x = by_test (test y) (λ e. rw (e, those_more test l x)) (λ e. rw (e, those_more test l x))

-- what is made of elements, with one more behind them
flat_more : {A B : Type 0} (f : A → List B) (l : List A) (x : A) → flat_map f (l ++ (x ∷ [])) ≡ flat_map f l ++ f x
unfolding flat_map
flat_more f [] x = append-nil (f x)
flat_more f (y ∷ l) x = rw (flat_more f l x, append_assoc)

-- what is made of elements in two ways that agree
flat_by : {A B : Type 0} {f g : A → List B} → ((x : A) → f x ≡ g x) → (l : List A) → flat_map f l ≡ flat_map g l
unfolding flat_map
flat_by same [] = refl
flat_by same (x ∷ l) = rw (same x, flat_by same l)

-- the blocks at so many places, one after the other
places_from : (bs : List Block) (n a : ℕ) → flat_map (λ b. at_place b bs) (count_from a n) ≡ take n (drop a bs)
unfolding flat_map count_from
places_from bs zero a = refl
places_from bs (suc n) a =
    let s : suc n ≡ 1 + n = omega arith in
    let t : suc a ≡ a + 1 = omega arith in
    let more : flat_map (λ b. at_place b bs) (count_from (suc a) n) ≡ take n (drop 1 (drop a bs)) =
    places_from bs n (suc a) ∙ ap (take n) (ap (λ k. drop k bs) t ∙ sym (drop-drop 1 a bs)) in
    ap (λ l. at_place a bs ++ l) more ∙ sym (take-add 1 n (drop a bs)) ∙ ap (λ k. take k (drop a bs)) (sym s)

module _ (services : List ℕ) (fill : Piece → List ℕ) where
  -- The pieces ps describe the blocks bs of packet p: place by place.
  abbrev pub Describe : List Piece → ℕ → List Block → Type 0
  Describe ps p bs = (b : ℕ) → block_for services fill (pieces_in p b ps) ≡ at_place b bs

  -- then these are its blocks
  pub described : (ps : List Piece) (p : ℕ) (bs : List Block) → Describe ps p bs → length bs ≤ 256 → blocks_in services fill ps p ≡ bs
  unfolding blocks_in
  described ps p bs d h = flat_by d (count_from 0 256) ∙ places_from bs 256 0 ∙ take_all 256 bs h

  -- without a piece there is none
  pub none_described : (p : ℕ) → Describe [] p []
  unfolding those block_for
  none_described p b = rw (drop-nil b)

  -- the block of pieces with one more behind them
  block_more : (ps : List Piece) (q : Piece) → block_for services fill (ps ++ (q ∷ [])) ≡ joined (service_of services q.run) (fill q) (block_for services fill ps)
  unfolding block_for flat_map
  block_more [] q = rw (append-nil (fill q))
  block_more (r ∷ ps) q = rw (flat_more fill ps q, append_assoc)

  module _ (ps : List Piece) (q : Piece) where
    -- a piece of another block behind them changes nothing,
    pieces_same : (p b : ℕ) → lies_in p b q ≡ false → pieces_in p b (ps ++ (q ∷ [])) ≡ pieces_in p b ps
    pieces_same p b e = those_more (lies_in p b) ps q ∙ rw e (append-nil (pieces_in p b ps))

    -- nor one of another packet
    elsewhere : (p : ℕ) → (q.packet ≡ p → ⊥) → (b : ℕ) → pieces_in p b (ps ++ (q ∷ [])) ≡ pieces_in p b ps
    unfolding lies_in
    elsewhere p h b = let n : lies_in p b q ≡ false = rw (ne_eqb q.packet p h) in pieces_same p b n

    -- so the blocks of the packets that it does not name stay,
    pub others_same : (p : ℕ) → (q.packet ≡ p → ⊥) → blocks_in services fill (ps ++ (q ∷ [])) p ≡ blocks_in services fill ps p
    unfolding blocks_in
    others_same p h = flat_by (λ b. ap (block_for services fill) (elsewhere p h b)) (count_from 0 256)

    -- and so does what describes them
    pub others_stay : (p : ℕ) → (q.packet ≡ p → ⊥) → (bs : List Block) → Describe ps p bs → Describe (ps ++ (q ∷ [])) p bs
    others_stay p h bs d = λ b. rw (elsewhere p h b) (d b)

    -- the block that it names takes its bytes
    pub one_grows : (b : ℕ)
        → block_for services fill (pieces_in q.packet b (ps ++ (q ∷ [])))
        ≡ cond (eqb q.block b)
        (joined (service_of services q.run) (fill q) (block_for services fill (pieces_in q.packet b ps)))
        (block_for services fill (pieces_in q.packet b ps))
    unfolding lies_in
    one_grows b =
        by_test (eqb q.block b)
        (λ e. let y : lies_in q.packet b q ≡ true = rw (eq-eqb q.packet q.packet refl, e) in
        rw (those_more (lies_in q.packet b) ps q, y, e) (block_more (pieces_in q.packet b ps) q))
        (λ e. let n : lies_in q.packet b q ≡ false = rw (eq-eqb q.packet q.packet refl, e) in
        rw (pieces_same q.packet b n, e))
