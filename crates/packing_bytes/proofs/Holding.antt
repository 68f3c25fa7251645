-- The table and the pieces that it tells of: one piece more, and what the whole table says of covering, order and splits. Assumes nothing.
use mathlib.Core.Path.{◌≡◌, refl, sym, ap, subst, ◌∙◌}
use mathlib.Core.Bool.{Bool, true, false, not, false≢true}
use mathlib.Core.List.{List, [], ◌∷◌}
use Prim.Native.Nat.{ℕ, zero, suc, ◌+◌, ◌-◌, ◌*◌, ◌≤◌, ◌<◌}
use native.Mathlib.Omega.{arith}
use lib.Dec.{eqb, leb, ltb}
use lib.ListN.{length, get_or, drop}
use lib.Seq.{drop-cons, drop-nil, drop-length}
use borrow.Author.Tests.{not-true, not-false, eqb-true, leb-true, ltb-true, eq-eqb, le-leb, lt-ltb}
use Rattle.model.specs.Lists.{every}
use Rattle.model.proofs.Cases.{by_test, both, and_both}
use Rattle.model_packing.specs.Pieces.{Piece, Byte, byte, bytes_of, pieces_of, In, here, there}
use Rattle.model_packing.specs.Proposals.{inside, holds, holders, held_once, covers, sent_from}
use Rattle.model_packing.proofs.Lists.{every_in, in_bytes}
use Rattle.packing_bytes.specs.Table.{cell_of, LowPiece, Empty, nth_piece, free, filled, holder_from, TellsHolders}
use Rattle.packing_bytes.proofs.Cells.{length_filled, filled_in, filled_out, free_had, not_free}
use Rattle.packing_bytes.proofs.Numbers.{no_piece, piece_at}

-- a byte without a holder is in no piece
pub no_holder : (i : ℕ) (qs : List Piece) (x : Byte) → holder_from i qs x ≡ 0 → holders x qs ≡ 0
unfolding holder_from holders
no_holder i [] x e = refl
no_holder i (q ∷ qs) x e =
    by_test (holds x q)
    (λ h. let z : suc i ≡ 0 = rw h at e in absurd (omega arith))
    (λ h. let z = no_holder (suc i) qs x (rw h at e) in rw h (omega arith))

-- a byte with a holder: its place, that it is counted, and when the byte is sent
pub record Held (i : ℕ) (qs : List Piece) (x : Byte) : Type 0 where
  pub at : ℕ
  pub reached : at < length qs
  pub holder : holder_from i qs x ≡ suc (i + at)
  pub counted : 1 ≤ holders x qs
  pub sends : sent_from i qs x ≡ (get_or qs at no_piece).packet ∷ (get_or qs at no_piece).block ∷ (i + at) ∷ []

-- a cell that has not 0 names such a one
pub held_at : (i : ℕ) (qs : List Piece) (x : Byte) → (holder_from i qs x ≡ 0 → ⊥) → Held i qs x
unfolding holder_from holders sent_from
held_at i [] x f = absurd (f refl)
held_at i (q ∷ qs) x f =
    by_test (holds x q)
    (λ h. let z : i + 0 ≡ i = omega arith in record { at = 0; reached = omega arith; holder = rw (h, z); counted = rw h (omega arith); sends = rw (h, z) })
    (λ h.
    let w = held_at (suc i) qs x (rw h at f) in
    let z : i + suc w.at ≡ suc i + w.at = omega arith in
    record {
      at = suc w.at;
      reached = omega (arith, w.reached);
      holder = rw (h, z) w.holder;
      counted = rw h (omega (arith, w.counted));
      sends = rw (h, z) w.sends;
    })

module _ (x : Byte) (q : Piece) where
  -- a byte that is in a piece: its run, and where it stands there
  holds_tells : holds x q ≡ true → (q.run ≡ x.run) × (q.first ≤ x.place) × (x.place < q.first + q.size)
  unfolding holds
  holds_tells e =
      let a = both (eqb q.run x.run) _ e in
      let b = both (leb q.first x.place) _ a.1 in
      (eqb-true _ _ a.0, leb-true _ _ b.0, ltb-true _ _ b.1)

  -- and so it is in the piece
  holds_made : q.run ≡ x.run → q.first ≤ x.place → x.place < q.first + q.size → holds x q ≡ true
  unfolding holds
  holds_made e f g = rw (eq-eqb _ _ e, le-leb _ _ f, lt-ltb _ _ g)

-- a piece that is inside: its run is there, and so are its bytes
inside_tells : (services lengths : List ℕ) (q : Piece) → inside services lengths q ≡ true → (q.run < length services) × (q.first + q.size ≤ get_or lengths q.run 0)
unfolding inside
inside_tells services lengths q e =
    let a = both (leb 1 q.size) _ e in
    let b = both (ltb q.run (length services)) _ a.1 in
    (ltb-true _ _ b.0, leb-true _ _ b.1)

module _ (services lengths t : List ℕ) (few : length services ≤ 256) (i : ℕ) (q : Piece) (qs : List Piece) where
  module _ (T : TellsHolders services lengths t (suc i) qs) (is : inside services lengths q ≡ true) (low : LowPiece q) where
    -- one piece more, whose cells had 0
    pub tells_more : free q.size (cell_of q) (suc i) t ≡ true → (u : List ℕ) → u ≡ filled q.size (cell_of q) (suc i) t → TellsHolders services lengths u i (q ∷ qs)
    unfolding every holders holder_from
    tells_more f u e =
        let b = inside_tells services lengths q is in
        let fits : cell_of q + q.size ≤ length t = omega (arith, b.0, T.long) in
        record {
          long = ap length e ∙ length_filled q.size (cell_of q) (suc i) t ∙ T.long;
          within = and_both (inside services lengths q) (every (inside services lengths) qs) is T.within;
          single = λ x.
              by_test (holds x q)
              (λ h.
              let w = holds_tells x q h in
              let g : x.run < 256 = omega (arith, w.0, b.0) in
              let k : x.place < 256 = omega (arith, w.2) in
              let z : get_or t (256 * x.run + x.place) 0 ≡ 0 =
              free_had (suc i) (256 * x.run + x.place) q.size (cell_of q) t f (omega (arith, w.0, w.1)) (omega (arith, w.0, w.2)) in
              let n = no_holder (suc i) qs x (sym (T.tells x.run x.place g k) ∙ z) in
              rw h (omega arith))
              (λ h. rw h (omega (arith, T.single x)));
          tells = λ r k g m.
              by_test (holds (byte r k) q)
              (λ h.
              let w = holds_tells (byte r k) q h in
              rw (h, e) (filled_in (suc i) (256 * r + k) q.size (cell_of q) t (omega (arith, w.0, w.1)) (omega (arith, w.0, w.2)) fits))
              (λ h.
              rw (h, e)
              (filled_out (suc i) (256 * r + k) q.size (cell_of q) t
              (λ a d.
              let s : q.run ≡ r = omega arith in
              absurd (false≢true (sym h ∙ holds_made (byte r k) q s (omega arith) (omega arith))))
              ∙ T.tells r k g m));
        }

    -- and one with a byte that another has
    pub tells_twice : free q.size (cell_of q) (suc i) t ≡ false → (x : Byte) × In x (bytes_of services lengths) × (2 ≤ holders x (q ∷ qs))
    unfolding holders
    tells_twice f =
        let w = not_free (suc i) q.size (cell_of q) t f in
        let k = w.0 - 256 * q.run in
        let b = inside_tells services lengths q is in
        let a : cell_of q ≤ w.0 = w.1 in
        let d : w.0 < cell_of q + q.size = w.2 in
        let p : 256 * q.run + k ≡ w.0 = omega arith in
        let h : holds (byte q.run k) q ≡ true = holds_made (byte q.run k) q refl (omega arith) (omega arith) in
        let n : 1 ≤ holders (byte q.run k) qs = (held_at (suc i) qs (byte q.run k)
        (λ z. w.3 (ap (λ (j : ℕ). get_or t j 0) (sym p) ∙ T.tells q.run k (omega (arith, b.0)) (omega arith) ∙ z))).counted in
        (byte q.run k, in_bytes services lengths (byte q.run k) b.0 (omega (arith, b.1)), rw h (omega arith))

-- no piece yet
pub tells_first : (services lengths t : List ℕ) (ps : List Piece) (n : ℕ) → n ≡ length ps → Empty t → TellsHolders services lengths t n (drop n ps)
unfolding every holders holder_from
tells_first services lengths t ps n e z =
    rw (e, drop-length ps) (record { long = z.long; within = refl; single = λ x. omega arith; tells = λ r k g m. z.zeros (256 * r + k) })

-- all pieces
pub tells_all : (services lengths t : List ℕ) (ps : List Piece) (n : ℕ) → n ≤ 0 → TellsHolders services lengths t n (drop n ps) → TellsHolders services lengths t 0 ps
tells_all services lengths t ps n h T = let z : n ≡ 0 = omega arith in rw z at T

-- a byte that is in some pieces of a part is in as many of the whole, or more
holders_part : (x : Byte) (i : ℕ) (ps : List Piece) → holders x (drop i ps) ≤ holders x ps
unfolding holders
holders_part x i [] = rw (drop-nil {A = Piece} i) (omega arith)
holders_part x zero (q ∷ ps) = omega arith
holders_part x (suc i) (q ∷ ps) = omega (arith, holders_part x i ps)

-- the piece at a place is one of the list
in_at : (i : ℕ) (ps : List Piece) → i < length ps → In (get_or ps i no_piece) ps
in_at i [] h = absurd (omega arith)
in_at zero (q ∷ ps) h = here refl
in_at (suc i) (q ∷ ps) h = there (in_at i ps (omega arith))

module _ (services lengths : List ℕ) (ps : List Piece) where
  -- a piece that is not inside
  pub outside_uncovered : (i : ℕ) → i < length ps → inside services lengths (get_or ps i no_piece) ≡ false → covers services lengths ps ≡ false
  unfolding covers
  outside_uncovered i h e =
      by_test (every (inside services lengths) ps)
      (λ a. absurd (false≢true (sym e ∙ every_in (inside services lengths) ps a (in_at i ps h))))
      (λ a. rw a)

  -- a byte in two pieces
  pub twice_uncovered : (x : Byte) → In x (bytes_of services lengths) → 2 ≤ holders x ps → covers services lengths ps ≡ false
  unfolding covers held_once
  twice_uncovered x i h =
      by_test (covers services lengths ps)
      (λ a.
      let b = both (every (inside services lengths) ps) (every (held_once ps) (bytes_of services lengths)) a in
      absurd (omega (arith, eqb-true (holders x ps) 1 (every_in (held_once ps) (bytes_of services lengths) b.1 i))))
      (λ a. a)

-- the loop over all pieces, from the last one to the first
module _ (services lengths l t : List ℕ) (few : length services ≤ 256) (n : ℕ) (most : n ≤ length (pieces_of l)) (some : 0 < n)
    (T : TellsHolders services lengths t n (drop n (pieces_of l)))
    (a : Bool) (ins : a ≡ inside services lengths (nth_piece l (n - 1)))
  where
    -- there is one more piece
    here_is : n - 1 < length (pieces_of l)
    here_is = omega arith

    -- it is the one whose numbers are read
    inside_is : inside services lengths (get_or (pieces_of l) (n - 1) no_piece) ≡ a
    inside_is = ap (inside services lengths) (piece_at l (n - 1) here_is) ∙ sym ins

    -- a piece that is not inside
    pub fill_outside : not a ≡ true → covers services lengths (pieces_of l) ≡ false
    fill_outside e = outside_uncovered services lengths (pieces_of l) (n - 1) here_is (inside_is ∙ not-true a e)

    module _ (yes : not a ≡ false) (low : a ≡ true → LowPiece (nth_piece l (n - 1)))
        (b : Bool) (fr : b ≡ free (nth_piece l (n - 1)).size (cell_of (nth_piece l (n - 1))) (n - 1 + 1) t)
      where
        -- it is inside
        is : inside services lengths (nth_piece l (n - 1)) ≡ true
        is = sym ins ∙ not-false a yes

        -- its place, and one more
        at_next : n ≡ suc (n - 1)
        at_next = omega arith

        the_value : n - 1 + 1 ≡ suc (n - 1)
        the_value = omega arith

        -- the pieces from it on
        from_here : drop (n - 1) (pieces_of l) ≡ nth_piece l (n - 1) ∷ drop (suc (n - 1)) (pieces_of l)
        from_here = drop-cons (pieces_of l) (n - 1) no_piece here_is ∙ rw (piece_at l (n - 1) here_is)

        -- and the table that tells of those behind it
        behind : TellsHolders services lengths t (suc (n - 1)) (drop (suc (n - 1)) (pieces_of l))
        behind = subst (λ (m : ℕ). TellsHolders services lengths t m (drop m (pieces_of l))) at_next T

        -- a piece with a byte that a later one has
        pub fill_twice : not b ≡ true → covers services lengths (pieces_of l) ≡ false
        fill_twice e =
            let w = tells_twice services lengths t few (n - 1) (nth_piece l (n - 1)) (drop (suc (n - 1)) (pieces_of l)) behind is (low (not-false a yes))
            (ap (λ (v : ℕ). free (nth_piece l (n - 1)).size (cell_of (nth_piece l (n - 1))) v t) (sym the_value) ∙ sym fr ∙ not-true b e) in
            let h : 2 ≤ holders w.0 (drop (n - 1) (pieces_of l)) = rw from_here w.2 in
            twice_uncovered services lengths (pieces_of l) w.0 w.1 (omega (arith, holders_part w.0 (n - 1) (pieces_of l)))

        -- one more
        pub fill_more : not b ≡ false → (u : List ℕ) → (b ≡ true → u ≡ filled (nth_piece l (n - 1)).size (cell_of (nth_piece l (n - 1))) (n - 1 + 1) t)
            → TellsHolders services lengths u (n - 1) (drop (n - 1) (pieces_of l))
        fill_more e u f =
            rw from_here
            (tells_more services lengths t few (n - 1) (nth_piece l (n - 1)) (drop (suc (n - 1)) (pieces_of l)) behind is (low (not-false a yes))
            (ap (λ (v : ℕ). free (nth_piece l (n - 1)).size (cell_of (nth_piece l (n - 1))) v t) (sym the_value) ∙ sym fr ∙ not-false b e)
            u
            (f (not-false b e) ∙ ap (λ (v : ℕ). filled (nth_piece l (n - 1)).size (cell_of (nth_piece l (n - 1))) v t) the_value))
