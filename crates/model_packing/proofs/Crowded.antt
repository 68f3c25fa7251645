-- A proposal with more pieces than there are bytes to cover does not cover them once each. Assumes nothing.
use mathlib.Core.Path.{◌≡◌, refl, sym, ap, ◌∙◌}
use mathlib.Core.Bool.{true, false, cond}
use mathlib.Core.List.{List, [], ◌∷◌}
use Prim.Native.Nat.{ℕ, ◌+◌, ◌≤◌, ◌<◌}
use native.Mathlib.Omega.{arith}
use lib.Dec.{leb, ltb}
use lib.ListN.{length, get_or}
use borrow.Author.Tests.{eqb-true, leb-true, ltb-true, eq-eqb, le-leb, lt-ltb}
use Rattle.model.specs.Lists.{every}
use Rattle.model.proofs.Cases.{by_test, both}
use Rattle.model_packing.specs.Pieces.{Piece, Byte, byte, bytes_of, In, here, there}
use Rattle.model_packing.specs.Proposals.{inside, holds, holders, held_once, covers}
use Rattle.model_packing.proofs.Lists.{in_bytes}

-- how many of some bytes are in a piece
held : Piece → List Byte → ℕ
held q [] = 0
held q (x ∷ xs) = cond (holds x q) 1 0 + held q xs

-- in how many pieces they are, all together: counted by bytes, and by pieces
by_bytes : List Piece → List Byte → ℕ
by_bytes ps [] = 0
by_bytes ps (x ∷ xs) = holders x ps + by_bytes ps xs

by_pieces : List Byte → List Piece → ℕ
by_pieces xs [] = 0
by_pieces xs (q ∷ qs) = held q xs + by_pieces xs qs

-- one piece more
bytes_more : (q : Piece) (qs : List Piece) (xs : List Byte) → by_bytes (q ∷ qs) xs ≡ held q xs + by_bytes qs xs
unfolding holders by_bytes held
bytes_more q qs [] = refl
bytes_more q qs (x ∷ xs) = let e = bytes_more q qs xs in omega arith

bytes_none : (xs : List Byte) → by_bytes [] xs ≡ 0
unfolding holders by_bytes
bytes_none [] = refl
bytes_none (x ∷ xs) = omega (arith, bytes_none xs)

-- both ways count the same
counted_either : (ps : List Piece) (xs : List Byte) → by_bytes ps xs ≡ by_pieces xs ps
unfolding by_pieces
counted_either [] xs = bytes_none xs
counted_either (q ∷ qs) xs = bytes_more q qs xs ∙ ap (λ (n : ℕ). held q xs + n) (counted_either qs xs)

-- bytes that are in one piece each
bytes_once : (ps : List Piece) (xs : List Byte) → every (held_once ps) xs ≡ true → by_bytes ps xs ≡ length xs
unfolding every held_once by_bytes
bytes_once ps [] e = refl
bytes_once ps (x ∷ xs) e =
    let t = both (held_once ps x) (every (held_once ps) xs) e in
    omega (arith, eqb-true (holders x ps) 1 t.0, bytes_once ps xs t.1)

-- a byte that is in a piece counts
held_some : (q : Piece) (x : Byte) (xs : List Byte) → In x xs → holds x q ≡ true → 1 ≤ held q xs
unfolding held
held_some q x [] x3 e = elim x3 [ ]
held_some q x (y ∷ xs) (here p) e = let z : holds y q ≡ true = ap (λ (w : Byte). holds w q) (sym p) ∙ e in rw z (omega arith)
held_some q x (y ∷ xs) (there i) e = let z = held_some q x xs i e in omega arith

module _ (services lengths : List ℕ) where
  -- the first byte of a piece that is inside its run
  pub inside_first : (q : Piece) → inside services lengths q ≡ true → In (byte q.run q.first) (bytes_of services lengths) × (holds (byte q.run q.first) q ≡ true)
  unfolding inside holds
  inside_first q e =
      let a = both (leb 1 q.size) _ e in
      let b = both (ltb q.run (length services)) _ a.1 in
      let n : 1 ≤ q.size = leb-true 1 q.size a.0 in
      let r : q.run < length services = ltb-true _ _ b.0 in
      let k : q.first + q.size ≤ get_or lengths q.run 0 = leb-true _ _ b.1 in
      let f : q.first ≤ q.first = omega arith in
      let g : q.first < q.first + q.size = omega arith in
      (in_bytes services lengths (byte q.run q.first) r (omega arith), simp (eq-eqb q.run q.run refl, le-leb _ _ f, lt-ltb _ _ g))

  -- so that each piece counts
  pieces_count : (ps : List Piece) → every (inside services lengths) ps ≡ true → length ps ≤ by_pieces (bytes_of services lengths) ps
  unfolding every by_pieces
  pieces_count [] e = omega arith
  pieces_count (q ∷ qs) e =
      let t = both (inside services lengths q) (every (inside services lengths) qs) e in
      let f = inside_first q t.0 in
      let h = held_some q (byte q.run q.first) (bytes_of services lengths) f.0 f.1 in
      let m = pieces_count qs t.1 in
      omega arith

  -- pieces that cover the bytes are not more than these
  pub covers_few : (ps : List Piece) → covers services lengths ps ≡ true → length ps ≤ length (bytes_of services lengths)
  unfolding covers
  covers_few ps e =
      let t = both (every (inside services lengths) ps) (every (held_once ps) (bytes_of services lengths)) e in
      omega (arith, pieces_count ps t.0, counted_either ps (bytes_of services lengths), bytes_once ps (bytes_of services lengths) t.1)

  -- so more of them do not cover
  pub crowded : (ps : List Piece) → length (bytes_of services lengths) < length ps → covers services lengths ps ≡ false
  crowded ps h = by_test (covers services lengths ps) (λ e. absurd (omega (arith, covers_few ps e))) (λ e. e)
