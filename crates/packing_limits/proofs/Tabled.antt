-- Tables of the blocks of some pieces: of none, and of one piece more when it is entered. Assumes nothing.
use mathlib.Core.Path.{◌≡◌, refl, sym, ap, ◌∙◌}
use mathlib.Core.Bool.{Bool, true, false, not, false≢true}
use mathlib.Core.List.{List, [], ◌∷◌}
use Prim.Native.Nat.{ℕ, ◌+◌, ◌-◌, ◌%◌, ◌≤◌, ◌<◌}
use native.Mathlib.Omega.{arith}
use lib.Dec.{eqb}
use lib.ListN.{length, get_or, set, drop, replicate, length-set, length-replicate, get_or-replicate}
use lib.Seq.{get_or-set_same, get_or-set_other}
use borrow.Author.Tests.{eqb-true, eq-eqb, lt-ltb, not-true, not-false}
use Rattle.model.specs.Lists.{every}
use Rattle.model.proofs.Cases.{by_test, both, and_both}
use Rattle.model_packing.specs.Pieces.{Piece, pieces_of, service_of, those}
use Rattle.model_packing.specs.Proposals.{lies_in, pieces_in, numbered}
use Rattle.packing_limits.specs.Tables.{piece_at, place_of, PlacedIn, first_service, total_size, Entered, EnteredPiece, joins, all_join, Tables}
use Rattle.packing_limits.proofs.Fives.{piece_first, piece_none, piece_left}

-- tables without pieces tell none
pub tables_blank : (services : List ℕ) (n : ℕ) → n ≡ 65536 → Tables services [] (replicate n 0) (replicate n 0)
unfolding those first_service total_size every
tables_blank services n e =
    record {
      long = (length-replicate n 0 ∙ e, length-replicate n 0 ∙ e);
      number = λ p b hp hb. get_or-replicate n (place_of p b) 0 0 (omega arith);
      size = λ p b hp hb. get_or-replicate n (place_of p b) 0 0 (omega arith);
      bytes = refl;
    }

-- the piece of the list that is entered
pub piece_entered : (services l : List ℕ) (o run service place : ℕ) (ns ss ms ts : List ℕ) (r : Bool) → run ≡ get_or l o 0 → service ≡ get_or services run 0
    → PlacedIn (piece_at l o) place → Entered service (get_or l (o + 2) 0) place ns ss r ms ts → EnteredPiece services (piece_at l o) ns ss r ms ts
piece_entered services l o run service place ns ss ms ts r er es p e = record { packet = p.packet; block = p.block; entered = rw (← er, ← es, ← p.is) e }

-- a piece lies in its block,
pub lies_own : (q : Piece) → lies_in q.packet q.block q ≡ true
unfolding lies_in
lies_own q = simp (eq-eqb q.packet q.packet refl, eq-eqb q.block q.block refl)

-- and in no other
pub lies_facts : (p b : ℕ) (q : Piece) → lies_in p b q ≡ true → (q.packet ≡ p) × (q.block ≡ b)
unfolding lies_in
lies_facts p b q e = let t = both (eqb q.packet p) (eqb q.block b) e in (eqb-true _ _ t.0, eqb-true _ _ t.1)

-- which has another place
other_place : (p b : ℕ) (q : Piece) → b < 256 → q.block < 256 → lies_in p b q ≡ false → place_of p b ≡ place_of q.packet q.block → ⊥
unfolding lies_in
other_place p b q h g f e =
    let x : q.packet ≡ p = omega arith in
    let y : q.block ≡ b = omega arith in
    false≢true (sym f ∙ simp (eq-eqb q.packet p x, eq-eqb q.block b y))

-- a table with what f makes of the pieces of each block, where v is put in at the place of one more piece,
module _ (f : List Piece → ℕ) (ns : List ℕ) (long : length ns ≡ 65536) (q : Piece) (qs : List Piece) (hp : q.packet < 256) (hb : q.block < 256) (v : ℕ) where
  -- has what f makes of the pieces with this one
  told_more : (p b : ℕ) → p < 256 → b < 256 → get_or ns (place_of p b) 0 ≡ f (pieces_in p b qs) → (lies_in p b q ≡ true → v ≡ f (q ∷ pieces_in p b qs))
      → get_or (set ns (place_of q.packet q.block) v) (place_of p b) 0 ≡ f (pieces_in p b (q ∷ qs))
  unfolding those
  told_more p b gp gb before own =
      by_test (lies_in p b q)
      (λ t.
      let e = lies_facts p b q t in
      let z : place_of q.packet q.block ≡ place_of p b = omega (arith, e.0, e.1) in
      rw (t, z) (get_or-set_same ns (place_of p b) v 0 (omega arith) ∙ own t))
      (λ o. rw o (get_or-set_other ns (place_of q.packet q.block) (place_of p b) v 0 (other_place p b q gb hb o) ∙ before))

-- one piece more is entered into tables that tell the others
module _ (services : List ℕ) (q : Piece) (qs : List Piece) (ns ss ms ts : List ℕ) (r : Bool) (t : Tables services qs ns ss) (e : EnteredPiece services q ns ss r ms ts) where
  -- the answer is whether it may stand before the others
  entered_joins : r ≡ joins services q qs
  unfolding joins
  entered_joins = e.entered.answer ∙ rw (t.number q.packet q.block e.packet e.block, t.size q.packet q.block e.packet e.block)

  -- and the tables are told then
  entered_tables : r ≡ true → Tables services (q ∷ qs) ms ts
  unfolding first_service total_size every numbered
  entered_tables y =
      let en : ms ≡ set ns (place_of q.packet q.block) (service_of services q.run) = rw y at e.entered.numbers in
      let es : ts ≡ set ss (place_of q.packet q.block) (get_or ss (place_of q.packet q.block) 0 + q.size) = rw y at e.entered.sizes in
      record {
        long = (ap length en ∙ simp length-set t.long.0, ap length es ∙ simp length-set t.long.1);
        number = λ p b hp hb. rw en (told_more (first_service services) ns t.long.0 q qs e.packet e.block _ p b hp hb (t.number p b hp hb) (λ _. refl));
        size = λ p b hp hb.
            rw es
            (told_more total_size ss t.long.1 q qs e.packet e.block _ p b hp hb (t.size p b hp hb)
            (λ o.
            let w = lies_facts p b q o in
            let z : place_of q.packet q.block ≡ place_of p b = omega (arith, w.0, w.1) in
            let k = t.size p b hp hb in
            rw z (omega arith)));
        bytes = and_both (numbered q) (every numbered qs) (simp (lt-ltb _ _ e.packet, lt-ltb _ _ e.block)) t.bytes;
      }

-- with fewer pieces each may stand there too
join_fewer : (services : List ℕ) (q : Piece) (qs : List Piece) → all_join services (q ∷ qs) ≡ true → all_join services qs ≡ true
unfolding all_join
join_fewer services q qs e = (both (joins services q qs) (all_join services qs) e).1

-- before the pieces are entered
module _ (services l ns ss : List ℕ) (o : ℕ) where
  -- no piece is behind the end,
  pub join_none : length l < o + 5 → all_join services (pieces_of (drop o l)) ≡ true
  unfolding all_join
  join_none h = rw (piece_none l o h)

  -- and none is told
  pub tables_none : length l < o + 5 → Tables services [] ns ss → Tables services (pieces_of (drop o l)) ns ss
  tables_none h t = rw (piece_none l o h) t

-- a piece is entered, and those behind it are told
module _ (services l ns ss ms ts : List ℕ) (o : ℕ) (r : Bool) (five : o % 5 ≡ 0) (some : 0 < o) (there : o ≤ length l) (all : all_join services (pieces_of (drop o l)) ≡ true)
    (t : Tables services (pieces_of (drop o l)) ns ss) (e : EnteredPiece services (piece_at l (o - 5)) ns ss r ms ts) where
  -- it comes first of those that are left
  first_left : pieces_of (drop (o - 5) l) ≡ piece_at l (o - 5) ∷ pieces_of (drop o l)
  first_left = let z : o - 5 + 5 ≡ o = omega arith in piece_first l (o - 5) (omega arith) ∙ rw z

  -- the piece may stand there, and so all that are left do,
  pub join_more : not r ≡ false → all_join services (pieces_of (drop (o - 5) l)) ≡ true
  unfolding all_join
  join_more y = rw first_left (and_both _ _ (sym (entered_joins services _ _ ns ss ms ts r t e) ∙ not-false r y) all)

  -- and these are told
  pub tables_more : not r ≡ false → Tables services (pieces_of (drop (o - 5) l)) ms ts
  tables_more y = rw first_left (entered_tables services _ _ ns ss ms ts r t e (not-false r y))

  -- or it may not, and so not all do
  pub join_stops : not r ≡ true → false ≡ all_join services (pieces_of l)
  unfolding all_join
  join_stops n =
      by_test (all_join services (pieces_of l))
      (λ y.
      let w : all_join services (pieces_of (drop (o - 5) l)) ≡ true =
      piece_left (λ ps. all_join services ps ≡ true) (join_fewer services) (o - 5) l (o - 5) (omega arith) (omega arith) (omega arith) y in
      let v = both (joins services (piece_at l (o - 5)) (pieces_of (drop o l))) _ (rw first_left at w) in
      absurd (false≢true (sym (not-true r n) ∙ entered_joins services _ _ ns ss ms ts r t e ∙ v.0)))
      (λ f. sym f)

-- all pieces are entered
module _ (services l ns ss : List ℕ) (o : ℕ) (none : o ≤ 0) where
  -- none is before them
  all_left : drop o l ≡ l
  all_left = let z : o ≡ 0 = omega arith in rw z

  -- so all may stand in their blocks,
  pub join_all : all_join services (pieces_of (drop o l)) ≡ true → true ≡ all_join services (pieces_of l)
  join_all e = sym (rw all_left at e)

  -- and all are told
  pub tables_all : Tables services (pieces_of (drop o l)) ns ss → Tables services (pieces_of l) ns ss
  tables_all t = rw all_left at t
