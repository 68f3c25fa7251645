-- What is known of a proposal that covers its runs and keeps the limits, whether or not it keeps the order. Assumes nothing.
use mathlib.Core.Path.{◌≡◌}
use mathlib.Core.Bool.{true}
use mathlib.Core.List.{List}
use Prim.Native.Nat.{ℕ, ◌+◌, ◌≤◌, ◌<◌}
use lib.ListN.{length, get_or}
use borrow.Author.Tests.{leb-true, ltb-true}
use Rattle.model.specs.Lists.{every}
use Rattle.model.proofs.Cases.{both}
use Rattle.model_packing.specs.Pieces.{Piece, bytes_of, In}
use Rattle.model_packing.specs.Proposals.{inside, held_once, covers, runs_fit, numbered, one_service, limits}
use Rattle.model_packing.proofs.Lists.{every_in}
use Rattle.model_packing.proofs.Accepted.{Passes}

-- each piece is inside its run, each byte is in one piece, the pieces have numbers of one byte, and those of a block are of one service
pub record Covered (services lengths : List ℕ) (ps : List Piece) : Type 0 where
  pub all_inside : every (inside services lengths) ps ≡ true
  pub each_once : every (held_once ps) (bytes_of services lengths) ≡ true
  pub one_byte : every numbered ps ≡ true
  pub each_one_service : every (one_service services ps) ps ≡ true

-- such a proposal has them
pub covers_covered : (services lengths : List ℕ) (ps : List Piece) → covers services lengths ps ≡ true → limits services lengths ps ≡ true → Covered services lengths ps
unfolding covers limits
covers_covered services lengths ps c l =
    let f = both (every (inside services lengths) ps) _ c in
    let g = both (every numbered ps) _ (both (runs_fit services lengths) _ l).1 in
    record { all_inside = f.0; each_once = f.1; one_byte = g.0; each_one_service = (both (every (one_service services ps) ps) _ g.1).0 }

-- and so has one that passes its tests
pub passes_covered : {services lengths : List ℕ} {ps : List Piece} → Passes services lengths ps → Covered services lengths ps
passes_covered ok = record { all_inside = ok.all_inside; each_once = ok.each_once; one_byte = ok.one_byte; each_one_service = ok.each_one_service }

-- a piece that is inside its run, as facts
pub record Inside (services lengths : List ℕ) (q : Piece) : Type 0 where
  pub some : 1 ≤ q.size
  pub there : q.run < length services
  pub ends : q.first + q.size ≤ get_or lengths q.run 0

-- each piece is
pub piece_inside : {services lengths : List ℕ} {ps : List Piece} → Covered services lengths ps → (q : Piece) → In q ps → Inside services lengths q
unfolding inside
piece_inside {services} {lengths} {ps} ok q i =
    let e = every_in (inside services lengths) ps ok.all_inside i in
    let f = both _ _ e in
    let g = both _ _ f.1 in
    record { some = leb-true _ _ f.0; there = ltb-true _ _ g.0; ends = leb-true _ _ g.1 }
