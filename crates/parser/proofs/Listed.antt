-- The list of pairs after a frame is the frame's pairs laid over the places. Assumes nothing.
use mathlib.Core.Path.{◌≡◌, refl}
use mathlib.Core.List.{List, []}
use mathlib.Core.Bool.{Bool, true, false, cond, ◌&&◌}
use Prim.Native.Nat.{ℕ, ◌+◌, ◌≤◌}
use native.Mathlib.Omega.{arith}
use lib.ListN.{length}
use lib.Seq.{sets}
use borrow.Author.Tests.{le-leb}
use Rattle.model.specs.Frame.{Cea608}
use Rattle.model.specs.Demux.{pairs_in}
use Rattle.parser_triples.specs.Walk.{seen_from}
use Rattle.parser_lists.specs.Pairs.{placed_all}
use Rattle.parser_lists.specs.Listing.{Listing, listing, listed_by}

-- pairs laid over places
abbrev pub listed : List ℕ → List Cea608 → Listing
listed l qs = record { count = length qs; places = sets l 0 (placed_all qs) }

-- none
pub listed_none : (l : List ℕ) → record { count = 0; places = l } ≡ listed l []
unfolding placed_all
listed_none l = refl

-- those of a frame, with 608 on and off
pub listed_by_lem : (on : Bool) (l f : List ℕ) → length f ≤ 95 → listed_by on l f ≡ listed l (cond on (pairs_in (seen_from 0 f)) [])
unfolding listed_by listing
listed_by_lem true l f few = let z : 0 + length (pairs_in (seen_from 0 f)) ≡ length (pairs_in (seen_from 0 f)) = omega arith in rw (le-leb (length f) 95 few, z)
listed_by_lem false l f few = listed_none l
