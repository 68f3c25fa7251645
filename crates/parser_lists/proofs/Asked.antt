-- Pairs are listed where that is asked: one law for each way out. Assumes nothing.
use mathlib.Core.Path.{◌≡◌}
use mathlib.Core.List.{List}
use mathlib.Core.Bool.{Bool, true, false}
use Prim.Native.Nat.{ℕ, ◌≤◌, ◌<◌}
use lib.ListN.{length}
use borrow.Author.Tests.{le-leb, lt-leb}
use Rattle.parser_triples.specs.Walk.{seen_from}
use Rattle.parser_lists.specs.Listing.{Listing, listing, listed_by}

-- listing a frame
module _ (on : Bool) (l f : List ℕ) where
  -- 608 is off
  pub list_off : on ≡ false → record { count = 0; places = l } ≡ listed_by on l f
  unfolding listed_by
  list_off e = rw e

  module _ (asked : on ≡ true) where
    -- a frame that is too long
    pub list_long : 95 < length f → record { count = 0; places = l } ≡ listed_by on l f
    unfolding listed_by
    list_long h = rw (asked, lt-leb (length f) 95 h)

    -- the pairs are listed
    pub list_asked : (r : Listing) → length f ≤ 95 → r ≡ listing 0 l (seen_from 0 f) → r ≡ listed_by on l f
    unfolding listed_by
    list_asked r h q = rw (asked, le-leb (length f) 95 h) q
