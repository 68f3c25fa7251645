-- `parser_lists::list_pairs` meets its contract: the list of the whole stays the list of what is left, and a triple of type 2 or 3 ends it. Assumes nothing.
use mathlib.Core.Path.{◌≡◌}
use Prim.Native.Nat.{◌+◌, ◌*◌, ◌-◌, ◌≤◌}
use lib.ListN.{length}
use Rattle.parser_triples.specs.Walk.{seen_from}
use Rattle.parser_lists.specs.Listing.{listing}
use Rattle.parser_lists.proofs.list_pairs.Given as goal

abbrev pub invariant-loop-i : goal.invariant-loop-i
invariant-loop-i l =
    (3 * l.i ≤ length l.frame + 2) × (l.n ≤ l.i) × (listing 0 l.initial.pairs (seen_from 0 l.frame) ≡ listing l.n l.pairs (seen_from l.i l.frame))

abbrev pub decreases-loop-i : goal.decreases-loop-i
decreases-loop-i l = length l.frame + 3 - 3 * l.i
