-- `parser_lists::fields_good` meets its contract: the answer for the pairs stays the answer for those that are left. Assumes nothing.
use mathlib.Core.Path.{◌≡◌}
use Prim.Native.Nat.{◌*◌, ◌-◌, ◌≤◌}
use lib.ListN.{drop}
use Rattle.parser_lists.specs.Listing.{fields_fine}
use Rattle.parser_lists.proofs.fields_good.Given as goal

abbrev pub invariant-loop-i : goal.invariant-loop-i
invariant-loop-i l = (l.i ≤ l.n) × (l.n ≤ 31) × (fields_fine l.n l.pairs ≡ fields_fine (l.n - l.i) (drop (3 * l.i) l.pairs))
