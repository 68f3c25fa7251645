-- `parser_triples::scan_frame` meets its contract: the plan by all triples stays the plan by those that are left, and from the triple that ends the
-- 608 part on it is the plan past it. Assumes nothing.
use mathlib.Core.Path.{◌≡◌}
use Prim.Native.Nat.{◌+◌, ◌*◌, ◌-◌, ◌≤◌}
use lib.ListN.{length}
use Rattle.parser_triples.specs.Walk.{seen_from}
use Rattle.parser_triples.specs.Plan.{plan_walked}
use Rattle.parser_triples.proofs.Scans.{within}
use Rattle.parser_triples.proofs.scan_frame.Given as goal

abbrev pub invariant-loop-i : goal.invariant-loop-i
invariant-loop-i l = (3 * l.i ≤ length l.frame + 2) × (plan_walked l.frame ≡ within l.i (seen_from l.i l.frame))

abbrev pub decreases-loop-i : goal.decreases-loop-i
decreases-loop-i l = length l.frame + 3 - 3 * l.i
