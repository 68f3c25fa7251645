-- `parser_triples::scan_after` meets its contract: the plan by all triples stays the plan by those that are left. Assumes nothing.
use mathlib.Core.Path.{◌≡◌}
use mathlib.Core.Bool.{false}
use Prim.Native.Nat.{◌+◌, ◌*◌, ◌-◌, ◌≤◌}
use lib.ListN.{length}
use Rattle.parser_triples.specs.Walk.{seen_from}
use Rattle.parser_triples.proofs.Scans.{beyond}
use Rattle.parser_triples.proofs.scan_after.Given as goal

abbrev pub invariant-loop-i : goal.invariant-loop-i
invariant-loop-i l = (3 * l.i ≤ length l.frame + 2) × (beyond false l.from (seen_from l.from l.frame) ≡ beyond l.carries l.i (seen_from l.i l.frame))

abbrev pub decreases-loop-i : goal.decreases-loop-i
decreases-loop-i l = length l.frame + 3 - 3 * l.i
