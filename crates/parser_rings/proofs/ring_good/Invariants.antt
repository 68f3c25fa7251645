-- `parser_rings::ring_good` meets its contract: the answer for all slots stays the answer for those that are left. Assumes nothing.
use Rattle.std.proofs.Common.{◌-◌, ◌≡◌, ◌≤◌, ◌<◌, ◌+◌}
use Rattle.model.specs.Lists.{every}
use Rattle.parser_rings.specs.Ring.{ring_from, slot_fine}
use Rattle.parser_rings.specs.Tests.{ring_fine}
use Rattle.parser_rings.proofs.ring_good.Given as goal

abbrev pub invariant-loop-i : goal.invariant-loop-i
invariant-loop-i l =
    (l.first < 32) × (l.count ≤ 32) × (l.i ≤ l.count)
    × (every slot_fine (ring_from (l.first + l.i) (l.count - l.i) l.slots) ≡ ring_fine l.first l.count l.slots)
