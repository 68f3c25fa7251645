-- The invariant: the set is that of the numbers passed. Assumes nothing.
use mathlib.Core.Path.{◌≡◌}
use lib.ListN.{take}
use Rattle.model.specs.Services.{bits_of}
use Rattle.packet_services.proofs.services_to.Given as goal

abbrev pub invariant-loop-number : goal.invariant-loop-number
invariant-loop-number l = l.set ≡ bits_of 64 (take l.number-index l.number-items)
