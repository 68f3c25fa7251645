-- What is left of the packets decides. Assumes nothing.
use mathlib.Core.Path.{◌≡◌}
use Rattle.model.specs.Lists.{every}
use Rattle.model.specs.Packet.{valid_packet}
use Rattle.model_packing.specs.Pieces.{count_from}
use Rattle.model_packing.proofs.Counts.{left}
use Rattle.packing_limits.specs.Tables.{packet_at}
use Rattle.packing_limits.proofs.packets_fit.Given as goal

abbrev pub invariant-loop-packet : goal.invariant-loop-packet
invariant-loop-packet l =
    every (λ p. valid_packet (packet_at l.numbers l.sizes p)) (count_from 0 256) ≡ left (λ p. valid_packet (packet_at l.numbers l.sizes p)) 256 l.packet
