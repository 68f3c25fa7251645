-- What is left to lay, laid from here on, is the whole at each turn. Assumes nothing.
use mathlib.Core.Path.{◌≡◌}
use Prim.Native.Nat.{◌-◌, ◌*◌, ◌≤◌}
use lib.ListN.{length}
use Rattle.packet.specs.Packet.{packet_of}
use Rattle.ccread_report.specs.Report.{block_lines}
use Rattle.ccread_report.proofs.Lays.{Completes, lines_from}
use Rattle.ccread_report.proofs.put_blocks.Given as goal

abbrev pub invariant-loop-i : goal.invariant-loop-i
invariant-loop-i l =
    (l.i ≤ l.packet.count) × (l.used ≤ 31 * l.i) × (l.packet.count ≤ 63) × (l.laid ≤ length l.out) × (length l.out ≡ length l.initial.out) × Completes (lines_from l.packet l.i l.used) l.out l.laid
    (block_lines (packet_of l.packet).blocks) l.initial.out l.at

abbrev pub decreases-loop-i : goal.decreases-loop-i
decreases-loop-i l = l.packet.count - l.i
