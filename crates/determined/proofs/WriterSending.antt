-- The packet triples of a frame. Assumes nothing.
use contract.Lifetimes.{Lfts}
use Rattle.writer_sending.proofs.count_of.Reads as CountOfReads
use Rattle.writer_sending.proofs.fill.Reads as Fill
use Rattle.writer_sending.proofs.packets_duration.Reads as PacketsDurationReads
use Rattle.writer_sending.proofs.move_down.Reads as MoveDownReads
use Rattle.determined.specs.Determines.{Determines, DeterminesLent}
use Rattle.determined.proofs.Ways.{equal, filled}

-- `count_of(padding, triples, turns, packets, count, slot, sent)`
pub count_of : (κs : Lfts 2) → Determines (CountOfReads.Post κs)
count_of κs = equal

-- `fill(packets, queued, slot, sent, frame, count, padding)`
pub fill : (κs : Lfts 2) → Determines (Fill.Post κs)
fill κs = equal

-- `packets_duration(packets, count, slot, sent)`
pub packets_duration : (κs : Lfts 2) → Determines (PacketsDurationReads.Post κs)
packets_duration κs = equal

-- `move_down(packets, count, begun)`
pub move_down : (κs : Lfts 1) → DeterminesLent (λ e. e.0.now) (MoveDownReads.Post κs)
move_down κs = filled
