-- The functions that go over a packet's bytes. Assumes nothing.
use contract.Lifetimes.{Lfts}
use Rattle.packet_moves.proofs.packet_size.Reads as PacketSizeReads
use Rattle.packet_moves.proofs.PlainWay.through.Reads as PlainThrough
use Rattle.packet_moves.proofs.PlainWay.moved.Reads as PlainMoved
use Rattle.packet_moves.proofs.PlainWay.is_wrong.Reads as PlainIsWrong
use Rattle.packet_moves.proofs.TidyWay.through.Reads as TidyThrough
use Rattle.packet_moves.proofs.TidyWay.moved.Reads as TidyMoved
use Rattle.packet_moves.proofs.TidyWay.is_wrong.Reads as TidyIsWrong
use Rattle.packet_moves.proofs.front.Reads as FrontReads
use Rattle.packet_moves.proofs.reads_in.Reads as ReadsIn
use Rattle.determined.specs.Determines.{Determines, DeterminesPart}
use Rattle.determined.proofs.Ways.{equal, part_equal}

-- `packet_size(h)`
pub packet_size : Determines (PacketSizeReads.Post (tt {0}))
packet_size = equal

-- `Plain::through(data, at)` and `Tidy::through(data, at)`
pub plain_through : (κs : Lfts 1) → Determines (PlainThrough.Post κs)
plain_through κs = equal

pub tidy_through : (κs : Lfts 1) → Determines (TidyThrough.Post κs)
tidy_through κs = equal

-- `Plain::moved(number, start, size)` and `Tidy::moved(number, start, size)`
pub plain_moved : Determines (PlainMoved.Post (tt {0}))
plain_moved = equal

pub tidy_moved : Determines (TidyMoved.Post (tt {0}))
tidy_moved = equal

-- `Plain::is_wrong(size, actual)` and `Tidy::is_wrong(size, actual)`
pub plain_is_wrong : Determines (PlainIsWrong.Post (tt {0}))
plain_is_wrong = equal

pub tidy_is_wrong : Determines (TidyIsWrong.Post (tt {0}))
tidy_is_wrong = equal

-- `front(bytes, len)`
pub front : (κs : Lfts 1) → DeterminesPart (FrontReads.Post κs)
front κs = part_equal

-- `reads_in(bytes, len)`
pub reads_in : (κs : Lfts 1) → Determines (ReadsIn.Post κs)
reads_in κs = equal
