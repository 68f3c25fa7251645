-- The functions that build a frame. Assumes nothing.
use contract.Lifetimes.{Lfts}
use Rattle.writer_frames.proofs.Frame.start.Reads as start
use Rattle.writer_frames.proofs.Frame.has_room.Reads as HasRoomReads
use Rattle.writer_frames.proofs.Frame.carry.Reads as carry
use Rattle.writer_frames.proofs.Frame.pad.Reads as pad
use Rattle.writer_frames.proofs.Frame.emit.Reads as emit
use Rattle.writer_frames.proofs.put.Reads as stored
use Rattle.determined.specs.Determines.{Determines, DeterminesLent}
use Rattle.determined.proofs.Ways.{equal, filled}

-- `Frame::start(count)`
pub frame_start : Determines (start.Post (tt {0}))
frame_start = equal

-- `frame.has_room(n)`
pub frame_has_room : (κs : Lfts 1) → Determines (HasRoomReads.Post κs)
frame_has_room κs = equal

-- `frame.carry(packet, at, n)`
pub frame_carry : (κs : Lfts 2) → DeterminesLent (λ e. e.0.now) (carry.Post κs)
frame_carry κs = filled

-- `frame.pad(n)`
pub frame_pad : (κs : Lfts 1) → DeterminesLent (λ e. e.0.now) (pad.Post κs)
frame_pad κs = filled

-- `frame.emit(out)`
pub frame_emit : (κs : Lfts 2) → DeterminesLent (λ e. e.1.0.now) (emit.Post κs)
frame_emit κs = filled

-- `put(bytes, at, a, b, c)`
pub put : (κs : Lfts 1) → DeterminesLent (λ e. e.0.now) (stored.Post κs)
put κs = filled
