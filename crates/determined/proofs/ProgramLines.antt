-- The functions that lay lines. Assumes nothing.
use contract.Lifetimes.{Lfts}
use Rattle.determined.proofs.ProgramText.{lays}
use Rattle.program_lines.proofs.put_value.Reads as PutValueReads
use Rattle.program_lines.proofs.put_numbers.Reads as PutNumbersReads
use Rattle.program_lines.proofs.put_run.Reads as PutRunReads
use Rattle.program_lines.proofs.put_block.Reads as PutBlockReads
use Rattle.program_lines.proofs.put_refusal.Reads as PutRefusalReads
use Rattle.program_lines.proofs.put_done.Reads as PutDoneReads
use Rattle.program_lines.proofs.put_count.Reads as PutCountReads
use Rattle.program_lines.proofs.put_pair.Reads as PutPairReads
use Rattle.program_lines.proofs.put_packet.Reads as PutPacketReads
use Rattle.program_lines.proofs.put_frame_line.Reads as PutFrameLineReads
use Rattle.program_lines.proofs.put_block_line.Reads as PutBlockLineReads
use Rattle.program_lines.proofs.put_end_line.Reads as PutEndLineReads
use Rattle.program_lines.proofs.put_stopped_line.Reads as PutStoppedLineReads
use Rattle.determined.specs.Determines.{DeterminesLent}

-- `put_value(out, at, n)`
pub put_value : (κs : Lfts 1) → DeterminesLent (λ e. e.0.now) (PutValueReads.Post κs)
put_value κs = lays

-- `put_numbers(out, at, numbers)`
pub put_numbers : (κs : Lfts 2) → DeterminesLent (λ e. e.0.now) (PutNumbersReads.Post κs)
put_numbers κs = lays

-- `put_run(out, at, bytes)`
pub put_run : (κs : Lfts 2) → DeterminesLent (λ e. e.0.now) (PutRunReads.Post κs)
put_run κs = lays

-- `put_block(out, at, number, payload)`
pub put_block : (κs : Lfts 2) → DeterminesLent (λ e. e.0.now) (PutBlockReads.Post κs)
put_block κs = lays

-- `put_refusal(out, at, why)`
pub put_refusal : (κs : Lfts 1) → DeterminesLent (λ e. e.0.now) (PutRefusalReads.Post κs)
put_refusal κs = lays

-- `put_done(out, at, answer)`
pub put_done : (κs : Lfts 1) → DeterminesLent (λ e. e.0.now) (PutDoneReads.Post κs)
put_done κs = lays

-- `put_count(out, at, answer)`
pub put_count : (κs : Lfts 1) → DeterminesLent (λ e. e.0.now) (PutCountReads.Post κs)
put_count κs = lays

-- `put_pair(out, at, pair)`
pub put_pair : (κs : Lfts 1) → DeterminesLent (λ e. e.0.now) (PutPairReads.Post κs)
put_pair κs = lays

-- `put_packet(out, at, sequence)`
pub put_packet : (κs : Lfts 1) → DeterminesLent (λ e. e.0.now) (PutPacketReads.Post κs)
put_packet κs = lays

-- `put_frame_line(out, at, number, answer)`
pub put_frame_line : (κs : Lfts 1) → DeterminesLent (λ e. e.0.now) (PutFrameLineReads.Post κs)
put_frame_line κs = lays

-- `put_block_line(out, at, number, payload)`
pub put_block_line : (κs : Lfts 2) → DeterminesLent (λ e. e.0.now) (PutBlockLineReads.Post κs)
put_block_line κs = lays

-- `put_end_line(out, at, records)`
pub put_end_line : (κs : Lfts 1) → DeterminesLent (λ e. e.0.now) (PutEndLineReads.Post κs)
put_end_line κs = lays

-- `put_stopped_line(out, at, start)`
pub put_stopped_line : (κs : Lfts 1) → DeterminesLent (λ e. e.0.now) (PutStoppedLineReads.Post κs)
put_stopped_line κs = lays
