-- `writer_sending::packets_duration` meets its contract: the sum's and not each packet's bytes are paired. Assumes nothing.
use native.Mathlib.Omega.{arith}
use Rattle.model.specs.Duration.{ceil, bytes_duration}
use Rattle.writer_sending.proofs.packets_duration.Goals as goal

pub returns : goal.returns
unfolding bytes_duration ceil
returns c = rw (← c.bytes_left-bytes.ensures.0) (omega arith)
