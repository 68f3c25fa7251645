-- `writer_queues::PairQueue::duration` meets its contract. Assumes nothing.
use native.Mathlib.Omega.{arith}
use Rattle.model.specs.Duration.{ceil, pairs_duration}
use Rattle.writer_queues.proofs.PairQueue.duration.Goals as goal

pub returns : goal.returns
unfolding pairs_duration ceil
returns c = omega (arith, c.min.ensures)
