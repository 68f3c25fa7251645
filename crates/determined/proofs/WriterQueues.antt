-- The functions of a field's queue. Assumes nothing.
use mathlib.Core.Path.{sym, ◌∙◌}
use contract.Lifetimes.{Lfts}
use Rattle.caption.proofs.Outcomes.{outcome_injective}
use Rattle.writer_queues.proofs.PairQueue.is_valid.Reads as IsValidReads
use Rattle.writer_queues.proofs.PairQueue.push.Reads as push
use Rattle.writer_queues.proofs.PairQueue.duration.Reads as duration
use Rattle.writer_queues.proofs.PairQueue.down_to.Reads as DownToReads
use Rattle.determined.specs.Determines.{Determines}
use Rattle.determined.proofs.Ways.{equal, said}

-- `queue.is_valid()`
pub pair_queue_is_valid : (κs : Lfts 1) → Determines (IsValidReads.Post κs)
pair_queue_is_valid κs = record { result = λ a r q e f h k. h.0 ∙ sym k.0 }

-- `queue.push(a, b)`
pub pair_queue_push : Determines (push.Post (tt {0}))
pair_queue_push = said outcome_injective

-- `queue.duration()`
pub pair_queue_duration : Determines (duration.Post (tt {0}))
pair_queue_duration = equal

-- `queue.down_to(left)`
pub pair_queue_down_to : Determines (DownToReads.Post (tt {0}))
pair_queue_down_to = equal
