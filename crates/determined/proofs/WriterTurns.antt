-- The turns of the two fields. Assumes nothing.
use Rattle.writer_turns.proofs.Turns.take.Reads as take
use Rattle.determined.specs.Determines.{Determines}
use Rattle.determined.proofs.Ways.{equal}

-- `turns.take(pad, turns)`
pub turns_take : Determines (take.Post (tt {0}))
turns_take = equal
