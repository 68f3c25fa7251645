-- A field's queue as flat bytes: [S2], [S3] and [W11]. Assumes nothing.
use Rattle.std.specs.Prelude.{cond, ◌&&◌, List, [], ◌∷◌, ℕ, ◌-◌, ◌*◌, leb, length, take, drop}
use Rattle.std.proofs.lemmas.List.Edits.{sets}
use Rattle.model.specs.Said.{Outcome, checked}
use Rattle.model.specs.Frame.{Pair, pair}
use Rattle.model.specs.Mux.{push_pair, most_queued}
use Rattle.writer_queues.specs.declared.PairQueue.{PairQueue}

-- the pairs that flat bytes are
unfoldable pub pairs_of : List ℕ → List Pair
pairs_of [] = []
pairs_of (a ∷ []) = []
pairs_of (a ∷ b ∷ d) = pair a b ∷ pairs_of d

-- the pairs queued, in the places from the first, which leaves next [S3], to the last that is taken
unfoldable pub queue_of : PairQueue → List Pair
queue_of q = pairs_of (take (2 * q.count) q.bytes)

-- the flat bytes of pairs
unfoldable pub pair_bytes : List Pair → List ℕ
pair_bytes [] = []
pair_bytes (pair a b ∷ ps) = a ∷ b ∷ pair_bytes ps

-- pairs in the places of a queue, from the first on; what stands behind them stays
unfoldable pub queue_over : PairQueue → List Pair → PairQueue
queue_over q ps = record { bytes = sets q.bytes 0 (pair_bytes ps); count = length ps }

-- what pushing a pair comes to [W11]; a queue that counts more pairs than it has places is refused [R11]
abbrev pub push_outcome : PairQueue → ℕ → ℕ → Outcome (List Pair)
push_outcome q a b = checked (leb q.count most_queued) (push_pair (pair a b) (queue_of q))

-- the last so many pairs, in the places from the first on; nothing is done where there are fewer, or more than there are places
unfoldable pub down_to : PairQueue → ℕ → PairQueue
down_to q left = cond (leb q.count most_queued && leb left q.count) (queue_over q (drop (q.count - left) (queue_of q))) q
