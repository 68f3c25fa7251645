-- Sum and size are kept within the bytes, which cuts the same part. Assumes nothing.
use Rattle.packet_entries.proofs.Placed.{place_past, place_is}
use mathlib.Core.Path.{◌≡◌, refl}
use lib.ListN.{length}
use borrow.Author.Rules.{rules}
use Rattle.packet_entries.proofs.block_at.Goals as goal
use Rattle.packet_entries.proofs.block_at.Goals.{After-all-1}

-- the bytes are 127
full : (c : After-all-1) → length c.args.payload.now ≡ 127
full c = search rules

pub returns-then-place-ge-MOST_BLOCKS : goal.returns-then-place-ge-MOST_BLOCKS
returns-then-place-ge-MOST_BLOCKS c = place_past _ _ _ _ c.if-place-ge-MOST_BLOCKS.true

pub returns : goal.returns
returns c =
    place_is _ _ _ _ c.if-place-ge-MOST_BLOCKS.false _ _ _ _ _ refl c.sum_of.ensures
    (full (goal.at.returns c).After-all-1) c.min-from.ensures c.min-end.ensures c.put_bytes.ensures
