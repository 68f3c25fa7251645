-- What a frame gets of a rate. Assumes nothing.
use Rattle.writer_shares.proofs.Shares.{share_injective}
use Rattle.writer_shares.proofs.Carry.is_valid.Reads as IsValidReads
use Rattle.writer_shares.proofs.Carry.share.Reads as share
use Rattle.determined.specs.Determines.{Determines}
use Rattle.determined.proofs.Ways.{equal, said}

-- `carry.is_valid()`
pub carry_is_valid : Determines (IsValidReads.Post (tt {0}))
carry_is_valid = equal

-- `carry.share(carrying, rate)`
pub carry_share : Determines (share.Post (tt {0}))
carry_share = said share_injective
