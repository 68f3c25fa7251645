-- The functions that every part shares. Assumes nothing.
use mathlib.Core.Path.{sym, ◌∙◌}
use contract.Lifetimes.{Lfts}
use Rattle.basics.proofs.cut.Reads as Cut
use Rattle.basics.proofs.put_bytes.Reads as PutBytesReads
use Rattle.determined.specs.Determines.{Determines, DeterminesLent}
use Rattle.determined.proofs.Ways.{equal, filled}

-- `cut(sum, step)`
pub cut : Determines (Cut.Post (tt {0}))
cut = equal

-- `put_bytes(dst, at, src)`
pub put_bytes : (κs : Lfts 2) → DeterminesLent (λ e. e.0.now) (PutBytesReads.Post κs)
put_bytes κs = filled
