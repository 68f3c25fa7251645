-- The frame rate's functions. Assumes nothing.
use Rattle.caption.proofs.Rates.{budgets_injective}
use Rattle.caption.proofs.Framerate.new.Reads as new
use Rattle.caption.proofs.Framerate.named.Reads as named
use Rattle.caption.proofs.Framerate.numer.Reads as numer
use Rattle.caption.proofs.Framerate.denom.Reads as denom
use Rattle.caption.proofs.Framerate.budgets.Reads as budgets
use Rattle.determined.specs.Determines.{Determines}
use Rattle.determined.proofs.Ways.{equal, said}

-- `Framerate::new(numer, denom)`
pub framerate_new : Determines (new.Post (tt {0}))
framerate_new = equal

-- `Framerate::named()`
pub framerate_named : Determines (named.Post (tt {0}))
framerate_named = equal

-- `rate.numer()`
pub framerate_numer : Determines (numer.Post (tt {0}))
framerate_numer = equal

-- `rate.denom()`
pub framerate_denom : Determines (denom.Post (tt {0}))
framerate_denom = equal

-- `rate.budgets()`
pub framerate_budgets : Determines (budgets.Post (tt {0}))
framerate_budgets = said budgets_injective
