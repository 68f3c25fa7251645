-- There is none yet, or the counter is compared with the last. Assumes nothing.
use mathlib.Core.Path.{refl}
use Rattle.model.specs.Distribution.{takes}
use Rattle.distribution.proofs.DistributionReader.takes.Goals as goal

pub returns-in-None : goal.returns-in-None
unfolding takes
returns-in-None c = rw c.in-None.is refl

pub returns-in-Some : goal.returns-in-Some
unfolding takes
returns-in-Some c = rw c.in-Some.is c.newer.ensures
