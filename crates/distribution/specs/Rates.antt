-- The rates that have codes [L2]. Assumes nothing.
use Rattle.std.specs.Prelude.{List, map}
use Rattle.model.specs.Rate.{Rate}
use Rattle.model.specs.Distribution as model
use Rattle.caption.specs.declared.Framerate.{Framerate}
use Rattle.caption.specs.Rates.{rate}

-- a rate of the model as it is held
abbrev pub coded_rate : Rate → Framerate
coded_rate r = rate r.numer r.denom

-- those of the model
abbrev pub coded_rates : List Framerate
coded_rates = map coded_rate model.coded_rates
