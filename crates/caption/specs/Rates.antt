-- Frame rates: those that have names [G3], and what their budgets are in the model [G1] [G2]. Assumes nothing.
use Rattle.std.specs.Prelude.{List, map, ℕ}
use Rattle.model.specs.Rate as model
use Rattle.caption.specs.declared.Framerate.{Framerate}
use Rattle.caption.specs.declared.Budgets.{Budgets}

-- numer frames in denom seconds
abbrev pub rate : ℕ → ℕ → Framerate
rate numer denom = record { numer = numer; denom = denom }

-- the five that have names [G3]: those of the model
abbrev pub named_rates : List Framerate
named_rates = map (λ (r : model.Rate). rate r.numer r.denom) model.named_rates

-- the pairs and the triples of a frame
abbrev pub budgets_of : Budgets → model.Budgets
budgets_of b = record { pairs = b.pairs; triples = b.triples }
