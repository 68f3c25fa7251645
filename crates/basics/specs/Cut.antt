-- A sum cut into steps. No public contract of `writer` reaches this file. Assumes nothing.
use Rattle.std.specs.Prelude.{cond, ℕ, ◌-◌, ◌*◌, ◌/◌, min, eqb}
use Rattle.model.specs.Rate.{most_triples}
use Rattle.basics.specs.declared.Steps.{Steps}

-- as many whole steps as there are, at the most as many as a frame has triples; steps of 0 never end
abbrev pub steps_in : ℕ → ℕ → ℕ
steps_in sum step = cond (eqb step 0) most_triples (min most_triples (sum / step))

-- these, and what they leave over
abbrev pub cut_of : ℕ → ℕ → Steps
cut_of sum step = record { count = steps_in sum step; rest = sum - steps_in sum step * step }
