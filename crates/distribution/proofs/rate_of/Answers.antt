-- The rate stands at its place in the array, which a code does not exceed. Assumes nothing.
use mathlib.Core.Bool.{not}
use mathlib.Core.Path.{ap, sym, ◌∙◌}
use native.Mathlib.Omega.{arith}
use Rattle.model.specs.Distribution.{rate_of}
use Rattle.distribution.proofs.Rates.{coded_within, rate_told}
use Rattle.distribution.proofs.rate_of.Goals as goal

pub returns-then-not-is_coded : goal.returns-then-not-is_coded
unfolding rate_of
returns-then-not-is_coded c = simp (sym c.is_coded.ensures ∙ c.if-not-is_coded.true)

pub overflow_sub-result : goal.overflow_sub-result
overflow_sub-result c = omega (arith, coded_within _ _ c.is_coded.ensures (ap not c.if-not-is_coded.false))

pub bounds-rates-code : goal.bounds-rates-code
bounds-rates-code c = omega (arith, coded_within _ _ c.is_coded.ensures (ap not c.if-not-is_coded.false))

pub returns : goal.returns
returns c = rate_told c.args.code _ _ c.is_coded.ensures (ap not c.if-not-is_coded.false) c.coded_rates-rates.ensures
