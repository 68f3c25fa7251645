-- `codes_lengths::lengths` meets its contract: the table computes to the rule, all 512 entries in one equation. Assumes nothing.
use mathlib.Core.Path.{refl}
use Rattle.model.specs.Codes.{first_ranges, ext1_ranges, told_in, tabled, length_table}
use Rattle.codes_lengths.proofs.lengths.Goals as goal

pub returns : goal.returns
unfolding length_table tabled first_ranges ext1_ranges told_in
returns c = refl
