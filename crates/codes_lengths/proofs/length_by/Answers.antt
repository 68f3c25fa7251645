-- `codes_lengths::length_by` meets its contract: what `lengths` promises of the whole table holds of the entry that is looked up. Assumes nothing.
use native.Mathlib.Omega.{arith}
use Rattle.codes_lengths.proofs.Table.{first_half, second_half}
use Rattle.codes_lengths.proofs.length_by.Goals as goal

pub returns-then-ext1 : goal.returns-then-ext1
returns-then-ext1 c = let a = c.args in second_half _ c.lengths-table.ensures a.byte (omega arith) a.ext1 c.if-ext1.true

pub returns : goal.returns
returns c = let a = c.args in first_half _ c.lengths-table.ensures a.byte (omega arith) a.ext1 c.if-ext1.false
