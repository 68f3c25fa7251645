-- `parser_lists::fields_good` meets its contract: the answer for the pairs stays the answer for those that are left. Assumes nothing.
use borrow.Author.Rules.{rules}
use native.Mathlib.Omega.{arith}
use Rattle.parser_lists.proofs.Fields.{fields_done, fields_again, fields_bad}
use Rattle.parser_lists.proofs.fields_good.Goals as goal

pub returns-then-pairs-i-gt1 : goal.returns-then-pairs-i-gt1
returns-then-pairs-i-gt1 c = search (rules, fields_bad)

pub loop-i-preserved : goal.loop-i-preserved
loop-i-preserved c = (omega arith, omega arith, search (rules, fields_again))

pub returns : goal.returns
returns c = search (rules, fields_done)
