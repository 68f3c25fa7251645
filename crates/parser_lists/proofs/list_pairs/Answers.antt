-- `parser_lists::list_pairs` meets its contract: the list of the whole stays the list of what is left, and a triple of type 2 or 3 ends it. Assumes nothing.
use borrow.Author.Rules.{rules}
use native.Mathlib.Omega.{arith}
use Rattle.parser_lists.proofs.Lists.{list_none, list_stops, list_again}
use Rattle.parser_lists.proofs.list_pairs.Goals as goal

pub returns-then-c-ge2 : goal.returns-then-c-ge2
returns-then-c-ge2 c = search (rules, list_stops)

pub loop-i-preserved : goal.loop-i-preserved
loop-i-preserved c = (omega arith, omega arith, search (rules, list_again))

pub returns : goal.returns
returns c = search (rules, list_none)
