-- `parser_triples::plan_of` meets its contract: one law of `Plans` for each way out, in the order of the tests. Assumes nothing.
use Rattle.parser_triples.proofs.Plans.{plan_laws}
use borrow.Author.Rules.{rules}
use Rattle.parser_triples.proofs.plan_of.Goals as goal

pub returns-then-n-lt5 : goal.returns-then-n-lt5
returns-then-n-lt5 c = search (rules, plan_laws)

pub returns-then-b-ne1 : goal.returns-then-b-ne1
returns-then-b-ne1 c = search (rules, plan_laws)

pub returns-then-k-eq0 : goal.returns-then-k-eq0
returns-then-k-eq0 c = search (rules, plan_laws)

pub returns-then-n-k : goal.returns-then-n-k
returns-then-n-k c = search (rules, plan_laws)

pub returns : goal.returns
returns c = search (rules, plan_laws)
