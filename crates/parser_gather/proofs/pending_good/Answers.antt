-- `parser_gather::pending_good` meets its contract: one law of `Pending` for each way out, in the order of the tests. Assumes nothing.
use Rattle.parser_gather.proofs.Pending.{fine_none, fine_odd, fine_even}
use borrow.Author.Rules.{rules}
use Rattle.parser_gather.proofs.pending_good.Goals as goal

pub returns-then-len-eq0 : goal.returns-then-len-eq0
returns-then-len-eq0 c = search (rules, fine_none)

pub returns-then-len-ne0 : goal.returns-then-len-ne0
returns-then-len-ne0 c = search (rules, fine_odd)

pub returns : goal.returns
returns c = search (rules, fine_even)
