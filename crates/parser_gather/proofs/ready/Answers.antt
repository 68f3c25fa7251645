-- `parser_gather::ready` meets its contract: one law of `Pending` for each way out, in the order of the tests. Assumes nothing.
use Rattle.parser_gather.proofs.Pending.{ready_first, ready_count, ready_pending}
use borrow.Author.Rules.{rules}
use Rattle.parser_gather.proofs.ready.Goals as goal

pub returns-then-first-ge-MOST_WAITING : goal.returns-then-first-ge-MOST_WAITING
returns-then-first-ge-MOST_WAITING c = search (rules, ready_first)

pub returns-then-count-gt-MOST_WAITING : goal.returns-then-count-gt-MOST_WAITING
returns-then-count-gt-MOST_WAITING c = search (rules, ready_count)

pub returns : goal.returns
returns c = search (rules, ready_pending)
