-- `parser_gather::put_two` meets its contract: none are wanted, or two stores lay them behind those that are there. Assumes nothing.
use Rattle.parser_gather.proofs.Gathers.{two_none, two_more}
use borrow.Author.Rules.{rules}
use Rattle.parser_gather.proofs.put_two.Goals as goal

pub returns-then-need-eq0-clause-bytes_after : goal.returns-then-need-eq0-clause-bytes_after
returns-then-need-eq0-clause-bytes_after c =
    search (rules, two_none)

pub returns-clause-bytes_after : goal.returns-clause-bytes_after
returns-clause-bytes_after c =
    search (rules, two_more)
