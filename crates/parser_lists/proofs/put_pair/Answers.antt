-- `parser_lists::put_pair` meets its contract: a triple that is not valid lists nothing, and a valid one is laid by three stores. Assumes nothing.
use Rattle.parser_lists.proofs.Lists.{list_void, list_pair}
use borrow.Author.Rules.{rules}
use Rattle.parser_lists.proofs.put_pair.Goals as goal

pub returns-then-c-lt4-clause-ts_value : goal.returns-then-c-lt4-clause-ts_value
returns-then-c-lt4-clause-ts_value c = search (rules, list_void)

pub returns-clause-ts_value : goal.returns-clause-ts_value
returns-clause-ts_value c = search (rules, list_pair)
