-- `parser_lists::list_good` meets its contract: one law of `Fields` for each way out. Assumes nothing.
use Rattle.parser_lists.proofs.Fields.{list_long, list_on, list_off}
use borrow.Author.Rules.{rules}
use Rattle.parser_lists.proofs.list_good.Goals as goal

pub returns-then-n-gt-MOST_PAIRS : goal.returns-then-n-gt-MOST_PAIRS
returns-then-n-gt-MOST_PAIRS c = search (rules, list_long)

pub returns-then-on : goal.returns-then-on
returns-then-on c = search (rules, list_on)

pub returns : goal.returns
returns c = search (rules, list_off)
