-- `parser_gather::closes` meets its contract: only a start closes, and then bytes that read. Assumes nothing.
use Rattle.parser_gather.proofs.Gathers.{closes_not, closes_reads}
use borrow.Author.Rules.{rules}
use Rattle.parser_gather.proofs.closes.Goals as goal

pub returns-then-c-lt7 : goal.returns-then-c-lt7
returns-then-c-lt7 c = search (rules, closes_not)

pub returns : goal.returns
returns c = search (rules, closes_reads)
