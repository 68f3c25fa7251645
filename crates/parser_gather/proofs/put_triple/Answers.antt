-- `parser_gather::put_triple` meets its contract: one law of `Gathers` for each kind of triple; a new packet's size is even and at most 128. Assumes nothing.
use Rattle.parser_gather.proofs.Gathers.{put_none, put_more, put_start, sized_start}
use borrow.Author.Rules.{rules}
use Rattle.parser_gather.proofs.put_triple.Goals as goal

pub returns-then-v-lt6-clause-by_index : goal.returns-then-v-lt6-clause-by_index
returns-then-v-lt6-clause-by_index c =
    search (rules, put_none)

pub returns-then-v-eq6-clause-by_index : goal.returns-then-v-eq6-clause-by_index
returns-then-v-eq6-clause-by_index c =
    search (rules, put_more)

pub put_two-requires-2 : goal.put_two-requires-2
put_two-requires-2 c = search (rules, sized_start)

pub returns-clause-by_index : goal.returns-clause-by_index
returns-clause-by_index c =
    search (rules, put_start)
