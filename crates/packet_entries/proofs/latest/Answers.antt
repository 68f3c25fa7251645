-- The last place that the walk from the end finds is the latest block of the number. Assumes nothing.
use borrow.Author.Rules.{rules}
use Rattle.packet_entries.proofs.Walks.{latest_is}
use Rattle.packet_entries.proofs.latest.Goals as goal

pub returns : goal.returns
returns c =
    latest_is c.args.numbers.now c.args.number c.args.count c.if-count-gt-MOST_BLOCKS.false c.told-numbers c.rposition.result
    (λ i e. (search rules, search rules, search rules)) (λ e. search rules)
