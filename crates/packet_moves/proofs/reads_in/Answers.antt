-- The tests of the reader come first, and whether the blocks read says the rest. Assumes nothing.
use Rattle.packet_moves.proofs.Fronts.{none_reads, long_reads, blocks_reads}
use borrow.Author.Rules.{rules}
use Rattle.packet_moves.proofs.reads_in.Goals as goal

pub returns-then-is_empty : goal.returns-then-is_empty
returns-then-is_empty c = search (rules, none_reads)

pub returns-then-is_wrong : goal.returns-then-is_wrong
returns-then-is_wrong c = search (rules, long_reads)

pub returns : goal.returns
returns c = search (rules, blocks_reads)
