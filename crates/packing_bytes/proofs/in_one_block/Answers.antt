-- Two pieces that lie in one place lie in one block of one packet. Assumes nothing.
use Rattle.packing_bytes.proofs.Tests.{one_block_tested}
use borrow.Author.Rules.{rules}
use Rattle.packing_bytes.proofs.in_one_block.Goals as goal

pub returns : goal.returns
returns c = search (rules, one_block_tested)
