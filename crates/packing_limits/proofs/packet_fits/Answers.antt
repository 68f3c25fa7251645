-- What is summed up and what is left make the length of the whole. Assumes nothing.
use native.Mathlib.Omega.{arith}
use borrow.Author.Rules.{rules}
use Rattle.packing_limits.proofs.Sums.{rest_more, rest_over, rest_none}
use Rattle.packing_limits.proofs.packet_fits.Goals as goal

pub returns-then-length-gt-MOST_PACKET : goal.returns-then-length-gt-MOST_PACKET
returns-then-length-gt-MOST_PACKET c = search (rules, rest_over)

pub loop-block-preserved : goal.loop-block-preserved
loop-block-preserved c = (omega arith, search (rules, rest_more))

pub returns : goal.returns
returns c = search (rules, rest_none)
