-- What is left of the packets decides. Assumes nothing.
use borrow.Author.Rules.{rules}
use Rattle.model_packing.proofs.Counts.{left_none, left_stops, left_more}
use Rattle.packing_limits.proofs.packets_fit.Goals as goal

pub returns-then-not-packet_fits : goal.returns-then-not-packet_fits
returns-then-not-packet_fits c = search (rules, left_stops)

pub loop-packet-preserved : goal.loop-packet-preserved
loop-packet-preserved c = search (rules, left_more)

pub returns : goal.returns
returns c = search (rules, left_none)
