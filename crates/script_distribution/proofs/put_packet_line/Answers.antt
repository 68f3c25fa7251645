-- Each part stands behind the one before it. Assumes nothing.
use Rattle.script_distribution.proofs.Received.{line_packet}
use borrow.Author.Rules.{rules}
use Rattle.script_distribution.proofs.put_packet_line.Goals as goal

pub returns : goal.returns
returns c = search (rules, line_packet)
