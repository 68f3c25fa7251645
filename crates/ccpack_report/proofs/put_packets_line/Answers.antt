-- Three parts, laid one behind another. Assumes nothing.
use Rattle.ccpack_report.proofs.Lays.{laid_packets_line}
use borrow.Author.Rules.{rules}
use Rattle.ccpack_report.proofs.put_packets_line.Goals as goal

pub returns : goal.returns
returns c = search (rules, laid_packets_line)
