-- The line is its parts. Assumes nothing.
use borrow.Author.Rules.{rules}
use Rattle.ccread_report.proofs.Packets.{laid_cdp_line}
use Rattle.ccread_report.proofs.put_cdp_line.Goals as goal

pub returns : goal.returns
returns c = search (rules, laid_cdp_line)
