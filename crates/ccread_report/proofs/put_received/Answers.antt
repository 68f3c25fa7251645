-- One law of `Packets` for each way out. Assumes nothing.
use borrow.Author.Rules.{rules}
use Rattle.ccread_report.proofs.Packets.{laid_accepted, laid_refused}
use Rattle.ccread_report.proofs.put_received.Goals as goal

pub returns-in-Ok : goal.returns-in-Ok
returns-in-Ok c = search (rules, laid_accepted)

pub returns-in-Err : goal.returns-in-Err
returns-in-Err c = search (rules, laid_refused)
