-- One law for each way out. Assumes nothing.
use borrow.Author.Rules.{rules}
use Rattle.packet_writing.proofs.Writes.{fill_odd, fill_past, fill_even}
use Rattle.packet_writing.proofs.put_fill.Goals as goal

pub returns-then-n-out : goal.returns-then-n-out
returns-then-n-out c = search (rules, fill_odd)

pub returns-else-n-out : goal.returns-else-n-out
returns-else-n-out c = search (rules, fill_past)

pub returns-else-n-eq1 : goal.returns-else-n-eq1
returns-else-n-eq1 c = search (rules, fill_even)
