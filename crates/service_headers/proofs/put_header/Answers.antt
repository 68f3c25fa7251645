-- One law of `Heads` for each way in which a header is laid, and nothing is laid past the end. Assumes nothing.
use borrow.Author.Rules.{rules}
use Rattle.basics.proofs.Runs.{sets_past}
use Rattle.service_headers.proofs.Heads.{laid_one, laid_two, laid_cut}
use Rattle.service_headers.proofs.put_header.Goals as goal

pub returns-then-n-at : goal.returns-then-n-at
returns-then-n-at c = search (rules, sets_past)

pub returns-then-number-lt7 : goal.returns-then-number-lt7
returns-then-number-lt7 c = search (rules, laid_one)

pub returns-then-at-n : goal.returns-then-at-n
returns-then-at-n c = search (rules, laid_two)

pub returns-else-at-n : goal.returns-else-at-n
returns-else-at-n c = search (rules, laid_cut)
