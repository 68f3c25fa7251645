-- Bytes are counted beyond what is kept alone. Assumes nothing.
use Rattle.ccpack_report.proofs.Sorts.{length_kept, length_beyond}
use borrow.Author.Rules.{rules}
use Rattle.ccpack_report.proofs.kept_length.Goals as goal

pub returns-then-kept-lt-MOST_KEPT : goal.returns-then-kept-lt-MOST_KEPT
returns-then-kept-lt-MOST_KEPT c = search (rules, length_kept)

pub returns : goal.returns
returns c = search (rules, length_beyond)
