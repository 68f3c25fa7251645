-- The space and the run, laid one behind the other. Assumes nothing.
use Rattle.program_lines.proofs.Pieces.{laid_run}
use borrow.Author.Rules.{rules}
use Rattle.program_lines.proofs.put_run.Goals as goal

pub returns : goal.returns
returns c = search (rules, laid_run)
