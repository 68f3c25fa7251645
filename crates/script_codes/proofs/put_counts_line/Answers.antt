-- The parts of the line, laid one behind another. Assumes nothing.
use borrow.Author.Rules.{rules}
use Rattle.script_codes.proofs.Lines.{counts_parts}
use Rattle.script_codes.proofs.put_counts_line.Goals as goal

pub returns : goal.returns
returns c = search (rules, counts_parts)
