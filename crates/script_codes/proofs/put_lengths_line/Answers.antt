-- The parts of the line, laid one behind another. Assumes nothing.
use borrow.Author.Rules.{rules}
use Rattle.script_codes.proofs.Lines.{given_parts}
use Rattle.script_codes.proofs.put_lengths_line.Goals as goal

pub returns : goal.returns
returns c = search (rules, given_parts)
