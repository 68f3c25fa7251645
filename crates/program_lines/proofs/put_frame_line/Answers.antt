-- The parts of the line, laid one behind another, by whether the answer's number is 0. Assumes nothing.
use Rattle.program_lines.proofs.Tellings.{frame_ok, frame_refused}
use borrow.Author.Rules.{rules}
use Rattle.program_lines.proofs.put_frame_line.Goals as goal

pub returns-then-told-eq0 : goal.returns-then-told-eq0
returns-then-told-eq0 c = search (rules, frame_ok)

pub returns : goal.returns
returns c = search (rules, frame_refused)
