-- A numbered word. Assumes nothing.
use Rattle.program_lines.proofs.Pieces.{laid_packet}
use borrow.Author.Rules.{rules}
use Rattle.program_lines.proofs.put_packet.Goals as goal

pub returns : goal.returns
returns c = search (rules, laid_packet)
