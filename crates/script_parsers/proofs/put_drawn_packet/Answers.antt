-- Each part stands behind the one before it. Assumes nothing.
use Rattle.script_parsers.proofs.Lines.{three_parts}
use borrow.Author.Rules.{rules}
use Rattle.script_parsers.proofs.put_drawn_packet.Goals as goal

pub returns : goal.returns
returns c = search (rules, three_parts)
