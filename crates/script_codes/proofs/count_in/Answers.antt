-- The payload is the part of the places that the length takes, and what is counted of it is told, or nothing. Assumes nothing.
use Rattle.script_codes.proofs.Lines.{count_given, block_count}
use Rattle.script_codes.proofs.count_in.Goals as goal

pub returns-in-Ok : goal.returns-in-Ok
returns-in-Ok c = block_count c.args.block.now _ _ c.part.ensures (count_given _ _ c.in-Ok.ensures)
