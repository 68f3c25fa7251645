-- The block that the call gives takes the place of the old one. Assumes nothing.
use Rattle.script_answers.proofs.Steps.{did_renew}
use Rattle.script_blocks.proofs.new_block.Goals as goal

pub returns-in-Ok : goal.returns-in-Ok
returns-in-Ok c = did_renew c.in-Ok.made c.args.block.now _ c.in-Ok.ensures.places c.put_ok_line.ensures
