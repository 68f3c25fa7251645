-- The output is the front of an array of 255 bytes 0xA5, as long as the argument says. Assumes nothing.
use native.Mathlib.Omega.{arith}
use Rattle.service.specs.Service.{bytes_of, valid_service}
use Rattle.script_answers.proofs.Lent.{front_of, told_written}
use Rattle.script_blocks.proofs.put_written_block.Goals as goal

pub returns : goal.returns
returns c =
    told_written (valid_service c.args.block.now) (bytes_of c.args.block.now) c.args.len _ (front_of c.args.len (omega arith)) c.write-answer.ensures.answer
    c.write-answer.ensures.output c.put_written_line.ensures
