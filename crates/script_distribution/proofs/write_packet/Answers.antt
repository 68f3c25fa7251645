-- The output is the front of an array of 255 bytes 0xA5, as long as the argument says. Assumes nothing.
use native.Mathlib.Omega.{arith}
use Rattle.script_answers.proofs.Lent.{front_of}
use Rattle.script_distribution.proofs.Written.{did_write}
use Rattle.script_distribution.proofs.write_packet.Goals as goal

pub returns : goal.returns
returns c =
    did_write c.args.frame.now c.args.code c.args.len c.args.link.now c.write-answer.result c.write-answer.new.self (front_of c.args.len (omega arith))
    c.write-answer.ensures.answer c.write-answer.ensures.places c.write-answer.ensures.output c.put_written_line.ensures
