-- The output is the front of an array of 255 bytes 0xA5, as long as the argument says. Assumes nothing.
use native.Mathlib.Omega.{arith}
use Rattle.packet.specs.Packet.{bytes_of, valid_dtvcc}
use Rattle.script_answers.proofs.Lent.{front_of, told_written}
use Rattle.script_packets.proofs.put_written_packet.Goals as goal

pub returns : goal.returns
returns c =
    told_written (valid_dtvcc c.args.packet.now) (bytes_of c.args.packet.now) c.args.len _ (front_of c.args.len (omega arith)) c.write-answer.ensures.answer
    c.write-answer.ensures.output c.put_written_line.ensures
