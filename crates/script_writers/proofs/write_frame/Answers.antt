-- The rate is that of two numbers of four bytes, and the output is the front of an array of 255 bytes 0xA5. Assumes nothing.
use native.Mathlib.Omega.{arith}
use Rattle.script_answers.proofs.Lent.{front_of}
use Rattle.script_writers.proofs.Written.{did_write, told_frame}
use Rattle.script_writers.proofs.write_frame.Goals as goal

pub returns : goal.returns
returns c =
    let w = c.write-answer.ensures in
    told_frame c.args.args.now _ c.args.writer.now _ _ _ c.byte_at.result
    (did_write _ _ c.args.writer.now _ _ w.answer w.places w.output c.put_written_line.ensures) c.new-rate.ensures c.number_at.ensures c.number_at-2.ensures
    c.byte_at.ensures (front_of c.byte_at.result (omega arith))
