-- `writer::CCDataWriter::buffered_cea608_field2_duration` meets its contract. Assumes nothing.
use Rattle.caption.proofs.Outcomes.{given_valid}
use Rattle.writer.proofs.Calls.{second_duration}
use Rattle.writer.proofs.CCDataWriter.buffered_cea608_field2_duration.Goals as goal

pub returns : goal.returns
returns c = second_duration c.args.self.now c.in_ok-check.ensures.shaped (given_valid _ _ _ c.in_ok-check.ensures.answer) _ c.duration.ensures
