-- `writer::CCDataWriter::buffered_packet_duration` meets its contract. Assumes nothing.
use Rattle.caption.proofs.Outcomes.{given_valid}
use Rattle.writer.proofs.Calls.{packet_duration_is}
use Rattle.writer.proofs.CCDataWriter.buffered_packet_duration.Goals as goal

pub returns : goal.returns
returns c = packet_duration_is c.args.self.now c.in_ok-check.ensures.shaped (given_valid _ _ _ c.in_ok-check.ensures.answer) _ c.packets_duration.ensures
