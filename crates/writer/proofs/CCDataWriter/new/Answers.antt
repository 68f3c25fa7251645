-- `writer::CCDataWriter::new` meets its contract. Assumes nothing.
use mathlib.Core.Path.{refl}
use Rattle.writer_queues.specs.Queue.{pair_bytes, queue_over}
use Rattle.writer.specs.Writer.{fresh}
use Rattle.writer.proofs.Laws.{means_fresh}
use Rattle.writer.proofs.CCDataWriter.new.Goals as goal

pub returns-clause-state : goal.returns-clause-state
unfolding fresh queue_over pair_bytes
returns-clause-state c = means_fresh

pub returns-clause-places : goal.returns-clause-places
unfolding fresh queue_over pair_bytes
returns-clause-places c = refl
