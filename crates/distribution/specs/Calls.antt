-- What the calls of a reader and of a writer come to in the model, and what is told of a packet that is read [A1]. Assumes nothing.
use Rattle.std.specs.Prelude.{List, ℕ, length}
use Rattle.model.specs.Said.{Outcome}
use Rattle.model.specs.Distribution.{frame_of, receive, Distributed, distribute}
use Rattle.model.specs.Distribution as packets
use Rattle.distribution.specs.States.{last_of}
use Rattle.distribution.specs.declared.Received.{Received}
use Rattle.distribution.specs.declared.DistributionReader.{DistributionReader}
use Rattle.distribution.specs.declared.DistributionWriter.{DistributionWriter}

-- a packet read by a reader into an output
abbrev pub read_by : DistributionReader → List ℕ → List ℕ → Outcome packets.Received
read_by reader packet out = receive (last_of reader.last) packet out

-- the code of its rate, its counter, and the length of its frame
abbrev pub told_of : packets.Received → Received
told_of x = record { code = x.packet.code; counter = x.packet.counter; len = length (frame_of x.packet) }

-- a frame written by a writer into an output, at the rate of a code
abbrev pub written_by : DistributionWriter → ℕ → List ℕ → List ℕ → Outcome Distributed
written_by writer code frame out = distribute writer.next code frame out
