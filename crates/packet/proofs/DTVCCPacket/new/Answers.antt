-- A sequence number of at most 3 makes a packet. Assumes nothing.
use mathlib.Core.Path.{sym}
use mathlib.Core.List.{flat_map}
use native.Mathlib.Omega.{arith}
use Rattle.model.specs.Services.{among, bits_of, services_of}
use Rattle.packet_entries.specs.Fields.{blocks_held}
use Rattle.packet.specs.Packet.{over}
use Rattle.packet.proofs.Measures.{new_good}
use Rattle.packet.proofs.DTVCCPacket.new.Goals as goal

pub returns-clause-answer : goal.returns-clause-answer
unfolding blocks_held
returns-clause-answer c = sym (new_good c.args.seq_no (omega arith))

pub returns-clause-places : goal.returns-clause-places
unfolding over flat_map services_of bits_of among
returns-clause-places c = rw (new_good c.args.seq_no (omega arith))
