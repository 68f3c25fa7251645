-- What the functions of this crate that are not public answer, and the places of a packet as the leaf crates have them: no public contract reaches
-- this file. Assumes nothing.
use Rattle.std.specs.Prelude.{Bool, List, ℕ, eqb}
use Rattle.model.specs.Said.{Outcome, checked}
use Rattle.model.specs.Packet.{Packet, push_run_by}
use Rattle.packet_services.specs.Services.{services_to}
use Rattle.packet_entries.specs.Fields.{Fields, fields}
use Rattle.packet_entries.specs.Entries.{Entry}
use Rattle.packet_entries.specs.Entries as listed
use Rattle.packet_blocks.specs.declared.Filled.{Filled}
use Rattle.packet_blocks.specs.Reading as reading
use Rattle.packet.specs.declared.DTVCCPacket.{DTVCCPacket}
use Rattle.packet.specs.Packet.{packet_of, valid_dtvcc}

-- its places
abbrev pub fields_of : DTVCCPacket → Fields
fields_of p = fields p.seq_no p.count p.numbers p.sizes p.payload

-- the packet of places, with a set of services
abbrev pub packet_at : ℕ → Fields → DTVCCPacket
packet_at services f = record { seq_no = f.seq_no; count = f.count; services = services; numbers = f.numbers; sizes = f.sizes; payload = f.payload }

-- the same with the set of their numbers
abbrev pub packet_from : Fields → DTVCCPacket
packet_from f = packet_at (services_to f.count f.numbers) f

-- its entries
abbrev pub entries_of : DTVCCPacket → List Entry
entries_of p = listed.entries_of (fields_of p)

-- whether the set is that of the numbers in their places
unfoldable pub agrees : DTVCCPacket → Bool
agrees p = eqb p.services (services_to p.count p.numbers)

-- the packet of the places that a reading filled
abbrev pub filled_from : Filled → DTVCCPacket
filled_from r = packet_from (reading.fields_of r)

-- the packet with a run pushed to it in either form
abbrev pub pushed_by : Bool → ℕ → List ℕ → DTVCCPacket → Outcome Packet
pushed_by needs_room n run p = checked (valid_dtvcc p) (push_run_by needs_room n run (packet_of p))
