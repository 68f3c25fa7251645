-- What a `DTVCCPacket` holds, and what its functions answer. Assumes nothing.
use Rattle.std.specs.Prelude.{Bool, ◌&&◌, ◌+◌, ℕ, eqb, leb, length, take, replicate}
use mathlib.Core.List.{List, map, flat_map, foldr}
use Rattle.std.proofs.lemmas.List.Edits.{sets}
use Rattle.model.specs.Said.{Outcome, gave, after, mapped, checked, put_into}
use Rattle.model.specs.Block.{Block}
use Rattle.model.specs.Packet.{Packet, valid_packet, push_block, push_run, push_run_single, written_packet}
use Rattle.model.specs.Services.{numbers_of, services_of}
use Rattle.service.specs.declared.Service.{Service}
use Rattle.service.specs.Service.{block_of, valid_service}
use Rattle.packet_entries.specs.Fields.{blocks_held}
use Rattle.packet.specs.declared.DTVCCPacket.{DTVCCPacket}

-- the packet that it holds
abbrev pub packet_of : DTVCCPacket → Packet
packet_of p = record { sequence = p.seq_no; blocks = blocks_held p.count p.numbers p.sizes p.payload }

-- whether its blocks and their payloads are in their places, the packet breaks no limit, and the set is that of its services [P1] [P15]
unfoldable pub valid_dtvcc : DTVCCPacket → Bool
valid_dtvcc p = leb p.count 63 && leb (foldr ◌+◌ 0 (take p.count p.sizes)) 127 && valid_packet (packet_of p) && eqb p.services (services_of (packet_of p))

-- a packet laid over the places of another, its payloads one behind the other, with the set of its services: what stands behind it stays
unfoldable pub over : DTVCCPacket → Packet → DTVCCPacket
over old p =
    record {
      seq_no = p.sequence;
      count = length p.blocks;
      services = services_of p;
      numbers = sets old.numbers 0 (numbers_of p.blocks);
      sizes = sets old.sizes 0 (map (λ (b : Block). length b.payload) p.blocks);
      payload = sets old.payload 0 (flat_map (λ (b : Block). b.payload) p.blocks);
    }

-- no packet: zeros in all places, and no service
abbrev pub blank : DTVCCPacket
blank = record { seq_no = 0; count = 0; services = 0; numbers = replicate 63 0; sizes = replicate 63 0; payload = replicate 127 0 }

-- a packet with zeros behind it
abbrev pub laid : Packet → DTVCCPacket
laid p = over blank p

-- what is asked of it; 11 where it breaks a limit
abbrev pub asked : {A : Type 0} → DTVCCPacket → (Packet → A) → Outcome A
asked p f = checked (valid_dtvcc p) (gave (f (packet_of p)))

-- the packet with a block pushed to it: both are within the limits
abbrev pub pushed_block : Service → DTVCCPacket → Outcome Packet
pushed_block s p = checked (valid_dtvcc p && valid_service s) (push_block (block_of s) (packet_of p))

-- with a run pushed to it
abbrev pub pushed_run : ℕ → List ℕ → DTVCCPacket → Outcome Packet
pushed_run n run p = checked (valid_dtvcc p) (push_run n run (packet_of p))

-- with a run pushed to it in the single-service form
abbrev pub pushed_single : ℕ → List ℕ → DTVCCPacket → Outcome Packet
pushed_single n run p = checked (valid_dtvcc p) (push_run_single n run (packet_of p))

-- the places behind a call: what it gives is laid over the old ones, and a refusal leaves them
abbrev pub left : DTVCCPacket → Outcome Packet → DTVCCPacket
left old o = after old (mapped (over old) o)

-- the packet as it is written
abbrev pub bytes_of : DTVCCPacket → List ℕ
bytes_of p = written_packet (packet_of p)

-- a lent output with the packet written to it
abbrev pub written : DTVCCPacket → List ℕ → Outcome (List ℕ)
written p out = checked (valid_dtvcc p) (put_into out (bytes_of p))
