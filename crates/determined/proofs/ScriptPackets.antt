-- The text of a packet in a script, and the operations on it by their letters. Assumes nothing.
use mathlib.Core.List.{List}
use Prim.Native.Nat.{ℕ}
use contract.Lifetimes.{Lfts}
use Rattle.packet.specs.declared.DTVCCPacket.{DTVCCPacket}
use Rattle.script_answers.specs.Rows.{sought}
use Rattle.script_answers.proofs.Rows.{tried_settled}
use Rattle.script_packets.specs.Packets.{packet_rows}
use Rattle.script_packets.proofs.put_packet.Reads as PutPacketReads
use Rattle.script_packets.proofs.on_packet.Reads as OnPacketReads
use Rattle.determined.specs.Determines.{DeterminesLent}
use Rattle.determined.proofs.Ways.{two, at_once}
use Rattle.determined.proofs.ProgramText.{lays}

-- `put_packet(out, at, packet)`
pub put_packet : (κs : Lfts 2) → DeterminesLent (λ e. e.0.now) (PutPacketReads.Post κs)
put_packet κs = lays

-- `on_packet(out, at, block, packet, op, args)`
pub on_packet : (κs : Lfts 4) → DeterminesLent {X = List ℕ × DTVCCPacket} (λ e. (e.0.now, e.1.1.1.0.now)) (OnPacketReads.Post κs)
on_packet κs =
    at_once
    (λ a r q e g h k. let s = tried_settled (sought (packet_rows a.1.1.0.now a.1.1.1.0.now) a.1.1.1.1.0 a.1.1.1.1.1.0.now) a.1.1.1.0.now e.1.1.1.0.now g.1.1.1.0.now
    a.0.now e.0.now g.0.now a.1.0 r q h k in (s.0, two (λ x y. (x, y)) s.1.0 s.1.1))
