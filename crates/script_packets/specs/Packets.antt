-- The operations of a script on its packet, to which its block can be pushed: what each does, and their rows. Assumes nothing.
use Rattle.std.specs.Prelude.{◌&&◌, List, [], ◌∷◌, ℕ, drop}
use Rattle.model.specs.Said.{mapped, checked}
use Rattle.model.specs.Packet.{new_packet, read_packet, read_tidy, written_packet, push_block, push_run, push_run_single}
use Rattle.service.specs.declared.Service.{Service}
use Rattle.service.specs.Service.{block_of, valid_service}
use Rattle.packet.specs.declared.DTVCCPacket.{DTVCCPacket}
use Rattle.packet.specs.Packet.{packet_of, valid_dtvcc, over, laid}
use Rattle.script_answers.specs.Script.{answer_line}
use Rattle.script_answers.specs.Steps.{Effect, lays, renews, takes, becomes, stays, written_line}
use Rattle.script_answers.specs.Rows.{Row, row, exactly, number_and_run, all_of_them, byte}
use Rattle.script_services.specs.Sets.{set_in, services_line}
use Rattle.script_packets.specs.Lines.{packet_measures, held_line}

-- a new packet of a sequence number
abbrev pub renews_packet : ℕ → DTVCCPacket → Effect DTVCCPacket
renews_packet sequence p = renews (mapped laid (new_packet sequence)) p

-- a block at the end of the packet
abbrev pub pushes_block : Service → DTVCCPacket → Effect DTVCCPacket
pushes_block s p = lays over p (checked (valid_dtvcc p && valid_service s) (push_block (block_of s) (packet_of p)))

-- a run for a service
abbrev pub pushes_run : ℕ → List ℕ → DTVCCPacket → Effect DTVCCPacket
pushes_run number run p = lays over p (checked (valid_dtvcc p) (push_run number run (packet_of p)))

-- a run for a service, in the single-service form
abbrev pub pushes_single : ℕ → List ℕ → DTVCCPacket → Effect DTVCCPacket
pushes_single number run p = lays over p (checked (valid_dtvcc p) (push_run_single number run (packet_of p)))

-- the packet's sequence number, length and room, and how many blocks it has
abbrev pub measures_packet : DTVCCPacket → Effect DTVCCPacket
measures_packet p = stays p (answer_line (packet_measures p))

-- the packet in an output of so many bytes
abbrev pub writes_packet : ℕ → DTVCCPacket → Effect DTVCCPacket
writes_packet len p = stays p (written_line (valid_dtvcc p) (written_packet (packet_of p)) len)

-- the packet that some bytes hold, read plainly,
abbrev pub reads_plainly : List ℕ → DTVCCPacket → Effect DTVCCPacket
reads_plainly bytes p = takes held_line (mapped laid (read_packet bytes)) p

-- and tidily
abbrev pub reads_tidily : List ℕ → DTVCCPacket → Effect DTVCCPacket
reads_tidily bytes p = takes held_line (mapped laid (read_tidy bytes)) p

-- the packet's sequence number and its count of blocks, whatever they break
abbrev pub sets_packet : ℕ → ℕ → DTVCCPacket → Effect DTVCCPacket
sets_packet sequence count p =
    becomes (record { seq_no = sequence; count = count; services = p.services; numbers = p.numbers; sizes = p.sizes; payload = p.payload })

-- the packet's set, whatever it breaks
abbrev pub sets_services : ℕ → DTVCCPacket → Effect DTVCCPacket
sets_services services p =
    becomes (record { seq_no = p.seq_no; count = p.count; services = services; numbers = p.numbers; sizes = p.sizes; payload = p.payload })

-- the packet's services, and how many they are
abbrev pub tells_services : DTVCCPacket → Effect DTVCCPacket
tells_services p = stays p (services_line p)

-- those that leave the packet as it is
unfoldable pub telling_rows : DTVCCPacket → List (Row DTVCCPacket)
telling_rows p =
    row "l" (exactly 0) (λ a. measures_packet p)
    ∷ row "o" (exactly 1) (λ a. writes_packet (byte a 0) p)
    ∷ row "z" (exactly 0) (λ a. tells_services p)
    ∷ []

-- before those the ones that push to it
unfoldable pub pushing_rows : Service → DTVCCPacket → List (Row DTVCCPacket)
pushing_rows s p =
    row "v" (exactly 0) (λ a. pushes_block s p)
    ∷ row "a" number_and_run (λ a. pushes_run (byte a 0) (drop 1 a) p)
    ∷ row "i" number_and_run (λ a. pushes_single (byte a 0) (drop 1 a) p)
    ∷ telling_rows p

-- all, and before those the ones that replace it or fields of it
unfoldable pub packet_rows : Service → DTVCCPacket → List (Row DTVCCPacket)
packet_rows s p =
    row "k" (exactly 1) (λ a. renews_packet (byte a 0) p)
    ∷ row "p" all_of_them (λ a. reads_plainly a p)
    ∷ row "t" all_of_them (λ a. reads_tidily a p)
    ∷ row "K" (exactly 2) (λ a. sets_packet (byte a 0) (byte a 1) p)
    ∷ row "Z" (exactly 8) (λ a. sets_services (set_in a) p)
    ∷ pushing_rows s p
