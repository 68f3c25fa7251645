-- What the packer has, in the model's words, and what its functions that are not public leave: no public contract reaches this file. Assumes nothing.
use Rattle.std.specs.Prelude.{◌≡◌, true, List, ℕ, suc}
use Rattle.model.specs.Said.{after}
use Rattle.model.specs.Packet.{no_packet, push_run}
use Rattle.packet_entries.specs.Fields as fields
use Rattle.packet.specs.declared.DTVCCPacket.{DTVCCPacket}
use Rattle.packet.specs.Packet.{valid_dtvcc, packet_of}
use Rattle.packet.specs.Replies.{fields_of}
use Rattle.model_packing.specs.Proposals.{zeros}
use Rattle.model_packing.specs.FirstCome.{placed}
use Rattle.model_packing.specs.FirstCome as model
use Rattle.packing.specs.declared.Filling.{Filling}

-- the packet that it holds, and how many there are before it
abbrev pub filling_of : Filling → model.Filling
filling_of at = record { before = at.before; packet = packet_of at.packet }

-- its three arrays have their places
abbrev pub InPlaces : DTVCCPacket → Type 0
InPlaces p = fields.Places (fields_of p)

-- the next packet, with the run
pub record BeginsWith (before service : ℕ) (run : List ℕ) (to : Filling) : Type 0 where
  pub means : filling_of to ≡ record { before = suc before; packet = after no_packet (push_run service run no_packet) }
  pub valid : valid_dtvcc to.packet ≡ true
  pub places : InPlaces to.packet

-- what there is when a run of so many bytes is placed
pub record PlacesRun (service size : ℕ) (at to : Filling) : Type 0 where
  pub means : filling_of to ≡ placed service (zeros size) (filling_of at)
  pub valid : valid_dtvcc to.packet ≡ true
  pub places : InPlaces to.packet
