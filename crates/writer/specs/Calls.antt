-- What the calls of the multiplexer come to in the model, and where they leave the state [A1] [A2]. Assumes nothing.
use Rattle.std.specs.Prelude.{◌&&◌, List, ℕ}
use Rattle.model.specs.Said.{Outcome, gave, after, checked, mapped}
use Rattle.model.specs.Mux.{Mux, Switch, with_switch, push_packet, push_cea608, flush_mux, Written, write_at}
use Rattle.caption.specs.Pairs.{cea608_of}
use Rattle.caption.specs.declared.Cea608.{Cea608}
use Rattle.caption.specs.declared.Framerate.{Framerate}
use Rattle.packet.specs.Packet.{packet_of, valid_dtvcc}
use Rattle.packet.specs.declared.DTVCCPacket.{DTVCCPacket}
use Rattle.writer.specs.Writer.{means, valid_writer}
use Rattle.writer.specs.declared.CCDataWriter.{CCDataWriter}

-- the places behind a call: what the model gives stands where `places` puts it, and a refusal leaves all as it was
abbrev pub placed : (CCDataWriter → Mux → CCDataWriter) → CCDataWriter → Outcome Mux → CCDataWriter
placed places w o = after w (mapped (places w) o)

-- a switch set [W12] [W15] [W17]
abbrev pub switch_outcome : Switch → CCDataWriter → Outcome Mux
switch_outcome x w = checked (valid_writer w) (gave (with_switch x (means w)))

-- a pair pushed [W11]
abbrev pub pair_outcome : Cea608 → CCDataWriter → Outcome Mux
pair_outcome c w = checked (valid_writer w) (push_cea608 (cea608_of c) (means w))

-- a packet pushed [W10]
abbrev pub packet_outcome : DTVCCPacket → CCDataWriter → Outcome Mux
packet_outcome d w = checked (valid_writer w && valid_dtvcc d) (push_packet (packet_of d) (means w))

-- all that waits dropped [W13]
abbrev pub flush_outcome : CCDataWriter → Outcome Mux
flush_outcome w = checked (valid_writer w) (gave (flush_mux (means w)))

-- a frame written to a lent output at a rate
unfoldable pub written : Framerate → List ℕ → CCDataWriter → Outcome Written
written rate out w = checked (valid_writer w) (write_at rate.numer rate.denom out (means w))
