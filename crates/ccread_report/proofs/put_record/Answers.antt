-- One law of `Packets` for each kind. Assumes nothing.
use Rattle.ccread_report.proofs.Packets.{packet_record, frame_record}
use Rattle.ccread_report.proofs.put_record.Goals as goal

pub returns-then-kind-eq-PACKET-clause-laid : goal.returns-then-kind-eq-PACKET-clause-laid
returns-then-kind-eq-PACKET-clause-laid c =
    let s = c.args in (packet_record s.number s.kind s.bytes.now s.before _ c.if-kind-eq-PACKET.true c.put_cdp.ensures.laid c.put_cdp.ensures.capture_value).0

pub returns-then-kind-eq-PACKET-clause-capture_value : goal.returns-then-kind-eq-PACKET-clause-capture_value
returns-then-kind-eq-PACKET-clause-capture_value c =
    let s = c.args in (packet_record s.number s.kind s.bytes.now s.before _ c.if-kind-eq-PACKET.true c.put_cdp.ensures.laid c.put_cdp.ensures.capture_value).1

pub returns-clause-laid : goal.returns-clause-laid
returns-clause-laid c =
    let s = c.args in (frame_record s.number s.kind s.bytes.now s.before _ _ c.if-kind-eq-PACKET.false c.put_frame.ensures.laid c.put_frame.ensures.parser_value c.beside.ensures).0

pub returns-clause-capture_value : goal.returns-clause-capture_value
returns-clause-capture_value c =
    let s = c.args in (frame_record s.number s.kind s.bytes.now s.before _ _ c.if-kind-eq-PACKET.false c.put_frame.ensures.laid c.put_frame.ensures.parser_value c.beside.ensures).1
