-- What the reader tells of the packet is told; its frame, where it has one, stands in front of what was lent. Assumes nothing.
use Rattle.ccread_report.proofs.Packets.{accepted_cdp, refused_cdp}
use Rattle.ccread_report.proofs.put_cdp.Goals as goal

pub returns-in-Ok-clause-laid : goal.returns-in-Ok-clause-laid
returns-in-Ok-clause-laid c =
    let s = c.args in (accepted_cdp s.number s.packet.now s.before _ c.read-received.ensures.answer _ c.read-received.ensures.places _ c.read-received.ensures.output _ c.in-Ok.is _ c.part.ensures _ _ c.put_cdp_line-laid.ensures c.put_frame-told.ensures.laid c.put_frame-told.ensures.parser_value c.beside.ensures).0

pub returns-in-Ok-clause-capture_value : goal.returns-in-Ok-clause-capture_value
returns-in-Ok-clause-capture_value c =
    let s = c.args in (accepted_cdp s.number s.packet.now s.before _ c.read-received.ensures.answer _ c.read-received.ensures.places _ c.read-received.ensures.output _ c.in-Ok.is _ c.part.ensures _ _ c.put_cdp_line-laid.ensures c.put_frame-told.ensures.laid c.put_frame-told.ensures.parser_value c.beside.ensures).1

pub returns-in-Err-clause-laid : goal.returns-in-Err-clause-laid
returns-in-Err-clause-laid c =
    let s = c.args in (refused_cdp s.number s.packet.now s.before _ c.read-received.ensures.answer _ c.read-received.ensures.places _ c.in-Err.is _ c.put_cdp_line-laid.ensures c.beside-in-Err.ensures).0

pub returns-in-Err-clause-capture_value : goal.returns-in-Err-clause-capture_value
returns-in-Err-clause-capture_value c =
    let s = c.args in (refused_cdp s.number s.packet.now s.before _ c.read-received.ensures.answer _ c.read-received.ensures.places _ c.in-Err.is _ c.put_cdp_line-laid.ensures c.beside-in-Err.ensures).1
