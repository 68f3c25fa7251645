-- The line and what is left are those that reading promises. Assumes nothing.
use Rattle.script_distribution.proofs.Received.{did_read}
use Rattle.script_distribution.proofs.read_packet.Goals as goal

pub returns : goal.returns
returns c =
    did_read c.args.bytes.now c.args.link.now c.read-received.result c.read-received.new.self c.read-received.ensures.answer c.read-received.ensures.places c.read-received.ensures.output
    c.put_received_line.ensures
