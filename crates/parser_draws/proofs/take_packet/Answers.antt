-- `parser_draws::take_packet` meets its contract: one law of `Draws` for each way out. Assumes nothing.
use mathlib.Core.Path.{◌≡◌}
use mathlib.Core.Bool.{true, false}
use Rattle.parser_draws.specs.Take.{has_packet, head_run, packet_at}
use Rattle.parser_draws.proofs.Draws.{packet_none, packet_nowhere, packet_unread, packet_reads, head_last, head_next}
use Rattle.parser_draws.proofs.take_packet.Goals as goal

-- none waits
pub returns-then-count-eq0-clause-packet : goal.returns-then-count-eq0-clause-packet
returns-then-count-eq0-clause-packet c = rw (packet_none c.args.first.now _ c.args.slots.now c.if-count-eq0.true)

pub returns-then-count-eq0-clause-head : goal.returns-then-count-eq0-clause-head
returns-then-count-eq0-clause-head c = rw (packet_none c.args.first.now _ c.args.slots.now c.if-count-eq0.true)

-- the head is at no place
pub returns-then-first-gt31-clause-packet : goal.returns-then-first-gt31-clause-packet
returns-then-first-gt31-clause-packet c = rw (packet_nowhere _ _ c.args.slots.now c.if-count-eq0.false c.if-first-gt31.true)

pub returns-then-first-gt31-clause-left : goal.returns-then-first-gt31-clause-left
returns-then-first-gt31-clause-left c = rw (packet_nowhere _ _ c.args.slots.now c.if-count-eq0.false c.if-first-gt31.true)

pub returns-then-first-gt31-clause-head : goal.returns-then-first-gt31-clause-head
returns-then-first-gt31-clause-head c = rw (packet_nowhere _ _ c.args.slots.now c.if-count-eq0.false c.if-first-gt31.true)

-- the slot does not read
unread : (c : goal.After-from_residual) → has_packet c.args.first.now c.args.count.now c.args.slots.now ≡ false
unread c = packet_unread _ _ _ c.if-count-eq0.false c.if-first-gt31.false _ c.read_slot.ensures c.in_err-packet.was

pub returns-in_err-packet-clause-packet : goal.returns-in_err-packet-clause-packet
returns-in_err-packet-clause-packet c = rw (unread c) c.from_residual.ensures

pub returns-in_err-packet-clause-left : goal.returns-in_err-packet-clause-left
returns-in_err-packet-clause-left c = rw (unread c)

pub returns-in_err-packet-clause-head : goal.returns-in_err-packet-clause-head
returns-in_err-packet-clause-head c = rw (unread c)

-- it does, and was the last
last : (c : goal.Then-count-eq0-2) → (has_packet c.args.first.now c.args.count.now c.args.slots.now ≡ true) × (c.in_ok-packet.packet ≡ packet_at (head_run c.args.first.now c.args.slots.now))
last c = packet_reads _ _ _ c.if-count-eq0.false c.if-first-gt31.false _ c.read_slot.ensures _ c.in_ok-packet.was

pub returns-then-count-eq0-2-clause-packet : goal.returns-then-count-eq0-2-clause-packet
returns-then-count-eq0-2-clause-packet c = rw ((last c).0, (last c).1)

pub returns-then-count-eq0-2-clause-left : goal.returns-then-count-eq0-2-clause-left
returns-then-count-eq0-2-clause-left c = rw (last c).0

pub returns-then-count-eq0-2-clause-head : goal.returns-then-count-eq0-2-clause-head
returns-then-count-eq0-2-clause-head c = rw (last c).0 (head_last _ _ c.if-count-eq0.false c.if-count-eq0-2.true)

-- it does, and others are left
next : (c : goal.Else-count-eq0-2) → (has_packet c.args.first.now c.args.count.now c.args.slots.now ≡ true) × (c.in_ok-packet.packet ≡ packet_at (head_run c.args.first.now c.args.slots.now))
next c = packet_reads _ _ _ c.if-count-eq0.false c.if-first-gt31.false _ c.read_slot.ensures _ c.in_ok-packet.was

pub returns-else-count-eq0-2-clause-packet : goal.returns-else-count-eq0-2-clause-packet
returns-else-count-eq0-2-clause-packet c = rw ((next c).0, (next c).1)

pub returns-else-count-eq0-2-clause-left : goal.returns-else-count-eq0-2-clause-left
returns-else-count-eq0-2-clause-left c = rw (next c).0

pub returns-else-count-eq0-2-clause-head : goal.returns-else-count-eq0-2-clause-head
returns-else-count-eq0-2-clause-head c = rw (next c).0 (head_next _ _ c.if-count-eq0.false c.if-count-eq0-2.false)
