-- `parser_draws::read_slot` meets its contract: the slot is read, and told by one law of `Draws` for each way out. Assumes nothing.
use mathlib.Core.Path.{ap, ◌∙◌}
use Rattle.caption.specs.Answers.{outcome}
use Rattle.parser_draws.proofs.Draws.{read_long, read_some, read_none}
use Rattle.parser_draws.proofs.read_slot.Goals as goal

pub returns-then-slot-gt-MOST_PACKET : goal.returns-then-slot-gt-MOST_PACKET
returns-then-slot-gt-MOST_PACKET c = read_long _ c.if-slot-gt-MOST_PACKET.true

pub returns-in-Ok : goal.returns-in-Ok
returns-in-Ok c = read_some _ c.if-slot-gt-MOST_PACKET.false _ (rw c.in-Ok.is at c.parse_in.ensures.places)

pub returns-in-Err : goal.returns-in-Err
returns-in-Err c = read_none _ c.if-slot-gt-MOST_PACKET.false _ (rw c.in-Err.is at c.parse_in.ensures.places)
