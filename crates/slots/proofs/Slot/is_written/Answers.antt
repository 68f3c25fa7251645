-- `slots::Slot::is_written` meets its contract: one law of `Spans` for each way out of the walk, which is exact. Assumes nothing.
use mathlib.Core.Path.{◌∙◌}
use mathlib.Core.Logic.{⊎_elim}
use native.Mathlib.Omega.{arith}
use Rattle.slots.proofs.Spans.{too_short, too_long, wrong_header, wrong_fill, by_blocks, even_fill, zero_fill}
use Rattle.slots.proofs.Exact.{walked_written}
use borrow.Author.Rules.{rules}
use Rattle.slots.proofs.Slot.is_written.Goals as goal
use Rattle.slots.proofs.Slot.is_written.Goals.{then-self-eq1+else-self-ne0, else-self-eq1}

pub returns-then-self-lt-LEAST_PACKET : goal.returns-then-self-lt-LEAST_PACKET
returns-then-self-lt-LEAST_PACKET c = too_short c.args.self.now c.if-self-lt-LEAST_PACKET.true ∙ walked_written _

pub returns-then-self-gt-MOST_PACKET : goal.returns-then-self-gt-MOST_PACKET
returns-then-self-gt-MOST_PACKET c = too_long c.args.self.now c.if-self-lt-LEAST_PACKET.false c.if-self-gt-MOST_PACKET.true ∙ walked_written _

pub returns-then-self : goal.returns-then-self
returns-then-self c =
    wrong_header c.args.self.now c.if-self-lt-LEAST_PACKET.false c.if-self-gt-MOST_PACKET.false c.if-self.true ∙ walked_written _

pub returns-then-self-ne0 : goal.returns-then-self-ne0
returns-then-self-ne0 c =
    wrong_fill c.args.self.now c.if-self-lt-LEAST_PACKET.false c.if-self-gt-MOST_PACKET.false c.if-self.false (search (rules, c.type_inv)) c.if-self-eq1.true c.if-self-ne0.true
    ∙ walked_written _

pub returns : goal.returns
returns c =
    by_blocks c.args.self.now c.if-self-lt-LEAST_PACKET.false c.if-self-gt-MOST_PACKET.false c.if-self.false (search (rules, c.type_inv)) (search (rules, c.well_formed))
    (elim c.if-self-eq1.branch [ then-self-eq1+else-self-ne0 w ↦ zero_fill c.args.self.now w.if-self-ne0.false | else-self-eq1 w ↦ even_fill c.args.self.now w.if-self-eq1.false ]) c.blocks_whole.ensures ∙ walked_written _
