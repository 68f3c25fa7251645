-- `writer::CCDataWriter::is_within` meets its contract: one law of `Valid` for each way out. Assumes nothing.
use mathlib.Core.Path.{sym, ◌∙◌}
use borrow.Author.Rules.{rules}
use Rattle.writer.specs.Writer.{Shaped}
use Rattle.writer.proofs.Shape as shape
use Rattle.writer.proofs.Valid.{over_first, over_second, over_carry, by_slots}
use Rattle.writer.proofs.CCDataWriter.is_within.Goals as goal
use Rattle.writer.proofs.CCDataWriter.is_within.Goals.{After-is_valid-second}

-- the arrays have their lengths
shaped : (c : After-is_valid-second) → Shaped c.args.self.now
shaped c = search (rules, shape.shaped)

pub returns-then-not-first : goal.returns-then-not-first
returns-then-not-first c =
    let s = shaped (goal.at.returns-then-not-first c).After-is_valid-second in
    record { value = over_first _ s (sym c.if-not-first.true ∙ c.is_valid-first.ensures.value); shaped = s }

pub returns-then-not-second : goal.returns-then-not-second
returns-then-not-second c =
    let s = shaped (goal.at.returns-then-not-second c).After-is_valid-second in
    record { value = over_second _ s (sym c.if-not-first.false ∙ c.is_valid-first.ensures.value) (sym c.if-not-second.true ∙ c.is_valid-second.ensures.value); shaped = s }

pub returns-then-not-is_valid : goal.returns-then-not-is_valid
returns-then-not-is_valid c =
    let s = shaped (goal.at.returns-then-not-is_valid c).After-is_valid-second in
    record { value = over_carry _ s (sym c.if-not-is_valid.true ∙ c.is_valid.ensures); shaped = s }

pub returns : goal.returns
returns c =
    let s = shaped (goal.at.returns c).After-is_valid-second in
    record {
      value = by_slots _ s (sym c.if-not-first.false ∙ c.is_valid-first.ensures.value) (sym c.if-not-second.false ∙ c.is_valid-second.ensures.value)
          (sym c.if-not-is_valid.false ∙ c.is_valid.ensures) c.slots_written.ensures;
      shaped = s;
    }
