-- The four bytes of a part are those of the whole. Assumes nothing.
use Rattle.std.proofs.Common.{rules, ◌∙◌}
use Rattle.program_records.proofs.Readings.{four_bytes}
use Rattle.program_records.proofs.number_at.Goals as goal

pub returns : goal.returns
returns c = c.from_be_bytes.ensures ∙ search (rules, four_bytes)
