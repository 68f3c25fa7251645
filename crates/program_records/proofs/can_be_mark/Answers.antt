-- By how many bytes there are, and by the first. Assumes nothing.
use Rattle.std.proofs.Common.{rules}
use Rattle.program_records.proofs.Readings.{mark_none, mark_half, mark_wrong, mark_whole}
use Rattle.program_records.proofs.can_be_mark.Goals as goal

pub returns-in-empty : goal.returns-in-empty
returns-in-empty c = mark_none _ _ _ c.in-empty.len_below

pub returns-in-len1 : goal.returns-in-len1
returns-in-len1 c = mark_half _ _ _ c.in-len1.len_at_least c.in-len1.len_below

pub returns-else-first-one : goal.returns-else-first-one
returns-else-first-one c = search (rules, mark_wrong)

pub returns-then-first-one : goal.returns-then-first-one
returns-then-first-one c = search (rules, mark_whole)
