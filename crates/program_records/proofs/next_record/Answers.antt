-- Each way out is a law of the definition, over the bytes from the place on. Assumes nothing.
use Rattle.std.proofs.Common.{rules}
use Rattle.program_records.proofs.Readings.{found_none, found_wrong, found_cut, found_record}
use Rattle.program_records.proofs.next_record.Goals as goal

pub returns-then-is_empty : goal.returns-then-is_empty
returns-then-is_empty c = search (rules, found_none)

pub returns-then-not-can_be_mark : goal.returns-then-not-can_be_mark
returns-then-not-can_be_mark c = search (rules, found_wrong)

pub returns-then-rest-len : goal.returns-then-rest-len
returns-then-rest-len c = search (rules, found_cut)

pub returns : goal.returns
returns c = search (rules, found_record)
