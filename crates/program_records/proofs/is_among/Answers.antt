-- Looking a byte up is the definition's walk. Assumes nothing.
use Rattle.std.proofs.Common.{rules}
use Rattle.program_records.proofs.Readings.{found_among}
use Rattle.program_records.proofs.is_among.Goals as goal

pub returns : goal.returns
returns c = search (rules, found_among)
