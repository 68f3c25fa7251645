-- By whether the line is short enough. Assumes nothing.
use Rattle.std.proofs.Common.{arith}
use Rattle.ccscript.proofs.Lines.{short_line, long_line}
use Rattle.ccscript.proofs.RunnerTeller.tell.Goals as goal

pub returns-then-size-lt-ROOM-clause-text : goal.returns-then-size-lt-ROOM-clause-text
returns-then-size-lt-ROOM-clause-text c = λ room. short_line _ c.run_record-end.ensures.told room (omega (arith, c.if-size-lt-ROOM.true, c.saturating_sub-size.ensures))

pub returns-clause-text : goal.returns-clause-text
returns-clause-text c = λ room. long_line _ c.run_record-end.ensures.told room (omega (arith, c.if-size-lt-ROOM.false, c.saturating_sub-size.ensures))
