-- All lines are laid behind those that wait. Assumes nothing.
use Rattle.std.proofs.Common.{arith}
use Rattle.program_text.proofs.Layings.{whole_taken}
use Rattle.ccread.proofs.ReaderTeller.tell.Goals as goal

pub returns-clause-text : goal.returns-clause-text
returns-clause-text c = λ room. whole_taken (c.put_record-told.ensures.whole room) (omega (arith, room))
