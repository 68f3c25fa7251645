-- `writer::CCDataWriter::flush` meets its contract: one law gives all its clauses. Assumes nothing.
use mathlib.Core.Path.{sym}
use Rattle.caption.proofs.Outcomes.{given_valid}
use Rattle.writer.specs.Writer.{emptied}
use Rattle.writer.specs.Calls.{flush_outcome}
use Rattle.writer.specs.Making.{flushed}
use Rattle.writer.proofs.Stored.{flushed_is}
use Rattle.writer.proofs.Calls.{Answers, done, flushes}
use Rattle.writer.proofs.CCDataWriter.flush.Goals as goal
use Rattle.writer.proofs.CCDataWriter.flush.Goals.{In_ok-check}

-- all is dropped
dropped : (c : In_ok-check) → (let w = c.args.self.now in Answers (flush_outcome w) (emptied w) w done (flushed w))
dropped c = flushes c.args.self.now c.in_ok-check.ensures.shaped (given_valid _ _ _ c.in_ok-check.ensures.answer) _ (sym (flushed_is c.args.self.now))

pub returns-clause-answer : goal.returns-clause-answer
returns-clause-answer c = (dropped (goal.at.returns-clause-answer c).In_ok-check).answer

pub returns-clause-state : goal.returns-clause-state
returns-clause-state c = (dropped (goal.at.returns-clause-state c).In_ok-check).state

pub returns-clause-places : goal.returns-clause-places
returns-clause-places c = (dropped (goal.at.returns-clause-places c).In_ok-check).places
