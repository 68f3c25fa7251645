-- `writer::CCDataWriter::set_true_count` meets its contract: one law gives all its clauses. Assumes nothing.
use mathlib.Core.Path.{refl}
use Rattle.model.specs.Mux.{true_counting}
use Rattle.caption.proofs.Outcomes.{given_valid}
use Rattle.writer.specs.Writer.{stored}
use Rattle.writer.specs.Calls.{switch_outcome}
use Rattle.writer.specs.Making.{switched}
use Rattle.writer.proofs.Calls.{Answers, done, switch_set}
use Rattle.writer.proofs.CCDataWriter.set_true_count.Goals as goal
use Rattle.writer.proofs.CCDataWriter.set_true_count.Goals.{In_ok-check}

-- the switch is set
set : (c : In_ok-check) → (let w = c.args.self.now in let x = true_counting c.args.true_count in Answers (switch_outcome x w) (stored w) w done (switched x w))
set c = switch_set c.args.self.now c.in_ok-check.ensures.shaped (given_valid _ _ _ c.in_ok-check.ensures.answer) (true_counting c.args.true_count) _ refl

pub returns-clause-answer : goal.returns-clause-answer
returns-clause-answer c = (set (goal.at.returns-clause-answer c).In_ok-check).answer

pub returns-clause-state : goal.returns-clause-state
returns-clause-state c = (set (goal.at.returns-clause-state c).In_ok-check).state

pub returns-clause-places : goal.returns-clause-places
returns-clause-places c = (set (goal.at.returns-clause-places c).In_ok-check).places
