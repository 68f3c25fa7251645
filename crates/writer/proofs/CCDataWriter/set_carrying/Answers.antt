-- `writer::CCDataWriter::set_carrying` meets its contract: one law gives all its clauses. Assumes nothing.
use mathlib.Core.Path.{ap}
use Rattle.model.specs.Mux.{carrying_mode}
use Rattle.caption.proofs.Outcomes.{given_valid}
use Rattle.writer_shares.specs.declared.Carry.{Carry}
use Rattle.writer.specs.Writer.{stored}
use Rattle.writer.specs.Calls.{switch_outcome}
use Rattle.writer.specs.Making.{with_switches}
use Rattle.writer.proofs.Calls.{Answers, done, switch_set}
use Rattle.writer.proofs.CCDataWriter.set_carrying.Goals as goal
use Rattle.writer.proofs.CCDataWriter.set_carrying.Goals.{After-carry_in-carry}

-- the mode is set
set : (c : After-carry_in-carry)
    → (let w = c.args.self.now in Answers (switch_outcome (carrying_mode c.args.carrying) w) (stored w) w done (with_switches w.output_cea608_padding w.output_padding w.true_count c.args.carrying c.carry_in-carry.result w))
set c =
    let w = c.args.self.now in
    switch_set w c.in_ok-check.ensures.shaped (given_valid _ _ _ c.in_ok-check.ensures.answer) (carrying_mode c.args.carrying) _
    (ap (λ (k : Carry). with_switches w.output_cea608_padding w.output_padding w.true_count c.args.carrying k w) c.carry_in-carry.ensures)

pub returns-clause-answer : goal.returns-clause-answer
returns-clause-answer c = (set (goal.at.returns-clause-answer c).After-carry_in-carry).answer

pub returns-clause-state : goal.returns-clause-state
returns-clause-state c = (set (goal.at.returns-clause-state c).After-carry_in-carry).state

pub returns-clause-places : goal.returns-clause-places
returns-clause-places c = (set (goal.at.returns-clause-places c).After-carry_in-carry).places
