-- `writer::CCDataWriter::push_cea608` meets its contract: one law gives all clauses of each way out. Assumes nothing.
use mathlib.Core.Path.{refl}
use borrow.Author.Rules.{rules}
use Rattle.std.specs.Prelude.{Err}
use Rattle.caption.proofs.Outcomes.{given_valid}
use Rattle.writer.specs.Writer.{stored}
use Rattle.writer.specs.Calls.{pair_outcome}
use Rattle.writer.specs.Making.{with_fields}
use Rattle.writer.proofs.Calls.{Answers, done, pushed_first, pushed_second}
use Rattle.writer.proofs.CCDataWriter.push_cea608.Goals as goal
use Rattle.writer.proofs.CCDataWriter.push_cea608.Goals.{In_ok-self-in-Field1, In_err-self-in-Field1, In_ok-self-in-Field2, In_err-self-in-Field2}

-- a pair of field 1, taken
taken1 : (c : In_ok-self-in-Field1) → (let w = c.args.self.now in Answers (pair_outcome c.args.cea608 w) (stored w) w done (with_fields c.in_ok-self-in-Field1.field-0 w.field2 w))
taken1 c = pushed_first c.args.self.now c.in_ok-check.ensures.shaped (given_valid _ _ _ c.in_ok-check.ensures.answer) _ _ done _ refl c.in-Field1.is c.in_ok-self-in-Field1.ensures

-- refused
refused1 : (c : In_err-self-in-Field1) → (let w = c.args.self.now in Answers (pair_outcome c.args.cea608 w) (stored w) w (Err c.in_err-self-in-Field1.field-0.0) w)
refused1 c = pushed_first c.args.self.now c.in_ok-check.ensures.shaped (given_valid _ _ _ c.in_ok-check.ensures.answer) _ _ (Err c.in_err-self-in-Field1.field-0.0) _ refl c.in-Field1.is c.in_err-self-in-Field1.ensures

pub returns-in_ok-self-in-Field1-clause-answer : goal.returns-in_ok-self-in-Field1-clause-answer
returns-in_ok-self-in-Field1-clause-answer c = (taken1 (goal.at.returns-in_ok-self-in-Field1-clause-answer c).In_ok-self-in-Field1).answer

pub returns-in_ok-self-in-Field1-clause-state : goal.returns-in_ok-self-in-Field1-clause-state
returns-in_ok-self-in-Field1-clause-state c = (taken1 (goal.at.returns-in_ok-self-in-Field1-clause-state c).In_ok-self-in-Field1).state

pub returns-in_ok-self-in-Field1-clause-places : goal.returns-in_ok-self-in-Field1-clause-places
returns-in_ok-self-in-Field1-clause-places c = (taken1 (goal.at.returns-in_ok-self-in-Field1-clause-places c).In_ok-self-in-Field1).places

pub returns-in_err-self-in-Field1-clause-answer : goal.returns-in_err-self-in-Field1-clause-answer
returns-in_err-self-in-Field1-clause-answer c = let told = (refused1 (goal.at.returns-in_err-self-in-Field1-clause-answer c).In_err-self-in-Field1).answer in search rules

pub returns-in_err-self-in-Field1-clause-state : goal.returns-in_err-self-in-Field1-clause-state
returns-in_err-self-in-Field1-clause-state c = (refused1 (goal.at.returns-in_err-self-in-Field1-clause-state c).In_err-self-in-Field1).state

pub returns-in_err-self-in-Field1-clause-places : goal.returns-in_err-self-in-Field1-clause-places
returns-in_err-self-in-Field1-clause-places c = (refused1 (goal.at.returns-in_err-self-in-Field1-clause-places c).In_err-self-in-Field1).places

-- a pair of field 2, taken
taken2 : (c : In_ok-self-in-Field2) → (let w = c.args.self.now in Answers (pair_outcome c.args.cea608 w) (stored w) w done (with_fields w.field1 c.in_ok-self-in-Field2.field-0 w))
taken2 c = pushed_second c.args.self.now c.in_ok-check.ensures.shaped (given_valid _ _ _ c.in_ok-check.ensures.answer) _ _ done _ refl c.in-Field2.is c.in_ok-self-in-Field2.ensures

-- refused
refused2 : (c : In_err-self-in-Field2) → (let w = c.args.self.now in Answers (pair_outcome c.args.cea608 w) (stored w) w (Err c.in_err-self-in-Field2.field-0.0) w)
refused2 c = pushed_second c.args.self.now c.in_ok-check.ensures.shaped (given_valid _ _ _ c.in_ok-check.ensures.answer) _ _ (Err c.in_err-self-in-Field2.field-0.0) _ refl c.in-Field2.is c.in_err-self-in-Field2.ensures

pub returns-in_ok-self-in-Field2-clause-answer : goal.returns-in_ok-self-in-Field2-clause-answer
returns-in_ok-self-in-Field2-clause-answer c = (taken2 (goal.at.returns-in_ok-self-in-Field2-clause-answer c).In_ok-self-in-Field2).answer

pub returns-in_ok-self-in-Field2-clause-state : goal.returns-in_ok-self-in-Field2-clause-state
returns-in_ok-self-in-Field2-clause-state c = (taken2 (goal.at.returns-in_ok-self-in-Field2-clause-state c).In_ok-self-in-Field2).state

pub returns-in_ok-self-in-Field2-clause-places : goal.returns-in_ok-self-in-Field2-clause-places
returns-in_ok-self-in-Field2-clause-places c = (taken2 (goal.at.returns-in_ok-self-in-Field2-clause-places c).In_ok-self-in-Field2).places

pub returns-in_err-self-in-Field2-clause-answer : goal.returns-in_err-self-in-Field2-clause-answer
returns-in_err-self-in-Field2-clause-answer c = let told = (refused2 (goal.at.returns-in_err-self-in-Field2-clause-answer c).In_err-self-in-Field2).answer in search rules

pub returns-in_err-self-in-Field2-clause-state : goal.returns-in_err-self-in-Field2-clause-state
returns-in_err-self-in-Field2-clause-state c = (refused2 (goal.at.returns-in_err-self-in-Field2-clause-state c).In_err-self-in-Field2).state

pub returns-in_err-self-in-Field2-clause-places : goal.returns-in_err-self-in-Field2-clause-places
returns-in_err-self-in-Field2-clause-places c = (refused2 (goal.at.returns-in_err-self-in-Field2-clause-places c).In_err-self-in-Field2).places
