-- `writer_turns::Turns::take` meets its contract: one law of `Steps` for each test, and the turns and what they leave. Assumes nothing.
use mathlib.Core.Path.{refl, sym, ◌∙◌}
use Rattle.writer_frames.proofs.Stores.{fits_room}
use Rattle.writer_turns.specs.Step.{Fits}
use Rattle.writer_queues.proofs.Queues.{Sized}
use Rattle.writer_turns.proofs.Steps.{no_fit, over1, over2, over3, lent_turns, took}
use borrow.Author.Rules.{rules}
use Rattle.writer_turns.proofs.Turns.take.Goals as goal
use Rattle.writer_turns.proofs.Turns.take.Goals.{Then-has_room}

-- where the tests are passed, the turns fit and the queues are within their limits
passed : (r : Then-has_room)
    → (let a = r.args in Fits a.self a.turns × (Sized a.self.field1 × Sized a.self.field2))
passed r =
    let g = r.if-queue1-gt-MOST_QUEUED.false in
    let h = r.if-queue2-gt-MOST_QUEUED.false in
    (record { first = g; second = h; room = fits_room _ _ (sym r.has_room.ensures ∙ r.if-has_room.true) }, (record { few = g; flat = search rules }, record { few = h; flat = search rules }))

pub returns-then-queue1-gt-MOST_QUEUED : goal.returns-then-queue1-gt-MOST_QUEUED
returns-then-queue1-gt-MOST_QUEUED c = let a = c.args in no_fit a.self a.turns a.pad (over1 a.self a.turns a.pad c.if-queue1-gt-MOST_QUEUED.true) refl

pub returns-then-queue2-gt-MOST_QUEUED : goal.returns-then-queue2-gt-MOST_QUEUED
returns-then-queue2-gt-MOST_QUEUED c = let a = c.args in
    no_fit a.self a.turns a.pad (over2 a.self a.turns a.pad c.if-queue1-gt-MOST_QUEUED.false c.if-queue2-gt-MOST_QUEUED.true) refl

pub turns_from-course-requires : goal.turns_from-course-requires
turns_from-course-requires c = (passed (goal.at.turns_from-course-requires c).Then-has_room).0.room

pub returns-then-has_room : goal.returns-then-has_room
returns-then-has_room c = let a = c.args in
    let p = passed (goal.at.returns-then-has_room c).Then-has_room in
    let l = lent_turns a.self a.turns a.pad c.turns_from-course.ensures in
    took a.self a.turns a.pad p.0 p.1.0 p.1.1 l c.down_to-field1.ensures c.down_to-field2.ensures

pub returns : goal.returns
returns c = let a = c.args in
    no_fit a.self a.turns a.pad (over3 a.self a.turns a.pad c.if-queue1-gt-MOST_QUEUED.false c.if-queue2-gt-MOST_QUEUED.false (sym c.has_room.ensures ∙ c.if-has_room.false)) refl
