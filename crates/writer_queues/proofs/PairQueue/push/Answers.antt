-- `writer_queues::PairQueue::push` meets its contract: one law of `Queues` for each way out. Assumes nothing.
use mathlib.Core.Path.{refl}
use native.Mathlib.Omega.{arith}
use Rattle.writer_queues.proofs.Queues.{push_null, push_full, push_free}
use borrow.Author.Rules.{rules}
use Rattle.writer_queues.proofs.PairQueue.push.Goals as goal

pub returns-then-is_null : goal.returns-then-is_null
returns-then-is_null c = push_null c.args.self _ _ (record { few = omega arith; flat = search rules }) c.is_null.ensures c.if-is_null.true

pub returns-then-count-eq-MOST_QUEUED : goal.returns-then-count-eq-MOST_QUEUED
returns-then-count-eq-MOST_QUEUED c = push_full c.args.self _ _ (record { few = omega arith; flat = search rules }) c.is_null.ensures c.if-is_null.false c.if-count-eq-MOST_QUEUED.true

pub returns : goal.returns
returns c = push_free c.args.self _ _ (record { few = omega arith; flat = search rules }) c.is_null.ensures c.if-is_null.false c.if-count-eq-MOST_QUEUED.false refl
