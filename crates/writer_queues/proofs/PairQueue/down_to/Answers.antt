-- `writer_queues::PairQueue::down_to` meets its contract: the bytes of the last pairs are laid from the first place on, where there are so many.
-- Assumes nothing.
use mathlib.Core.Path.{◌≡◌, sym, ◌∙◌}
use Prim.Native.Nat.{◌-◌, ◌*◌}
use native.Mathlib.Omega.{arith}
use Rattle.writer_queues.proofs.Queues.{Sized, down_bytes, down_over, down_few, down_is}
use borrow.Author.Rules.{rules}
use Rattle.writer_queues.proofs.PairQueue.down_to.Goals as goal

pub returns-then-count-gt-MOST_QUEUED : goal.returns-then-count-gt-MOST_QUEUED
returns-then-count-gt-MOST_QUEUED c = search (rules, down_over)

pub returns-then-count-left : goal.returns-then-count-left
returns-then-count-left c = search (rules, down_few)

pub returns : goal.returns
returns c = let few = c.if-count-gt-MOST_QUEUED.false in
    let left = c.if-count-left.false in
    let n = c.args.self.count in
    let z : 2 * n - 2 * (n - c.args.left) ≡ 2 * c.args.left = omega arith in
    let sized : Sized c.args.self = record { few = few; flat = search rules } in
    down_bytes c.args.self c.args.left sized left (rw z at c.put_bytes.ensures)
    ∙ sym (down_is c.args.self c.args.left few left)
