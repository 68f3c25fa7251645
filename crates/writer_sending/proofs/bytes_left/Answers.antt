-- `writer_sending::bytes_left` meets its contract: with what is left of the queue the sum stays the whole sum. Assumes nothing.
use mathlib.Core.Path.{◌≡◌}
use native.Mathlib.Omega.{arith}
use lib.ListN.{length}
use Rattle.slots.proofs.Row.{length_mapped}
use Rattle.writer_sending.proofs.Queues.{summing_more, summing_done}
use borrow.Author.Rules.{rules}
use Rattle.writer_sending.proofs.bytes_left.Goals as goal

pub overflow_add-sum : goal.overflow_add-sum
overflow_add-sum c = let n : length c.args.packets.now ≡ 16 = search (rules, length_mapped) in
    let w = c.loop-i.invariant n in
    omega (arith, w.few, w.some, c.min-sum.ensures, c.triples_left-sum.ensures)

pub loop-i-preserved : goal.loop-i-preserved
loop-i-preserved c = let e = c.min-sum.ensures in
    λ n. summing_more _ _ n _ _ _ _ _ (omega (arith, c.min-queued.ensures, c.loop-i-test.true)) e (omega (arith, e)) (c.loop-i.invariant n)

pub returns : goal.returns
returns c = let n : length c.args.packets.now ≡ 16 = search (rules, length_mapped) in
    let e = c.triples_left-sum.ensures in
    let d = summing_done _ _ n _ _ _ _ (omega (arith, c.min-queued.ensures, c.loop-i-test.false)) (c.loop-i.invariant n) in
    (omega (arith, d.0, e.0), omega (arith, d.1, e.1))
