-- `writer_sending::send` meets its contract: what will have been sent stays the same from packet to packet. Assumes nothing.
use mathlib.Core.Path.{◌≡◌}
use native.Mathlib.Omega.{arith}
use lib.ListN.{length}
use Rattle.slots.proofs.Row.{length_mapped}
use Rattle.writer_sending.proofs.Queues.{running_more, running_within, running_last}
use borrow.Author.Rules.{rules}
use Rattle.writer_sending.proofs.send.Goals as goal

pub returns-then-m-n : goal.returns-then-m-n
returns-then-m-n c = let n : length c.args.packets.now ≡ 16 = search (rules, length_mapped) in
    let t = c.triples_left-n.ensures.0 in
    running_within _ _ n _ _ _ _ _ (c.loop-i.invariant n) _ (omega (arith, c.min-queued.ensures, c.loop-i-test.true)) (omega (arith, t, c.if-m-n.true)) c.finish.ensures

pub loop-i-preserved : goal.loop-i-preserved
loop-i-preserved c = λ n. running_more _ _ n _ _ _ _ _ (c.loop-i.invariant n) _ _
    (omega (arith, c.min-queued.ensures, c.loop-i-test.true))
    c.triples_left-n.ensures.0 c.if-m-n.false c.carry.ensures

pub returns : goal.returns
returns c = let n : length c.args.packets.now ≡ 16 = search (rules, length_mapped) in
    running_last _ _ n _ _ _ _ _ (c.loop-i.invariant n) _ (omega (arith, c.min-queued.ensures, c.loop-i-test.false)) c.finish-2.ensures
