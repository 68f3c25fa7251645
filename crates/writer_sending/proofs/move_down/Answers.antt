-- `writer_sending::move_down` meets its contract: what is still to be moved stands where it stood. Assumes nothing.
use mathlib.Core.Path.{◌≡◌}
use native.Mathlib.Omega.{arith}
use lib.ListN.{length}
use borrow.Author.Rules.{rules}
use Rattle.slots.proofs.Row.{length_mapped}
use Rattle.writer_sending.proofs.Queues.{moving_first, moving_none, moving_more, moving_done}
use Rattle.writer_sending.proofs.move_down.Goals as goal
use Rattle.writer_sending.proofs.move_down.Goals.{then-begun-eq0, else-begun-eq0}

pub loop-i-init : goal.loop-i-init
loop-i-init c =
    elim c.if-begun-eq0.branch [
      | then-begun-eq0 w ↦ (omega arith, λ n. moving_none _ _ n _ _ w.if-begun-eq0.true (omega arith))
      | else-begun-eq0 w ↦ (omega arith, λ n. moving_first _ _ n _ _ w.i-is)
    ]

pub loop-i-preserved : goal.loop-i-preserved
loop-i-preserved c = let w = c.loop-i.invariant in
    (omega (arith, w.0), λ n. moving_more _ _ n _ _ _ w.0 (omega (arith, c.min-end.ensures, c.loop-i-test.true)) (w.1 n))

pub returns : goal.returns
returns c = let n : length c.args.packets.now ≡ 16 = search (rules, length_mapped) in
    moving_done _ _ n _ _ _ (omega (arith, c.min-end.ensures, c.loop-i-test.false)) (c.loop-i.invariant.1 n)
