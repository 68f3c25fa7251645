-- The runs fit, the tables tell the blocks of all pieces, and the packets that they make decide. Assumes nothing.
use mathlib.Core.Bool.{not}
use mathlib.Core.Path.{refl, ap}
use Rattle.packing_limits.proofs.Limits.{limits_unfit, limits_unjoined, limits_packets}
use Rattle.packing_limits.proofs.Tabled.{tables_blank}
use borrow.Author.Rules.{rules}
use Rattle.packing_limits.proofs.within_limits.Goals as goal

pub returns-then-not-runs_fit : goal.returns-then-not-runs_fit
returns-then-not-runs_fit c = search (rules, limits_unfit)

pub enter_pieces-requires : goal.enter_pieces-requires
enter_pieces-requires c = tables_blank _ 65536 refl

pub returns-then-enter_pieces : goal.returns-then-enter_pieces
returns-then-enter_pieces c =
    let entered = c.enter_pieces.ensures in
    let fit = c.runs_fit.ensures in
    limits_packets _ _ _ _ _ _ _ _ fit (ap not c.if-not-runs_fit.false) entered.0 c.if-enter_pieces.true entered.1 c.packets_fit.ensures

pub returns-else-enter_pieces : goal.returns-else-enter_pieces
returns-else-enter_pieces c = rw c.if-enter_pieces.false (search (rules, limits_unjoined))
