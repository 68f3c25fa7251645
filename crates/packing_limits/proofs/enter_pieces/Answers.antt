-- The tables tell the pieces from a place on, which goes down by fives. Assumes nothing.
use mathlib.Core.Bool.{false≢true}
use native.Mathlib.Omega.{arith}
use borrow.Author.Rules.{rules}
use Rattle.packing_limits.proofs.Tabled.{join_none, tables_none, join_more, tables_more, join_stops}
use Rattle.packing_limits.proofs.enter_pieces.Goals as goal

pub loop-at-init : goal.loop-at-init
loop-at-init c = (search rules, search rules, search (rules, join_none), search (rules, tables_none))

pub returns-then-not-enter_piece : goal.returns-then-not-enter_piece
returns-then-not-enter_piece c = (search (rules, join_stops), λ e. absurd (false≢true e))

pub loop-at-preserved : goal.loop-at-preserved
loop-at-preserved c = (omega arith, omega arith, search (rules, join_more), search (rules, tables_more))
