-- What is left of the bytes decides, with the last one of each service before them. Assumes nothing.
use mathlib.Core.Bool.{not}
use mathlib.Core.Path.{ap}
use native.Mathlib.Omega.{arith}
use Rattle.packing_bytes.proofs.Walks.{follow_first, follow_next, follow_more, follow_stops, follow_done}
use Rattle.packing_bytes.proofs.Tests.{byte_held}
use borrow.Author.Rules.{rules}
use Rattle.packing_bytes.proofs.all_follow.Goals as goal

pub loop-run-init : goal.loop-run-init
loop-run-init c = (omega arith, omega arith, search (rules, follow_first))

pub loop-run-preserved-then-number_at-byte : goal.loop-run-preserved-then-number_at-byte
loop-run-preserved-then-number_at-byte c = (omega arith, omega arith, search (rules, follow_next))

pub follows_last-requires : goal.follows_last-requires
follows_last-requires c =
    byte_held _ _ _ _ _ c.requires.1
    c.loop-run-test.true _ c.number_at.ensures.value
    c.if-number_at-byte.false

pub returns-then-not-follows_last : goal.returns-then-not-follows_last
returns-then-not-follows_last c = search (rules, follow_stops)

pub loop-run-preserved : goal.loop-run-preserved
loop-run-preserved c = (
  omega arith,
  omega arith,
  follow_more _ _ _ _ _ _ _ _ c.loop-run.invariant.2
      c.loop-run-test.true _
      c.number_at.ensures.value
      c.if-number_at-byte.false _ c.number_at-service.ensures.value _
      c.follows_last.ensures (ap not c.if-not-follows_last.false),
)

pub returns : goal.returns
returns c = search (rules, follow_done)
