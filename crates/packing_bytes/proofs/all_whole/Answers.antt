-- What is left of the bytes decides. Assumes nothing.
use mathlib.Core.Bool.{not}
use mathlib.Core.Path.{ap}
use native.Mathlib.Omega.{arith}
use Rattle.packing_bytes.proofs.Walks.{every_first, every_next, beside_more, beside_stops, every_done}
use Rattle.packing_bytes.proofs.Tests.{byte_held, first_held}
use borrow.Author.Rules.{rules}
use Rattle.packing_bytes.proofs.all_whole.Goals as goal

pub loop-run-init : goal.loop-run-init
loop-run-init c = (omega arith, omega arith, search (rules, every_first))

pub loop-run-preserved-then-number_at-byte : goal.loop-run-preserved-then-number_at-byte
loop-run-preserved-then-number_at-byte c = (omega arith, omega arith, search (rules, every_next))

pub in_one_block-requires : goal.in_one_block-requires
in_one_block-requires c = (
  byte_held _ _ _ _ _ c.requires.1
      c.loop-run-test.true _ c.number_at.ensures.value
      c.if-number_at-byte.false,
  first_held _ _ _ _ _ c.requires.1
      c.loop-run-test.true _ c.number_at.ensures.value
      c.if-number_at-byte.false,
)

pub returns-then-not-in_one_block : goal.returns-then-not-in_one_block
returns-then-not-in_one_block c = search (rules, beside_stops)

pub loop-run-preserved : goal.loop-run-preserved
loop-run-preserved c = (
  omega arith,
  omega arith,
  beside_more
      c.args.services.now
      _ _ _ _ _ _ c.loop-run.invariant.2
      c.loop-run-test.true _
      c.number_at.ensures.value
      c.if-number_at-byte.false _ c.in_one_block.ensures (ap not c.if-not-in_one_block.false),
)

pub returns : goal.returns
returns c = search (rules, every_done)
