-- Each way out is a law about the bytes of the header. Assumes nothing.
use native.Mathlib.Omega.{arith}
use Rattle.packet_moves.proofs.Nulls.{null_named, null_bare, null_one_left, null_long}
use Rattle.packet_moves.proofs.null_at.Goals as goal

pub returns-then-h-ne7 : goal.returns-then-h-ne7
returns-then-h-ne7 c = null_named _ _ c.requires c.if-h-ne7.true

pub returns-then-h-eq0 : goal.returns-then-h-eq0
returns-then-h-eq0 c = null_bare _ _ c.requires c.if-h-ne7.false c.if-h-eq0.true

pub returns-then-at-data : goal.returns-then-at-data
returns-then-at-data c = null_one_left _ _ c.requires c.if-h-ne7.false c.if-h-eq0.false (omega (arith, c.if-at-data.true))

pub returns : goal.returns
returns c = null_long _ _ c.requires c.if-h-ne7.false c.if-h-eq0.false (omega (arith, c.requires, c.if-at-data.false))
