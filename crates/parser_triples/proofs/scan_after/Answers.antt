-- `parser_triples::scan_after` meets its contract: one law of `Scans` for each way out. Assumes nothing.
use native.Mathlib.Omega.{arith}
use Rattle.parser_triples.proofs.Scans.{past_done, past_void, past_late, past_carries}
use Rattle.parser_triples.proofs.scan_after.Goals as goal

pub loop-i-preserved-then-v-lt4 : goal.loop-i-preserved-then-v-lt4
loop-i-preserved-then-v-lt4 c = (omega arith, past_void _ c.args.frame.now _ _ c.loop-i.invariant.1 c.loop-i-test.true c.if-v-lt4.true)

pub returns-then-v-lt6 : goal.returns-then-v-lt6
returns-then-v-lt6 c = past_late _ c.args.frame.now _ _ c.loop-i.invariant.1 c.loop-i-test.true c.if-v-lt4.false c.if-v-lt6.true

pub loop-i-preserved : goal.loop-i-preserved
loop-i-preserved c = (omega arith, past_carries _ c.args.frame.now _ _ c.loop-i.invariant.1 c.loop-i-test.true c.if-v-lt6.false)

pub returns-then-carries : goal.returns-then-carries
returns-then-carries c = past_done _ c.args.frame.now _ _ c.loop-i.invariant.1 _ c.if-carries.true (omega arith)

pub returns : goal.returns
returns c = past_done _ c.args.frame.now _ _ c.loop-i.invariant.1 _ c.if-carries.false (omega arith)
