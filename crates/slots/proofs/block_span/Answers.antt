-- `slots::block_span` meets its contract: one law of `Spans` for each way out. Assumes nothing.
use native.Mathlib.Omega.{arith}
use Rattle.slots.proofs.Spans.{span_empty, span_null, span_short, span_low, span_high, span_long}
use Rattle.slots.proofs.block_span.Goals as goal

pub returns-then-size-eq0 : goal.returns-then-size-eq0
returns-then-size-eq0 c = let a = c.args in (span_empty a.h a.second c.if-size-eq0.true, omega arith)

pub returns-then-top-eq0 : goal.returns-then-top-eq0
returns-then-top-eq0 c = let a = c.args in (span_null a.h a.second c.if-size-eq0.false c.if-top-eq0.true, omega arith)

pub returns-then-top-lt7 : goal.returns-then-top-lt7
returns-then-top-lt7 c = let a = c.args in
    (span_short a.h a.second c.if-size-eq0.false c.if-top-eq0.false c.if-top-lt7.true, omega arith)

pub returns-then-second-lt7 : goal.returns-then-second-lt7
returns-then-second-lt7 c = let a = c.args in
    (span_low a.h a.second c.if-size-eq0.false c.if-top-eq0.false (omega arith) c.if-top-lt7.false c.if-second-lt7.true, omega arith)

pub returns-then-second-gt63 : goal.returns-then-second-gt63
returns-then-second-gt63 c = let a = c.args in
    (span_high a.h a.second c.if-size-eq0.false c.if-top-eq0.false (omega arith) c.if-top-lt7.false c.if-second-lt7.false c.if-second-gt63.true, omega arith)

pub returns : goal.returns
returns c = let a = c.args in
    (span_long a.h a.second c.if-size-eq0.false c.if-top-eq0.false (omega arith) c.if-top-lt7.false c.if-second-lt7.false c.if-second-gt63.false, omega arith)
