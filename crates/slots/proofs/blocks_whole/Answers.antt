-- `slots::blocks_whole` meets its contract: what is left decides. Assumes nothing.
use mathlib.Core.Path.{◌≡◌, ◌∙◌}
use Prim.Native.Nat.{◌+◌, ◌-◌, ◌<◌}
use native.Mathlib.Omega.{arith}
use lib.ListN.{length, get_or, take}
use lib.Seq.{length-take-le, get_or-take}
use Rattle.slots.specs.Walk.{block_span}
use Rattle.slots.proofs.Spans.{whole_none, whole_short, whole_next, whole_all}
use Rattle.slots.proofs.blocks_whole.Goals as goal
use Rattle.slots.proofs.blocks_whole.Goals.{After-block_span-span}

-- the block that starts at the place reached
spanned : (c : After-block_span-span)
    → (let d = take c.args.len c.args.bytes.now in let at = c.loop-at.at in
    (at < length d) × (c.block_span-span.result ≡ block_span (get_or d at 0) (get_or d (at + 1) 0)) × (length d ≡ c.args.len))
spanned c =
    let l : length (take c.args.len c.args.bytes.now) ≡ c.args.len = length-take-le c.args.len c.args.bytes.now (omega arith) in
    let at = c.loop-at.at in
    (omega arith, c.block_span-span.ensures.0 ∙ rw (c.byte_at-second.ensures, get_or-take c.args.len c.args.bytes.now at 0 (omega arith)), l)

pub returns-then-span-eq0 : goal.returns-then-span-eq0
returns-then-span-eq0 c = let w = spanned (goal.at.returns-then-span-eq0 c).After-block_span-span in
    whole_none (take c.args.len c.args.bytes.now) _ _ w.0 w.1 c.if-span-eq0.true ∙ c.loop-at.invariant.2

pub returns-then-len-at : goal.returns-then-len-at
returns-then-len-at c = let w = spanned (goal.at.returns-then-len-at c).After-block_span-span in
    whole_short (take c.args.len c.args.bytes.now) _ _ w.0 w.1 c.if-span-eq0.false (rw w.2 c.if-len-at.true) ∙ c.loop-at.invariant.2

pub loop-at-preserved : goal.loop-at-preserved
loop-at-preserved c = let w = spanned (goal.at.loop-at-preserved c).After-block_span-span in
    let i = c.loop-at.invariant in
    (i.0, omega arith, whole_next (take c.args.len c.args.bytes.now) _ _ w.0 w.1 c.if-span-eq0.false (rw w.2 c.if-len-at.false) ∙ i.2)

pub returns : goal.returns
returns c = let at = c.loop-at.at in
    let l : length (take c.args.len c.args.bytes.now) ≡ c.args.len = length-take-le c.args.len c.args.bytes.now (omega arith) in
    whole_all (take c.args.len c.args.bytes.now) at (omega arith) ∙ c.loop-at.invariant.2
