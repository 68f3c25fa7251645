-- A block is stored exactly where `kept_for` keeps it, by one law for each way out. Assumes nothing.
use mathlib.Core.Path.{◌≡◌, refl}
use Prim.Native.Nat.{◌+◌, ◌-◌, ◌≤◌}
use native.Mathlib.Omega.{arith}
use lib.ListN.{length}
use borrow.Author.Rules.{rules}
use Rattle.basics.proofs.Runs.{part_laid}
use Rattle.packet_blocks.proofs.Reading.{keep_null, keep_empty, keep_some}
use Rattle.packet_blocks.proofs.Filled.keep.Goals as goal

pub returns-then-number-eq0-clause-used : goal.returns-then-number-eq0-clause-used
returns-then-number-eq0-clause-used c = (keep_null c.args.self.now _ _ _ c.if-number-eq0.true).0

pub returns-then-number-eq0-clause-laid : goal.returns-then-number-eq0-clause-laid
returns-then-number-eq0-clause-laid c = (keep_null _ c.args.used _ _ c.if-number-eq0.true).1

pub returns-then-size-eq0-clause-used : goal.returns-then-size-eq0-clause-used
returns-then-size-eq0-clause-used c = (keep_empty c.args.self.now _ _ _ c.if-number-eq0.false c.if-size-eq0.true).0

pub returns-then-size-eq0-clause-laid : goal.returns-then-size-eq0-clause-laid
returns-then-size-eq0-clause-laid c = (keep_empty _ c.args.used _ _ c.if-number-eq0.false c.if-size-eq0.true).1

pub returns-clause-used : goal.returns-clause-used
returns-clause-used c = (keep_some c.args.self.now _ _ _ c.if-number-eq0.false c.if-size-eq0.false _ refl).0

pub returns-clause-laid : goal.returns-clause-laid
returns-clause-laid c =
    let whole : length c.args.self.now.payload ≡ 127 = search rules in
    let end : c.args.used + length c.args.part.now - c.args.used ≡ length c.args.part.now = omega arith in
    let there : c.args.used + length c.args.part.now ≤ length c.args.self.now.payload = omega (arith, whole, c.requires.bytes) in
    (keep_some _ _ _ _ c.if-number-eq0.false c.if-size-eq0.false _
    (part_laid c.args.self.now.payload _ c.args.part.now c.args.used _ c.copy_from_slice.ensures.after end there)).1
