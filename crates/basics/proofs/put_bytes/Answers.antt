-- `basics::put_bytes` meets its contract: as many bytes are laid as there is room for or the run has. Assumes nothing.
use mathlib.Core.Path.{◌≡◌, refl, sym, ◌∙◌}
use Prim.Native.Nat.{◌+◌, ◌-◌, min}
use native.Mathlib.Omega.{arith}
use lib.ListN.{length, take}
use lib.Seq.{length-take-le}
use borrow.Author.Rules.{rules}
use Rattle.basics.proofs.Runs.{sets_past, sets_all, part_laid}
use Rattle.basics.proofs.put_bytes.Goals as goal

pub returns-then-n-at : goal.returns-then-n-at
returns-then-n-at c = search (rules, sets_past)

pub returns : goal.returns
returns c =
    let l = c.args.dst.now in
    let src = c.args.src.now in
    let at = c.args.at in
    let k = c.min-count.result in
    let t : length (take k src) ≡ k = length-take-le k src (omega (arith, c.min-count.ensures)) in
    sets_all l src at k _ c.if-n-at.false (omega (arith, c.min-count.ensures)) (part_laid l _ (take k src) at (at + k - at) c.copy_from_slice.ensures.after (omega (arith, t)) (omega (arith, t, c.min-count.ensures, c.if-n-at.false)))
