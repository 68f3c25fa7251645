-- Its bytes as they stand in the list, the counter's two among them. Assumes nothing.
use mathlib.Core.Path.{◌≡◌}
use Prim.Native.Nat.{◌/◌, ◌%◌}
use native.Mathlib.Omega.{arith}
use Rattle.distribution_writing.proofs.Laid.{nine_are}
use Rattle.distribution_writing.proofs.head_of.Goals as goal

pub returns : goal.returns
returns c =
    let s = c.args in
    let high : s.counter / 256 % 256 ≡ s.counter / 256 = omega arith in
    rw (c.to_be_bytes.ensures, high) (nine_are s.counter s.code s.count)
