-- Each test is a part of the definition, in its order. Assumes nothing.
use native.Mathlib.Omega.{arith}
use Prim.Native.Nat.{◌+◌}
use borrow.Author.Tests.{leb-true}
use Rattle.packing_bytes.proofs.Tests.{inside_there}
use borrow.Author.Rules.{rules}
use Rattle.packing_bytes.proofs.is_inside.Goals as goal

pub returns : goal.returns
returns c = (
  search (rules, inside_there),
  λ h. let z = leb-true (c.number_at-first.result + c.number_at-size.result) c.number_at.result h in omega arith,
)
