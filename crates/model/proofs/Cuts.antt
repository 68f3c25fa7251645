-- What a cut is. It stands apart from what is proved of it, so that an edit of it is refused there. Assumes nothing.
use mathlib.Core.Path.{◌≡◌}
use mathlib.Core.Bool.{true}
use mathlib.Core.List.{List, flatten}
use Prim.Native.Nat.{ℕ}
use Rattle.model.specs.Lists.{every}
use Rattle.model.specs.Codes.{is_code}

-- whole codes whose bytes, one behind the other, are the payload [K5]
pub record CutInto (d : List ℕ) (cs : List (List ℕ)) : Type 0 where
  pub bytes : flatten cs ≡ d
  pub codes : every is_code cs ≡ true
