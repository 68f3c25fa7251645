-- What fill is. It stands apart from what is proved of it, so that an edit of it is refused there. Assumes nothing.
use mathlib.Core.Path.{◌≡◌}
use mathlib.Core.Bool.{true}
use mathlib.Core.List.{List}
use Prim.Native.Nat.{ℕ}
use lib.ListN.{length}
use Rattle.model.specs.Packet.{is_null_header}

-- bytes that are fill: none, or a null header and whatever is behind it
abbrev pub Fills : List ℕ → Type 0
Fills d = (length d ≡ 0 → ⊥) → is_null_header d ≡ true
