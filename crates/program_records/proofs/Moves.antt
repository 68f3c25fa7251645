-- Parts of a buffer, handed back and moved to its front. Assumes nothing.
use mathlib.Core.Path.{◌≡◌, sym, ◌∙◌}
use mathlib.Core.List.{List}
use Prim.Native.Nat.{ℕ}
use Rattle.program_records.specs.Moved.{Moved}

-- For callers: the bytes to be moved and the buffer settle both what is answered and what is left
pub moved_settled : {kept out l m : List ℕ} {r s : ℕ} → Moved kept out r l → Moved kept out s m → (r ≡ s) × (l ≡ m)
moved_settled f g = (f.count ∙ sym g.count, f.bytes ∙ sym g.bytes)
