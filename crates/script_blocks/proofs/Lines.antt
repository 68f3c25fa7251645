-- The lines of a block: their parts, laid one behind another. Assumes nothing.
use mathlib.Core.Path.{◌≡◌}
use mathlib.Core.List.{List}
use Prim.Native.Nat.{ℕ}
use lib.ListN.{take, drop}
use Rattle.service.specs.declared.Service.{Service}
use Rattle.program_text.specs.Laid.{Laid}
use Rattle.program_text.specs.Text.{word}
use Rattle.program_text.proofs.Layings.{laid_append}
use Rattle.program_lines.specs.Lines.{value_text, run_text}
use Rattle.script_blocks.specs.Lines.{block_line}

module _ {out after : List ℕ} {at r : ℕ} where
  pub block_parts : {m₁ m₂ m₃ : List ℕ} {p q s : ℕ} (b : Service) (bs : List ℕ) → Laid (word "ok") out at p m₁ → Laid (value_text b.number) m₁ p q m₂
      → bs ≡ take b.len (drop 0 b.payload) → Laid (run_text bs) m₂ q s m₃ → Laid (word "\n") m₃ s r after → Laid (block_line b) out at r after
  unfolding block_line
  block_parts b bs f v same w l = rw (← same) (laid_append (laid_append (laid_append f v) w) l)
