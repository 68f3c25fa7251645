-- The lines of a packet: their parts, laid one behind another. Assumes nothing.
use mathlib.Core.Path.{◌≡◌}
use mathlib.Core.List.{List}
use Prim.Native.Nat.{ℕ}
use lib.ListN.{take, drop}
use Rattle.service.specs.declared.Service.{Service}
use Rattle.service.specs.Service.{block_of}
use Rattle.packet.specs.declared.DTVCCPacket.{DTVCCPacket}
use Rattle.program_text.specs.Laid.{Laid}
use Rattle.program_text.specs.Text.{word}
use Rattle.program_text.proofs.Layings.{laid_append}
use Rattle.program_lines.specs.Lines.{value_text, block_text}
use Rattle.script_packets.specs.Lines.{blocks_text, blocks_in, held_text, held_line}

module _ {out after : List ℕ} {at r : ℕ} where
  -- a block of a packet
  pub block_text_laid : (b : Service) (bs : List ℕ) → bs ≡ take b.len (drop 0 b.payload) → Laid (block_text b.number bs) out at r after
      → Laid (block_text b.number (block_of b).payload) out at r after
  block_text_laid b bs same l = rw (← same) l

  pub held : {m : List ℕ} {p : ℕ} (k : DTVCCPacket) → Laid (value_text k.seq_no) out at p m → Laid (blocks_text (blocks_in k)) m p r after
      → Laid (held_text k) out at r after
  unfolding held_text
  held k f b = laid_append f b

  pub held_parts : {m₁ m₂ : List ℕ} {p q : ℕ} (k : DTVCCPacket) → Laid (word "ok") out at p m₁ → Laid (held_text k) m₁ p q m₂
      → Laid (word "\n") m₂ q r after → Laid (held_line k) out at r after
  unfolding held_line
  held_parts k f h l = laid_append (laid_append f h) l
