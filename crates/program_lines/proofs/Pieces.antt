-- Each piece and line is its parts, laid one behind another. Assumes nothing.
use mathlib.Core.Path.{◌≡◌}
use mathlib.Core.List.{List, [], ◌∷◌, ◌++◌}
use Prim.Native.Nat.{ℕ}
use lib.ListN.{length}
use borrow.Author.Tests.{eq-eqb, ne_eqb}
use Rattle.caption.specs.declared.Cea608.{Cea608}
use Rattle.caption.specs.declared.Cea608.TheVariants.{Field1, Field2}
use Rattle.caption.specs.Pairs.{cea608_of}
use Rattle.program_text.specs.Laid.{Laid}
use Rattle.program_text.specs.Text.{word, decimal, hex_byte, hex, run}
use Rattle.program_lines.specs.Lines.{value_text, run_text, block_text, pair_text, packet_text, block_line, end_line, stopped_line}
use Rattle.program_text.proofs.Layings.{laid_append}

-- a run: none, and some
module _ (bs : List ℕ) {out after : List ℕ} {at r : ℕ} where
  pub laid_dash : length bs ≡ 0 → Laid (word "-") out at r after → Laid (run bs) out at r after
  unfolding run
  laid_dash e w = rw (eq-eqb _ _ e) w

  pub laid_bytes : (length bs ≡ 0 → ⊥) → Laid (hex bs) out at r after → Laid (run bs) out at r after
  unfolding run
  laid_bytes e w = rw (ne_eqb _ _ e) w

-- pieces and lines of two parts or more
module _ {out mid after : List ℕ} {at p r : ℕ} where
  pub laid_value : (n : ℕ) → Laid (word " ") out at p mid → Laid (decimal n) mid p r after → Laid (value_text n) out at r after
  unfolding value_text
  laid_value n f s = laid_append f s

  pub laid_run : (bs : List ℕ) → Laid (word " ") out at p mid → Laid (run bs) mid p r after → Laid (run_text bs) out at r after
  unfolding run_text
  laid_run bs f s = laid_append f s

  pub laid_block : {mid' : List ℕ} {q : ℕ} (n : ℕ) (bs : List ℕ) → Laid (value_text n) out at p mid → Laid (word ":") mid p q mid'
      → Laid (run bs) mid' q r after → Laid (block_text n bs) out at r after
  unfolding block_text
  laid_block n bs f c s = laid_append (laid_append f c) s

  pub laid_pair_bytes : {mid' : List ℕ} {q : ℕ} (w : List ℕ) (a b : ℕ) → Laid w out at p mid → Laid (hex_byte a) mid p q mid'
      → Laid (hex_byte b) mid' q r after → Laid (w ++ hex (a ∷ b ∷ [])) out at r after
  laid_pair_bytes w a b f x y = laid_append f (laid_append x y)

  pub laid_end : (n : ℕ) → Laid (word "end " ++ decimal n) out at p mid → Laid (word "\n") mid p r after → Laid (end_line n) out at r after
  unfolding end_line
  laid_end n f l = laid_append f l

  pub laid_stopped : (n : ℕ) → Laid (word "stopped at byte " ++ decimal n) out at p mid → Laid (word "\n") mid p r after
      → Laid (stopped_line n) out at r after
  unfolding stopped_line
  laid_stopped n f l = laid_append f l

  pub laid_block_line : {m m' : List ℕ} {q s : ℕ} (n : ℕ) (bs : List ℕ) → Laid (word "block " ++ decimal n) out at p mid
      → Laid (word " ") mid p q m → Laid (hex bs) m q s m' → Laid (word "\n") m' s r after → Laid (block_line n bs) out at r after
  unfolding block_line
  laid_block_line n bs f w h l = laid_append (laid_append (laid_append f w) h) l

-- pieces of one part
module _ {out after : List ℕ} {at r : ℕ} where
  pub laid_packet : (n : ℕ) → Laid (word "packet " ++ decimal n) out at r after → Laid (packet_text n) out at r after
  unfolding packet_text
  laid_packet n w = w

  pub laid_field1 : (x : Cea608) (a b : ℕ) → x ≡ Field1 a b → Laid (word "field1 " ++ hex (a ∷ b ∷ [])) out at r after
      → Laid (pair_text (cea608_of x)) out at r after
  unfolding pair_text
  laid_field1 x a b e w = rw e w

  pub laid_field2 : (x : Cea608) (a b : ℕ) → x ≡ Field2 a b → Laid (word "field2 " ++ hex (a ∷ b ∷ [])) out at r after
      → Laid (pair_text (cea608_of x)) out at r after
  unfolding pair_text
  laid_field2 x a b e w = rw e w
