-- The line of a packet's services: its parts, laid one behind another, and what two calls tell of them. Assumes nothing.
use mathlib.Core.Path.{◌≡◌, sym, ap}
use mathlib.Core.Bool.{Bool, true, false, cond, true≢false}
use mathlib.Core.List.{List}
use Prim.Native.Nat.{ℕ}
use Rattle.model.specs.Said.{Said, gave, refused, is_given, checked, bad_value}
use Rattle.packet.specs.declared.DTVCCPacket.{DTVCCPacket}
use Rattle.packet.specs.Packet.{valid_dtvcc}
use Rattle.program_text.specs.Laid.{Laid}
use Rattle.program_text.specs.Text.{word}
use Rattle.program_text.proofs.Layings.{laid_append}
use Rattle.program_lines.specs.Lines.{value_text, run_text}
use Rattle.script_answers.specs.Script.{answer_line}
use Rattle.script_services.specs.Sets.{highest_bytes, set_line, services_line, counted_set}

module _ {out after : List ℕ} {at r : ℕ} where
  pub set_parts : {m₁ m₂ m₃ : List ℕ} {p q s : ℕ} (bits n : ℕ) (bs : List ℕ) → bs ≡ highest_bytes 8 bits → Laid (word "ok") out at p m₁ → Laid (run_text bs) m₁ p q m₂
      → Laid (value_text n) m₂ q s m₃ → Laid (word "\n") m₃ s r after → Laid (set_line bits n) out at r after
  unfolding set_line
  set_parts bits n bs e a b c d = rw (← e) (laid_append (laid_append (laid_append a b) c) d)

-- what the two calls tell is what is so of the packet
set_told : (v : Bool) (x : ℕ × ℕ) (s n : ℕ) → gave (s, n) ≡ checked v (gave x) → cond v (set_line x.0 x.1) (answer_line bad_value) ≡ set_line s n
set_told true x s n e = let k : ◌≡◌ {A = ℕ × ℕ} (s, n) x = cc in ap (λ (y : ℕ × ℕ). set_line y.0 y.1) (sym k)
set_told false x s n e = absurd (true≢false (ap is_given e))

none_told : (v : Bool) (x : ℕ × ℕ) (why : Said) → refused why ≡ checked v (gave x) → cond v (set_line x.0 x.1) (answer_line bad_value) ≡ answer_line why
none_told true x why e = absurd (true≢false (sym (ap is_given e)))
none_told false x why e = let k : why ≡ bad_value = cc in ap answer_line (sym k)

module _ (p : DTVCCPacket) where
  pub told_both : (s n : ℕ) → gave (s, n) ≡ counted_set p → services_line p ≡ set_line s n
  unfolding services_line
  told_both s n e = set_told (valid_dtvcc p) _ s n e

  pub told_none : (why : Said) → refused why ≡ counted_set p → services_line p ≡ answer_line why
  unfolding services_line
  told_none why e = none_told (valid_dtvcc p) _ why e
