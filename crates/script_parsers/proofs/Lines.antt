-- The line of an item: its parts, laid one behind another, by what the item is. Assumes nothing.
use mathlib.Core.Path.{◌≡◌, refl}
use mathlib.Core.List.{List, ◌++◌}
use Prim.Native.Nat.{ℕ}
use Rattle.model.specs.Said.{accepted}
use Rattle.model.specs.Demux.{pair_values}
use Rattle.caption.specs.declared.Cea608.{Cea608}
use Rattle.caption.specs.declared.Cea608.TheVariants as cea608
use Rattle.caption.specs.Pairs.{cea608_of}
use Rattle.packet.specs.declared.DTVCCPacket.{DTVCCPacket}
use Rattle.parser.specs.declared.Item.{Item}
use Rattle.parser.specs.declared.Item.TheVariants as item
use Rattle.parser.specs.Items.{said_item}
use Rattle.program_text.specs.Laid.{Laid}
use Rattle.program_text.specs.Text.{word, decimal, decimal_in, digit}
use Rattle.program_text.proofs.Layings.{laid_append}
use Rattle.program_lines.specs.Lines.{pair_text}
use Rattle.script_packets.specs.Lines.{held_text}
use Rattle.script_parsers.specs.Lines.{item_text, item_line}

-- a pair is told by its field's number and its bytes
pair_text_same : (x : Cea608) (k : DTVCCPacket) → item_text (pair_values (cea608_of x)) k ≡ pair_text (cea608_of x)
unfolding item_text pair_text decimal decimal_in digit
pair_text_same (cea608.Field1 a b) k = refl
pair_text_same (cea608.Field2 a b) k = refl

-- three parts of a line
pub three_parts : {x y z out m₁ m₂ after : List ℕ} {at p q r : ℕ} → Laid x out at p m₁ → Laid y m₁ p q m₂ → Laid z m₂ q r after
    → Laid (x ++ y ++ z) out at r after
three_parts f h l = laid_append (laid_append f h) l

module _ {out after : List ℕ} {at r : ℕ} where
  pub item_pair : (i : Item) (k : DTVCCPacket) (x : Cea608) → i ≡ item.Pair x → Laid (word "ok " ++ pair_text (cea608_of x) ++ word "\n") out at r after
      → Laid (item_line (accepted (said_item i)) k) out at r after
  unfolding item_line
  item_pair i k x e l = rw (e, pair_text_same x k) l

  pub item_packet : (i : Item) (k : DTVCCPacket) → i ≡ item.Packet → Laid (word "ok packet" ++ held_text k ++ word "\n") out at r after
      → Laid (item_line (accepted (said_item i)) k) out at r after
  unfolding item_line item_text
  item_packet i k e l = rw e l

  pub item_none : (i : Item) (k : DTVCCPacket) → i ≡ item.Nothing → Laid (word "ok none\n") out at r after → Laid (item_line (accepted (said_item i)) k) out at r after
  unfolding item_line item_text
  item_none i k e l = rw e l
