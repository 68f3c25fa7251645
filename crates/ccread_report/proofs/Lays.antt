-- Lines laid one behind another by a loop: what is left to lay, laid from here on, is the whole. Assumes nothing.
use mathlib.Core.Path.{◌≡◌, refl}
use mathlib.Core.List.{List, [], ◌++◌}
use Prim.Native.Nat.{ℕ, ◌+◌, ◌-◌, ◌≤◌, ◌<◌}
use native.Mathlib.Omega.{arith}
use lib.ListN.{length, get_or, take, drop}
use mathlib.Core.Bool.{true}
use lib.Seq.{drop-drop}
use Rattle.packet_entries.specs.Fields.{blocks_held}
use Rattle.packet.specs.Packet.{packet_of, valid_dtvcc}
use Rattle.packet.specs.declared.DTVCCPacket.{DTVCCPacket}
use Rattle.packet_entries.proofs.Entries.{held_at, good_at}
use Rattle.packet.proofs.Holds.{Places, within_facts, entries_within}
use Rattle.program_text.specs.Laid.{Laid}
use Rattle.program_text.proofs.Layings.{laid_append}
use Rattle.program_lines.specs.Lines.{block_line, pair_text, packet_text}
use Rattle.caption.specs.declared.Cea608.{Cea608}
use Rattle.caption.specs.Pairs.{cea608_of}
use Rattle.model.specs.Packet.{Packet}
use Rattle.program_text.specs.Text.{word}
use Rattle.parser.specs.declared.Item.{Item}
use Rattle.parser.specs.declared.Item.TheVariants as item
use Rattle.ccread_report.specs.Report.{block_lines, packet_lines, pair_line, item_lines}

-- whatever is laid of the rest completes the whole
abbrev pub Completes : List ℕ → List ℕ → ℕ → List ℕ → List ℕ → ℕ → Type 0
Completes rest out laid whole before at = (r : ℕ) (after : List ℕ) → Laid rest out laid r after → Laid whole before at r after

-- a part is laid, and the rest is still to be
pub completes_more : {x rest out mid whole before : List ℕ} {laid p at : ℕ} → Completes (x ++ rest) out laid whole before at → Laid x out laid p mid
    → Completes rest mid p whole before at
completes_more k w r after l = k r after (laid_append w l)

-- nothing is laid at a place of the buffer
pub laid_nothing : (out : List ℕ) (at : ℕ) → at ≤ length out → Laid [] out at at out
laid_nothing out at h = record { place = omega arith; bytes = refl }

-- the blocks of a packet from place i on, whose payloads begin at `used`
module _ (packet : DTVCCPacket) where
  unfoldable pub lines_from : ℕ → ℕ → List ℕ
  lines_from i used = block_lines (blocks_held (packet.count - i) (drop i packet.numbers) (drop i packet.sizes) (drop used packet.payload))

  -- all of them
  pub lines_first : lines_from 0 0 ≡ block_lines (packet_of packet).blocks
  unfolding lines_from
  lines_first = let e : packet.count - 0 ≡ packet.count = omega arith in rw e

  -- the one there, and those behind it
  pub lines_next : (i used : ℕ) → i < packet.count
      → lines_from i used ≡ block_line (get_or packet.numbers i 0) (take (get_or packet.sizes i 0) (drop used packet.payload)) ++ lines_from (i + 1) (used + get_or packet.sizes i 0)
  unfolding lines_from block_lines
  lines_next i used h = rw (held_at packet.count i packet.numbers packet.sizes (drop used packet.payload) h, drop-drop (get_or packet.sizes i 0) used packet.payload)

  -- none
  pub lines_last : (i used : ℕ) → packet.count ≤ i → lines_from i used ≡ []
  unfolding lines_from block_lines blocks_held
  lines_last i used h = let e : packet.count - i ≡ 0 = omega arith in rw e

  -- a payload within the limits is short
  pub size_small : (i : ℕ) → valid_dtvcc packet ≡ true → Places packet → i < packet.count → get_or packet.sizes i 0 ≤ 31
  size_small i v places h = (good_at packet.count i packet.numbers packet.sizes (entries_within packet (within_facts packet v) places).good h).small

  -- a loop over them, in three laws: its begin, a turn, its end
  pub blocks_first : (before : List ℕ) (at : ℕ) → Completes (lines_from 0 0) before at (block_lines (packet_of packet).blocks) before at
  blocks_first before at r after w = rw (← lines_first) w

  module _ {whole before : List ℕ} {at : ℕ} where
    pub blocks_again : (i used : ℕ) {out mid part : List ℕ} {laid p : ℕ} → i < packet.count
        → part ≡ take (get_or packet.sizes i 0) (drop used packet.payload)
        → Completes (lines_from i used) out laid whole before at → Laid (block_line (get_or packet.numbers i 0) part) out laid p mid
        → Completes (lines_from (i + 1) (used + get_or packet.sizes i 0)) mid p whole before at
    blocks_again i used {out} {mid} {part} {laid} {p} h e k w r after l =
        let b : List ℕ = block_line (get_or packet.numbers i 0) (take (get_or packet.sizes i 0) (drop used packet.payload)) in
        let x : Laid b out laid p mid = rw (← e) w in
        k r after (rw (lines_next i used h) (laid_append x l))

    pub blocks_last : (i used : ℕ) {out : List ℕ} {laid : ℕ} → packet.count ≤ i → laid ≤ length out
        → Completes (lines_from i used) out laid whole before at → Laid whole before at laid out
    blocks_last i used {out} {laid} h m k = k laid out (rw (lines_last i used h) (laid_nothing out laid m))

-- an item is its parts, laid one behind another
module _ {i : Item} (m : Packet) {out mid after : List ℕ} {at p r : ℕ} where
  pub laid_pair_item : (x : Cea608) → i ≡ item.Pair x → Laid (pair_text (cea608_of x)) out at p mid → Laid (word "\n") mid p r after
      → Laid (item_lines i m) out at r after
  unfolding item_lines pair_line
  laid_pair_item x e f l = rw e (laid_append f l)

  pub laid_packet_item : {mid' : List ℕ} {q : ℕ} → i ≡ item.Packet → Laid (packet_text m.sequence) out at p mid
      → Laid (word "\n") mid p q mid' → Laid (block_lines m.blocks) mid' q r after → Laid (item_lines i m) out at r after
  unfolding item_lines packet_lines
  laid_packet_item e f l b = rw e (laid_append (laid_append f l) b)

module _ {i : Item} (m : Packet) {out : List ℕ} {at : ℕ} (h : at ≤ length out) where
  pub laid_no_item : i ≡ item.Nothing → Laid (item_lines i m) out at at out
  unfolding item_lines
  laid_no_item e = rw e (laid_nothing out at h)
