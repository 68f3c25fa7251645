-- How a packet is laid into an output: header, blocks, fill. Assumes nothing.
use mathlib.Core.Path.{◌≡◌, refl, sym, ap, ◌∙◌}
use mathlib.Core.Bool.{true, false, cond}
use mathlib.Core.List.{List, ◌∷◌, ◌++◌}
use Prim.Native.Nat.{ℕ, ◌+◌, ◌-◌, ◌*◌, ◌/◌, ◌%◌, ◌≤◌, ◌<◌}
use native.Mathlib.Nat.{sub-zero}
use native.Mathlib.Omega.{arith}
use lib.Dec.{eqb, ltb}
use lib.ListN.{length, take, drop, get_or, set, length-append, length-drop}
use lib.Seq.{sets, drop-drop, length-take-le, set_out}
use borrow.Author.Tests.{eq-eqb, ne_eqb, lt-ltb, le-ltb, eqb-true, eqb-false}
use Rattle.model.specs.Said.{gave, refused, put_into, bad_value, out_short}
use Rattle.model.specs.Block.{Block, written_header, written_block}
use Rattle.model.specs.Packet.{packet_length, packet_header, written_blocks, written_packet, fill}
use Rattle.model.proofs.Cases.{by_test, by_cond, both}
use Rattle.model.proofs.Blocks.{written_length}
use Rattle.model.proofs.Packets.{written_blocks_length, fill_length}
use Rattle.service_headers.specs.Head.{length_for}
use Rattle.basics.proofs.Runs.{sets_append, sets_front}
use Rattle.service_headers.proofs.Heads.{laid_block}
use Rattle.packet_entries.specs.Fields.{Fields, packet_in, block_from}
use Rattle.packet_entries.specs.Entries.{Entry, entries, entries_of, cut, good_entry, good_entries, entry_lengths, used_by, valid_entries}
use Rattle.packet_entries.specs.Extent.{Sized}
use Rattle.packet_writing.specs.Writing.{Writable, written}
use Rattle.packet_entries.proofs.Entries.{Good, no_lengths, entries_at, good_facts, length_for_some}
use Rattle.packet_entries.proofs.Holds.{Within, within_facts, blocks_cut, used_fits, lengths_held, held_valid, tests_agree}
use Rattle.packet_entries.proofs.Measures.{sized_within, sized_valid, sized_length}

-- the fill of an odd length, and of an even one
module _ (l : List ℕ) (n : ℕ) where
  pub fill_odd : n % 2 ≡ 1 → set l n 0 ≡ sets l n (fill n)
  unfolding fill
  fill_odd e = rw (eq-eqb (n % 2) 1 e)

  pub fill_past : n % 2 ≡ 1 → length l ≤ n → l ≡ sets l n (fill n)
  unfolding fill
  fill_past e h = rw (eq-eqb (n % 2) 1 e) (sym (set_out l n 0 h))

  pub fill_even : (n % 2 ≡ 1 → ⊥) → l ≡ sets l n (fill n)
  unfolding fill
  fill_even e = rw (ne_eqb (n % 2) 1 e)

-- a header, and the payload behind it
pub block_laid : (number size start at : ℕ) (part l l₁ l₂ : List ℕ) → size ≡ length part → size ≤ 31 → start ≡ cond (ltb number 7) 1 2
    → l₁ ≡ sets l at (written_header number (size % 32)) → l₂ ≡ sets l₁ (at + start) part → l₂ ≡ sets l at (written_block (block_from number part))
block_laid number size start at part l l₁ l₂ e h s a b =
    let m : size % 32 ≡ size = omega arith in
    b ∙ rw (a, m) (laid_block (block_from number part) l at start size s e)

-- blocks laid up to place i
pub record Laying (count : ℕ) (ns ss d l₀ : List ℕ) (at from i : ℕ) (l : List ℕ) : Type 0 where
  pub within : i ≤ count
  pub left : Writable (entries (count - i) (drop i ns) (drop i ss)) count (length d - from)
  pub inside : from ≤ length d
  pub here : at + entry_lengths (entries (count - i) (drop i ns) (drop i ss)) ≤ 128
  pub same : sets l at (written_blocks (cut (entries (count - i) (drop i ns) (drop i ss)) (drop from d))) ≡ sets l₀ 1 (written_blocks (cut (entries count ns ss) d))

module _ (count : ℕ) (ns ss d l₀ : List ℕ) where
  pub laying_first : Writable (entries count ns ss) count (length d) → Laying count ns ss d l₀ 1 0 0 l₀
  laying_first w =
      record { within = omega arith; left = rw (sub-zero count, sub-zero (length d)) w; inside = omega arith; here = rw (sub-zero count) (omega (arith, w.short)); same = rw (sub-zero count) }

  module _ (at from i : ℕ) (l : List ℕ) (g : Laying count ns ss d l₀ at from i l) where
    pub laying_last : count ≤ i → l ≡ sets l₀ 1 (written_blocks (cut (entries count ns ss) d))
    unfolding entries cut written_blocks
    laying_last h = let z : count - i ≡ 0 = omega (arith, g.within) in sym (rw z) ∙ g.same

    module _ (more : i < count) where
      abbrev n : ℕ
      n = get_or ns i 0

      abbrev k : ℕ
      k = get_or ss i 0

      abbrev rest : List Entry
      rest = entries (count - (i + 1)) (drop (i + 1) ns) (drop (i + 1) ss)

      next : Writable (record { number = n; size = k } ∷ rest) count (length d - from)
      next = rw (entries_at count i ns ss more) at g.left

      both_good : (good_entry n k ≡ true) × (good_entries rest ≡ true)
      unfolding good_entries
      both_good = both (good_entry n k) (good_entries rest) next.good

      pub good_here : Good n k
      good_here = good_facts n k both_good.0

      used_here : k + used_by rest ≤ length d - from
      unfolding used_by
      used_here = next.there

      lengths_here : at + (length_for n k + entry_lengths rest) ≤ 128
      unfolding entry_lengths
      lengths_here = rw (entries_at count i ns ss more) at g.here

      lengths_next : length_for n k + entry_lengths rest ≤ 127
      unfolding entry_lengths
      lengths_next = next.short

      pub bytes_here : from + k ≤ length d
      bytes_here = omega (arith, used_here, g.inside)

      pub place_here : at + (2 + k) ≤ 162
      place_here = omega (arith, lengths_here, good_here.small)

      pub part_here : length (take k (drop from d)) ≡ k
      part_here = length-take-le k (drop from d) (rw length-drop (omega (arith, used_here)))

      pub laying_next : (start step end : ℕ) (l₁ : List ℕ) → start ≡ cond (ltb n 7) 1 2 → step ≡ start + k → end ≡ from + k
          → l₁ ≡ sets l at (written_block (block_from n (take k (drop from d)))) → Laying count ns ss d l₀ (at + step) end (i + 1) l₁
      unfolding written_blocks cut
      laying_next start step end l₁ s e f w =
          let b : Block = block_from n (take k (drop from d)) in
          let m : length (written_block b) ≡ step = written_length b ∙ rw (part_here, ← s) (sym e) in
          let z : length_for n k ≡ step = length_for_some n k good_here.filled ∙ rw (← s) (sym e) in
          let x : sets l at (written_blocks (cut (record { number = n; size = k } ∷ rest) (drop from d))) ≡ sets l₀ 1 (written_blocks (cut (entries count ns ss) d)) =
          rw (entries_at count i ns ss more) at g.same in
          let y : sets l at (written_block b ++ written_blocks (cut rest (drop k (drop from d)))) ≡ sets (sets l at (written_block b)) (at + step) (written_blocks (cut rest (drop (from + k) d))) =
          sets_append (written_block b) (written_blocks (cut rest (drop k (drop from d)))) l at ∙ rw (m, drop-drop k from d) in
          record {
            within = omega arith;
            left = record { few = g.left.few; there = omega (arith, used_here); good = both_good.1; short = omega (arith, lengths_next) };
            inside = omega (arith, bytes_here);
            here = omega (arith, lengths_here);
            same = rw (w, f) (sym y ∙ x);
          }

-- the whole packet: its header, its blocks and its fill are what it is written in
module _ (p : Fields) (n u : ℕ) (s : Sized p n u) (full : length p.payload ≡ 127) where
  w : Within p
  w = sized_within p n u s

  abbrev lengths : ℕ
  lengths = entry_lengths (entries_of p)

  blocks_are : length (written_blocks (packet_in p).blocks) ≡ lengths
  blocks_are = written_blocks_length (packet_in p).blocks (held_valid p w full).blocks ∙ lengths_held p w full

  -- a packet without blocks has length 0, and any other a byte more than its blocks
  none_or_more : (P : ℕ → ℕ → Type 0) → P 0 0 → ((l : ℕ) → P (1 + l) l) → P n lengths
  none_or_more P a b =
      by_test (eqb p.count 0)
      (λ e. let z : lengths ≡ 0 = no_lengths p.count p.numbers p.sizes (eqb-true _ _ e) in rw (s.length_is, e, z) a)
      (λ e. rw (s.length_is, e) (b lengths))

  pub written_total : (t : ℕ) → t ≡ cond (eqb n 0) 1 (n + n % 2) → length (written_packet (packet_in p)) ≡ t
  unfolding written_packet
  written_total t e =
      let both_parts = length-append (written_blocks (packet_in p).blocks) (fill (packet_length (packet_in p))) in
      let m : length (written_packet (packet_in p)) ≡ 1 + (lengths + n % 2) =
      omega (arith, both_parts, blocks_are, fill_length (packet_length (packet_in p)), sized_length p n u s full) in
      m ∙ none_or_more (λ k l. 1 + (l + k % 2) ≡ cond (eqb k 0) 1 (k + k % 2)) refl (λ l. let z : eqb (1 + l) 0 ≡ false = ne_eqb (1 + l) 0 (λ q. omega arith) in rw z (omega arith)) ∙ sym e

  -- the fill stands behind the blocks
  fill_place : (l : List ℕ) → sets l n (fill n) ≡ sets l (1 + lengths) (fill n)
  unfolding fill
  fill_place l = none_or_more (λ k m. sets l k (fill k) ≡ sets l (1 + m) (fill k)) refl (λ _. refl)

  pub packet_laid : (h : ℕ) (out l₁ l₂ : List ℕ) → h ≡ p.seq_no * 64 + (n + 1) / 2 % 64 → l₁ ≡ sets (set out 0 h) 1 (written_blocks (cut (entries_of p) p.payload)) → l₂ ≡ sets l₁ n (fill n)
      → l₂ ≡ sets out 0 (written_packet (packet_in p))
  unfolding written_packet packet_header
  packet_laid h out l₁ l₂ e a b =
      b ∙ fill_place l₁ ∙ rw (sized_length p n u s full, ← e, a, ← blocks_cut p) (sym (sets_append (written_blocks (packet_in p).blocks) (fill n) (set out 0 h) 1 ∙ rw blocks_are))

  -- what the write answers
  module _ (t : ℕ) (is : t ≡ cond (eqb n 0) 1 (n + n % 2)) where
    pub total_some : 1 ≤ t
    total_some = rw is (by_cond (λ k. 1 ≤ k) (eqb n 0) (λ _. omega arith) (λ e. omega (arith, eqb-false n 0 e)))

    -- 9: the output is too short
    pub write_short : (out : List ℕ) → length out < t → written p out ≡ refused (out_short t)
    unfolding put_into
    write_short out h =
        let z : ltb (length out) t ≡ true = lt-ltb _ _ h in
        rw (sized_valid p n u s full, written_total t is, z)

    -- accepted: the packet stands at the front of the output
    pub write_fits : (out now : List ℕ) → t ≤ length out → now ≡ sets out 0 (written_packet (packet_in p)) → written p out ≡ gave now
    unfolding put_into
    write_fits out now h e =
        let z : ltb (length out) t ≡ false = le-ltb _ _ h in
        let f = sets_front out (written_packet (packet_in p)) (omega (arith, written_total t is)) in
        rw (sized_valid p n u s full, written_total t is, z) (ap gave (sym (e ∙ rw (written_total t is) at f)))

-- 11: the places break a limit
pub write_invalid : (p : Fields) → length p.payload ≡ 127 → (out : List ℕ) → valid_entries p ≡ false → written p out ≡ refused bad_value
write_invalid p full out e = rw (tests_agree p full, e)

-- the blocks of such a packet may be written
pub writable : (p : Fields) → valid_entries p ≡ true → length p.payload ≡ 127 → Writable (entries_of p) p.count (length p.payload)
writable p v full = let w = within_facts p v in record { few = w.count; there = used_fits p w full; good = w.good; short = w.lengths }
