-- What valid places hold is a packet within the limits, and a packet laid over any places is the packet held. Assumes nothing.
use mathlib.Core.Path.{◌≡◌, refl, sym, ap, ◌∙◌}
use mathlib.Core.Bool.{Bool, true, false, cond, ◌&&◌}
use mathlib.Core.List.{List, [], ◌∷◌, ◌++◌, map}
use Prim.Native.Nat.{ℕ, ◌+◌, ◌≤◌}
use native.Mathlib.Omega.{arith}
use lib.Dec.{eqb, leb}
use lib.ListN.{length, take, drop, length-map}
use lib.Seq.{sets, length-sets}
use borrow.Author.Tests.{le-leb, leb-true, eqb-true, eqb-false}
use Rattle.model.specs.Block.{Block}
use Rattle.model.specs.Packet.{Packet, blocks_length, packet_length, valid_packet}
use Rattle.model.specs.Services.{numbers_of}
use Rattle.model.proofs.Cases.{by_test, both}
use Rattle.model.proofs.Packets.{Valid, valid_facts, facts_valid, length_some, length_empty}
use Rattle.model.proofs.Limits.{few_blocks}
use Rattle.basics.proofs.Runs.{sets_front}
use Rattle.packet_entries.specs.Fields.{Fields, Places, packet_in, sum_of, valid_fields, laid_over, sizes_of, payloads_of}
use Rattle.packet_entries.specs.Entries.{Entry, entries_of, cut, good_entries, entry_lengths, used_by, valid_as, valid_entries}
use Rattle.packet_entries.proofs.Entries.{entries_length, held_cut, used_all, used_least, cut_length, cut_carriable, cut_good, cut_lengths, entry_of, entries_laid, cut_laid, laid_good, laid_lengths, payloads_length}

-- places within the limits, as facts of their entries
pub record Within (p : Fields) : Type 0 where
  pub sequence : p.seq_no ≤ 3
  pub count : p.count ≤ 63
  pub good : good_entries (entries_of p) ≡ true
  pub lengths : entry_lengths (entries_of p) ≤ 127

pub within_facts : (p : Fields) → valid_entries p ≡ true → Within p
unfolding valid_as
within_facts p e =
    let es : List Entry = entries_of p in
    let a = both (leb p.seq_no 3) (leb p.count 63 && (good_entries es && leb (entry_lengths es) 127)) e in
    let b = both (leb p.count 63) (good_entries es && leb (entry_lengths es) 127) a.1 in
    let c = both (good_entries es) (leb (entry_lengths es) 127) b.1 in
    record { sequence = leb-true _ _ a.0; count = leb-true _ _ b.0; good = c.0; lengths = leb-true _ _ c.1 }

pub facts_within : (p : Fields) → Within p → valid_entries p ≡ true
unfolding valid_as
facts_within p w = simp (le-leb _ _ w.sequence, le-leb _ _ w.count, w.good, le-leb _ _ w.lengths)

-- the blocks that are held, cut by the entries
pub blocks_cut : (p : Fields) → (packet_in p).blocks ≡ cut (entries_of p) p.payload
blocks_cut p = held_cut p.count p.numbers p.sizes p.payload

pub blocks_count : (p : Fields) → length (packet_in p).blocks ≡ p.count
blocks_count p = ap length (blocks_cut p) ∙ cut_length (entries_of p) p.payload ∙ entries_length p.count p.numbers p.sizes

module _ (p : Fields) (w : Within p) (full : length p.payload ≡ 127) where
  -- the payloads stand in their places
  pub used_fits : used_by (entries_of p) ≤ length p.payload
  used_fits = omega (arith, used_least (entries_of p) w.good, w.lengths)

  pub lengths_held : blocks_length (packet_in p).blocks ≡ entry_lengths (entries_of p)
  lengths_held = ap blocks_length (blocks_cut p) ∙ cut_lengths (entries_of p) p.payload w.good used_fits

  pub length_held : packet_length (packet_in p) ≡ cond (eqb p.count 0) 0 (1 + entry_lengths (entries_of p))
  length_held =
      by_test (eqb p.count 0)
      (λ e. rw e (length_empty (packet_in p) (blocks_count p ∙ eqb-true _ _ e)))
      (λ e. rw e (length_some (packet_in p) (omega (arith, blocks_count p, eqb-false p.count 0 e)) ∙ ap (λ n. 1 + n) lengths_held))

  -- so that the packet that they hold is within the limits [P1]
  pub held_valid : Valid (packet_in p)
  held_valid =
      record {
        sequence = w.sequence;
        blocks = rw (blocks_cut p) (cut_carriable (entries_of p) p.payload w.good used_fits);
        length = rw length_held (by_test (eqb p.count 0) (λ e. rw e (omega arith)) (λ e. rw e (omega (arith, w.lengths))));
      }

  -- so that they pass the test
  pub within_valid : valid_fields p ≡ true
  unfolding valid_fields
  within_valid =
      let sum : sum_of (take p.count p.sizes) ≤ 127 = omega (arith, used_all p.count p.numbers p.sizes, used_fits) in
      simp (le-leb _ _ w.count, le-leb _ _ sum, facts_valid (packet_in p) held_valid)

lengths_none : (bs : List Block) → length bs ≡ 0 → blocks_length bs ≡ 0
unfolding blocks_length
lengths_none [] e = refl
lengths_none (b ∷ bs) e = absurd (omega arith)

-- the blocks of a packet within the limits
blocks_short : (p : Packet) → Valid p → blocks_length p.blocks ≤ 127
blocks_short p v =
    by_test (eqb (length p.blocks) 0)
    (λ e. omega (arith, lengths_none p.blocks (eqb-true _ _ e)))
    (λ e. omega (arith, length_some p (omega (arith, eqb-false (length p.blocks) 0 e)), v.length))

-- places that pass the test, as facts of the packet that they hold
pub record Held (p : Fields) : Type 0 where
  pub count : p.count ≤ 63
  pub used : sum_of (take p.count p.sizes) ≤ 127
  pub packet : Valid (packet_in p)

pub held_facts : (p : Fields) → valid_fields p ≡ true → Held p
unfolding valid_fields
held_facts p e =
    let k : ℕ = sum_of (take p.count p.sizes) in
    let a = both (leb p.count 63 && leb k 127) (valid_packet (packet_in p)) e in
    let b = both (leb p.count 63) (leb k 127) a.0 in
    record { count = leb-true _ _ b.0; used = leb-true _ _ b.1; packet = valid_facts (packet_in p) a.1 }

-- their entries are then within the limits
pub held_within : (p : Fields) → Held p → length p.payload ≡ 127 → Within p
held_within p h full =
    let es : List Entry = entries_of p in
    let fit : used_by es ≤ length p.payload = omega (arith, used_all p.count p.numbers p.sizes, h.used) in
    let good : good_entries es ≡ true = cut_good es p.payload fit (rw (blocks_cut p) at h.packet.blocks) in
    let same : blocks_length (packet_in p).blocks ≡ entry_lengths es = ap blocks_length (blocks_cut p) ∙ cut_lengths es p.payload good fit in
    record { sequence = h.packet.sequence; count = h.count; good = good; lengths = omega (arith, blocks_short (packet_in p) h.packet) }

agree : (a b : Bool) → (a ≡ true → b ≡ true) → (b ≡ true → a ≡ true) → a ≡ b
agree true b f g = sym (f refl)
agree false true f g = g refl
agree false false f g = refl

-- the test of what places hold, and that of their numbers and sizes alone
pub tests_agree : (p : Fields) → length p.payload ≡ 127 → valid_fields p ≡ valid_entries p
tests_agree p full =
    agree (valid_fields p) (valid_entries p)
    (λ e. facts_within p (held_within p (held_facts p e) full))
    (λ e. within_valid p (within_facts p e) full)

-- a packet laid over any places
module _ (old : Fields) (places : Places old) (p : Packet) (v : Valid p) where
  entries_are : entries_of (laid_over old p) ≡ map entry_of p.blocks
  unfolding laid_over
  entries_are =
      let few = few_blocks p v in
      let n : sets old.numbers 0 (numbers_of p.blocks) ≡ numbers_of p.blocks ++ drop (length (numbers_of p.blocks)) old.numbers =
      sets_front old.numbers (numbers_of p.blocks) (omega (arith, length-map p.blocks (λ (b : Block). b.number), places.numbers)) in
      let s : sets old.sizes 0 (sizes_of p.blocks) ≡ sizes_of p.blocks ++ drop (length (sizes_of p.blocks)) old.sizes =
      sets_front old.sizes (sizes_of p.blocks) (omega (arith, length-map p.blocks (λ (b : Block). length b.payload), places.sizes)) in
      rw (n, s) (entries_laid p.blocks _ _)

  payloads_fit : length (payloads_of p.blocks) ≤ length old.payload
  payloads_fit =
      let used = used_least (map entry_of p.blocks) (laid_good p.blocks v.blocks) in
      omega (arith, payloads_length p.blocks, used, laid_lengths p.blocks v.blocks, blocks_short p v, places.payload)

  -- it is what is then held
  pub over_holds : packet_in (laid_over old p) ≡ p
  unfolding laid_over
  over_holds =
      let f : sets old.payload 0 (payloads_of p.blocks) ≡ payloads_of p.blocks ++ drop (length (payloads_of p.blocks)) old.payload =
      sets_front old.payload (payloads_of p.blocks) payloads_fit in
      let e : (packet_in (laid_over old p)).blocks ≡ p.blocks = blocks_cut (laid_over old p) ∙ rw (entries_are, f) (cut_laid p.blocks _) in
      ap (λ (bs : List Block). record { sequence = p.sequence; blocks = bs }) e

  -- and its entries are within the limits
  pub over_within : Within (laid_over old p)
  unfolding laid_over
  over_within =
      record {
        sequence = v.sequence;
        count = few_blocks p v;
        good = rw entries_are (laid_good p.blocks v.blocks);
        lengths = rw (entries_are, laid_lengths p.blocks v.blocks) (blocks_short p v);
      }

  pub over_places : Places (laid_over old p)
  unfolding laid_over
  over_places = record { numbers = rw length-sets places.numbers; sizes = rw length-sets places.sizes; payload = rw length-sets places.payload }

  -- so that it breaks none
  pub over_valid : valid_fields (laid_over old p) ≡ true
  over_valid = within_valid (laid_over old p) over_within over_places.payload
