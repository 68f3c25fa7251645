-- The lines of codes: their parts, laid one behind another, and what the calls tell of them. Assumes nothing.
use mathlib.Core.Path.{◌≡◌, refl, sym, ap, ◌∙◌}
use mathlib.Core.Bool.{true}
use mathlib.Core.List.{List, [], ◌∷◌, ◌++◌, append-nil, append_assoc, map}
use Prim.Native.Nat.{ℕ, zero, suc, ◌+◌, ◌≤◌, ◌<◌}
use native.Mathlib.Numerals.{add-one}
use native.Mathlib.Omega.{arith}
use lib.ListN.{length, get_or, take, drop}
use lib.Seq.{take_all}
use Rattle.model.specs.Lists.{every}
use Rattle.model.specs.Said.{gave, refused, says, mapped, checked}
use Rattle.model.specs.Block.{Block}
use Rattle.model.specs.Codes.{codes_of, codes_of_each, codes_of_blocks}
use Rattle.model.proofs.Cases.{both, given_is}
use Rattle.model.proofs.CodedPackets.{is_cut, all_cut}
use Rattle.std.specs.Prelude.{is_ok}
use Rattle.caption.specs.declared.Refusal.{Refusal}
use Rattle.caption.specs.Answers.{said_refusal}
use Rattle.caption.proofs.Answers.{refused_with}
use Rattle.codes_cuts.proofs.Outcomes.{told_gave, told_refused}
use Rattle.service.specs.declared.Service.{Service}
use Rattle.service.specs.Service.{block_of}
use Rattle.packet.specs.declared.DTVCCPacket.{DTVCCPacket}
use Rattle.packet.specs.Packet.{packet_of, valid_dtvcc}
use Rattle.codes_cuts.specs.Cuts.{how_many, cut_of}
use Rattle.codes_cuts.proofs.Cuts.{cut_length}
use Rattle.codes.proofs.Exactly.{Answer, CheckPacket, packet_exactly}
use Rattle.program_text.specs.Laid.{Laid}
use Rattle.program_text.specs.Text.{word}
use Rattle.program_text.proofs.Layings.{laid_within, laid_append}
use Rattle.program_lines.specs.Lines.{value_text, values_text, answer_text}
use Rattle.script_answers.specs.Script.{answer_line}
use Rattle.script_packets.specs.Lines.{each_text, blocks_in}
use Rattle.script_codes.specs.Lines.{lengths_of, cut_line, counted_line, given_line, count_text, counts_line}

-- how many codes there are, by what was counted
module _ (d : List ℕ) where
  pub count_given : (n : ℕ) → gave n ≡ mapped how_many (codes_of d) → n ≡ length (cut_of d)
  count_given n e = sym (cut_length d n e)

  pub count_none : (why : Refusal) → refused (said_refusal why) ≡ mapped how_many (codes_of d) → 0 ≡ length (cut_of d)
  count_none why e = rw (told_refused how_many (codes_of d) (said_refusal why) e)

-- the same of the payload of a block, which is a part of its places
pub block_count : (s : Service) (d : List ℕ) (n : ℕ) → d ≡ take s.len (drop 0 s.payload) → n ≡ length (cut_of d) → n ≡ length (cut_of (block_of s).payload)
block_count s d n e h = rw (← e) h

-- the text of one length more
lengths_more : (i : ℕ) (cs : List (List ℕ)) → i < length cs → values_text (lengths_of (take (suc i) cs)) ≡ values_text (lengths_of (take i cs)) ++ value_text (length (get_or cs i []))
unfolding values_text
lengths_more i [] h = absurd (omega arith)
lengths_more zero (c ∷ cs) h = append-nil (value_text (length c))
lengths_more (suc i) (c ∷ cs) h =
    ap (λ (t : List ℕ). value_text (length c) ++ t) (lengths_more i cs (omega arith))
    ∙ sym (append_assoc (value_text (length c)) (values_text (lengths_of (take i cs))) (value_text (length (get_or cs i []))))

-- The loop: the lengths up to a place are laid; before the first nothing is,
module _ (cs : List (List ℕ)) where
  pub lengths_begun : {before out : List ℕ} {at q : ℕ} → Laid [] before at q out → Laid (values_text (lengths_of (take 0 cs))) out q q out
  unfolding values_text
  lengths_begun {before} {out} {at} {q} l = record { place = omega (arith, l.place, (laid_within l).1); bytes = refl }

  -- then one more,
  pub lengths_next : (i n : ℕ) {before out after : List ℕ} {at q r : ℕ} → i < length cs → n ≡ length (get_or cs i [])
      → Laid (values_text (lengths_of (take i cs))) before at q out → Laid (value_text n) out q r after → Laid (values_text (lengths_of (take (i + 1) cs))) before at r after
  lengths_next i n h e s l = rw (add-one i, lengths_more i cs h) (laid_append s (rw e at l))

  -- and at the end all
  pub lengths_all : (i : ℕ) {first before out : List ℕ} {at from q : ℕ} → length cs ≤ i → Laid [] first at from before → Laid (values_text (lengths_of (take i cs))) before from q out
      → Laid (values_text (lengths_of cs)) first at q out
  lengths_all i h none s = laid_append none (rw (take_all i cs h) at s)

module _ {out after : List ℕ} {at r : ℕ} where
  -- a line of several numbers, in its parts
  pub given_parts : {m₁ m₂ : List ℕ} {p q : ℕ} (ns : List ℕ) → Laid (word "ok") out at p m₁ → Laid (values_text ns) m₁ p q m₂ → Laid (word "\n") m₂ q r after → Laid (given_line ns) out at r after
  unfolding given_line
  given_parts ns a b c = laid_append (laid_append a b) c

  -- the lengths of the codes of some bytes, by what was counted
  module _ (d : List ℕ) where
    pub lengths_told : (n : ℕ) → gave n ≡ mapped how_many (codes_of d) → Laid (given_line (lengths_of (cut_of d))) out at r after → Laid (cut_line d) out at r after
    unfolding cut_line given_line answer_line answer_text
    lengths_told n e l = let g = told_gave how_many (codes_of d) n e in rw g.1 (rw g.1 at l)

    pub lengths_refused : (why : Refusal) → refused (said_refusal why) ≡ mapped how_many (codes_of d) → Laid (answer_line (said_refusal why)) out at r after → Laid (cut_line d) out at r after
    unfolding cut_line
    lengths_refused why e l = rw (told_refused how_many (codes_of d) (said_refusal why) e) l

  -- a line of the counts of several blocks, in its parts
  pub counts_parts : {m₁ m₂ : List ℕ} {p q : ℕ} (bs : List Block) → Laid (word "ok") out at p m₁ → Laid (each_text count_text bs) m₁ p q m₂ → Laid (word "\n") m₂ q r after → Laid (counts_line bs) out at r after
  unfolding counts_line
  counts_parts bs a b c = laid_append (laid_append a b) c

-- blocks that are all cut
abbrev cuts_of : List Block → List (List (List ℕ))
cuts_of bs = map (λ (b : Block). cut_of b.payload) bs

cuts_given : (bs : List Block) → every is_cut bs ≡ true → codes_of_blocks bs ≡ gave (cuts_of bs)
unfolding every codes_of_each
cuts_given [] h = refl
cuts_given (b ∷ bs) h =
    let t = both (is_cut b) (every is_cut bs) h in
    let g = given_is (codes_of b.payload) t.0 in
    rw (g.1, cuts_given bs t.1)

-- the text of how many codes they have
counts_text : (bs : List Block) → values_text (lengths_of (cuts_of bs)) ≡ each_text count_text bs
unfolding values_text each_text
counts_text [] = refl
counts_text (b ∷ bs) = rw (counts_text bs)

-- what is told of a packet
module _ {out after : List ℕ} {at r : ℕ} (p : DTVCCPacket) (t : Answer) (told : CheckPacket p t) where
  pub counts_given : is_ok t ≡ true → Laid (counts_line (blocks_in p)) out at r after → Laid (counted_line p) out at r after
  unfolding counted_line counts_line blocks_in answer_line answer_text
  counts_given e l =
      let f = both (valid_dtvcc p) (all_cut (packet_of p)) (sym (packet_exactly p t told) ∙ e) in
      rw (f.0, cuts_given (packet_of p).blocks f.1, counts_text (packet_of p).blocks) (rw f.0 at l)

pub counts_refused : {out after : List ℕ} {at r : ℕ} (p : DTVCCPacket) (why : Refusal) → said_refusal why ≡ says (checked (valid_dtvcc p) (codes_of_blocks (packet_of p).blocks))
    → Laid (answer_line (said_refusal why)) out at r after → Laid (counted_line p) out at r after
unfolding counted_line
counts_refused p why e l = rw (refused_with (λ _. []) why (checked (valid_dtvcc p) (codes_of_blocks (packet_of p).blocks)) e) l
