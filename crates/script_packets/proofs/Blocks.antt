-- A text for each block of a packet, laid one behind another as the blocks stand at its places. Assumes nothing.
use mathlib.Core.Path.{◌≡◌, refl, sym, ap, ◌∙◌, subst}
use mathlib.Core.Bool.{Bool, true, false, cond, true≢false}
use mathlib.Core.List.{List, [], ◌∷◌, ◌++◌, append-nil, append_assoc}
use Prim.Native.Nat.{ℕ, zero, suc, ◌+◌, ◌-◌, ◌≤◌}
use native.Mathlib.Numerals.{add-one}
use native.Mathlib.Omega.{arith}
use lib.ListN.{length, take, drop, length-drop, drop_of_length-le}
use lib.Seq.{take_all}
use Rattle.std.specs.Prelude.{Option, Some, None, is_some, Result, Ok, Err, is_ok}
use Rattle.model.specs.Lists.{every}
use Rattle.model.specs.Said.{gave, is_given, mapped, checked}
use Rattle.model.specs.Block.{Block}
use Rattle.model.specs.Packet.{carriable}
use Rattle.model.proofs.Cases.{by_test, both}
use Rattle.model.proofs.Blocks.{carriable_facts}
use Rattle.model.proofs.Limits as limits
use Rattle.caption.specs.declared.Refusal.{Refusal}
use Rattle.caption.specs.Answers.{outcome}
use Rattle.caption.proofs.Outcomes.{outcome_injective}
use Rattle.service.specs.declared.Service.{Service}
use Rattle.service.specs.Service.{block_of, over, blank}
use Rattle.service.proofs.Kept.{laid_means}
use Rattle.packet.specs.declared.DTVCCPacket.{DTVCCPacket}
use Rattle.packet.specs.Packet.{packet_of, valid_dtvcc, asked}
use Rattle.packet.specs.Place.{blocks_at, handed}
use Rattle.packet.proofs.Holds.{within_facts}
use Rattle.program_text.specs.Laid.{Laid}
use Rattle.program_text.proofs.Layings.{laid_within, laid_append}
use Rattle.script_packets.specs.Lines.{each_text, blocks_in}

-- an empty list has no first block
none_first : {b : Block} {rest : List Block} (i : ℕ) → drop i [] ≡ b ∷ rest → ⊥
none_first {b} {rest} zero e = let z : 0 ≡ suc (length rest) = ap length e in omega arith
none_first {b} {rest} (suc i) e = let z : 0 ≡ suc (length rest) = ap length e in omega arith

-- two lists that are the same have the same first block
first_same : {x b : Block} {l rest : List Block} → x ∷ l ≡ b ∷ rest → x ≡ b
first_same {x} e = ap first_or e
  where
    first_or : List Block → Block
    first_or [] = x
    first_or (c ∷ cs) = c

-- the text of one block more
text_more : (text : Block → List ℕ) (i : ℕ) (bs : List Block) (b : Block) (rest : List Block) → drop i bs ≡ b ∷ rest
    → each_text text (take (suc i) bs) ≡ each_text text (take i bs) ++ text b
unfolding each_text
text_more text i [] b rest e = absurd (none_first i e)
text_more text zero (x ∷ bs) b rest e = append-nil (text x) ∙ ap text (first_same e)
text_more text (suc i) (x ∷ bs) b rest e =
    ap (λ (l : List ℕ). text x ++ l) (text_more text i bs b rest e) ∙ sym (append_assoc (text x) (each_text text (take i bs)) (text b))

-- no payload of a packet's blocks has more than 31 bytes
small_at : (i : ℕ) (bs : List Block) (b : Block) (rest : List Block) → every carriable bs ≡ true → drop i bs ≡ b ∷ rest → length b.payload ≤ 31
unfolding every
small_at i [] b rest g e = absurd (none_first i e)
small_at zero (x ∷ bs) b rest g e =
    let same : length x.payload ≡ length b.payload = ap (λ (c : Block). length c.payload) (first_same e) in
    omega (arith, (carriable_facts x (both (carriable x) (every carriable bs) g).0).small)
small_at (suc i) (x ∷ bs) b rest g e = small_at i bs b rest (both (carriable x) (every carriable bs) g).1 e

-- a block that stands at a place
record At (p : DTVCCPacket) (i : ℕ) (s : Service) : Type 0 where
  block : Block
  rest : List Block
  there : drop i (blocks_in p) ≡ block ∷ rest
  same : block_of s ≡ block

-- what `service` answers of a place
abbrev pub Told : DTVCCPacket → ℕ → Result (Option Service) Refusal → Type 0
Told p i h = outcome h ≡ mapped handed (asked p (blocks_at i))

-- what stands at a place, by whether the packet is within the limits and by the blocks from the place on
module _ (p : DTVCCPacket) (i : ℕ) (h : Result (Option Service) Refusal) (w : Told p i h) (v : Bool) (l : List Block) (e : valid_dtvcc p ≡ v)
    (f : drop i (packet_of p).blocks ≡ l) where
  told : outcome h ≡ mapped handed (checked v (gave (take 1 l)))
  told = w ∙ rw (e, f)

  blocks_are : drop i (blocks_in p) ≡ drop i (cond v (packet_of p).blocks [])
  unfolding blocks_in
  blocks_are = rw e

here_by : (p : DTVCCPacket) (i : ℕ) (s : Service) → Told p i (Ok (Some s)) → (v : Bool) (l : List Block) → valid_dtvcc p ≡ v
    → drop i (packet_of p).blocks ≡ l → At p i s
here_by p i s w false l e f = absurd (true≢false (ap is_given (told p i (Ok (Some s)) w false l e f)))
here_by p i s w true [] e f =
    let k : ◌≡◌ {A = Option Service} (Some s) None = let q : gave (Some s) ≡ gave None = told p i (Ok (Some s)) w true [] e f in cc in
    absurd (true≢false (ap is_some k))
here_by p i s w true (b ∷ rest) e f =
    let k : s ≡ over blank b = let q : gave (Some s) ≡ gave (Some (over blank b)) = told p i (Ok (Some s)) w true (b ∷ rest) e f in cc in
    record {
      block = b;
      rest = rest;
      there = blocks_are p i (Ok (Some s)) w true (b ∷ rest) e f ∙ f;
      same = ap block_of k ∙ laid_means b (small_at i (packet_of p).blocks b rest (within_facts p e).packet.blocks f);
    }

drop_none : (i : ℕ) → drop {A = Block} i [] ≡ []
drop_none zero = refl
drop_none (suc i) = refl

-- none is left where none is told
none_by : (p : DTVCCPacket) (i : ℕ) (h : Result (Option Service) Refusal) → Told p i h → (v : Bool) (l : List Block) → valid_dtvcc p ≡ v
    → drop i (packet_of p).blocks ≡ l → ((s : Service) → h ≡ Ok (Some s) → ⊥) → drop i (blocks_in p) ≡ []
none_by p i h w false l e f k = blocks_are p i h w false l e f ∙ drop_none i
none_by p i h w true [] e f k = blocks_are p i h w true [] e f ∙ f
none_by p i h w true (b ∷ rest) e f k =
    absurd (k (over blank b) (outcome_injective h (Ok (Some (over blank b))) (told p i h w true (b ∷ rest) e f)))

-- no packet has more than 63 blocks
few_blocks : (p : DTVCCPacket) (i : ℕ) → 63 ≤ i → drop i (blocks_in p) ≡ []
unfolding blocks_in
few_blocks p i h =
    by_test (valid_dtvcc p)
    (λ e. let few : length (packet_of p).blocks ≤ i = omega (arith, limits.few_blocks (packet_of p) (within_facts p e).packet) in
    rw e (drop_of_length-le (packet_of p).blocks few))
    (λ e. rw e (drop_none i))

-- a list of which nothing is left from a place on is taken whole up to it
taken_whole : (i : ℕ) (bs : List Block) → drop i bs ≡ [] → take i bs ≡ bs
taken_whole i bs e =
    let z : length bs - i ≡ 0 = sym (length-drop i bs) ∙ ap length e in take_all i bs (omega arith)

module _ (text : Block → List ℕ) where
  -- The loop: the texts of the blocks up to a place are laid, and before the first nothing is.
  pub texts_begun : (p : DTVCCPacket) {before out : List ℕ} {at q : ℕ} → Laid [] before at q out → Laid (each_text text (take 0 (blocks_in p))) out q q out
  unfolding each_text
  texts_begun p {before} {out} {at} {q} l = record { place = omega (arith, l.place, (laid_within l).1); bytes = refl }

  pub texts_more : (p : DTVCCPacket) (i : ℕ) {before out after : List ℕ} {at q r : ℕ} (h : Result (Option Service) Refusal) (o : Option Service) (s : Service) → Told p i h → h ≡ Ok o → o ≡ Some s
      → Laid (each_text text (take i (blocks_in p))) before at q out → Laid (text (block_of s)) out q r after
      → Laid (each_text text (take (i + 1) (blocks_in p))) before at r after
  texts_more p i {before} {out} {after} {at} {q} {r} h o s w e f t l =
      let there = here_by p i s (rw (e, f) at w) (valid_dtvcc p) (drop i (packet_of p).blocks) refl refl in
      let b = there.block in
      let one : Laid (text b) out q r after = subst (λ (c : Block). Laid (text c) out q r after) there.same l in
      rw (add-one i, text_more text i (blocks_in p) b there.rest there.there) (laid_append t one)

  -- Where none is left, all are laid.
  module _ (p : DTVCCPacket) (i : ℕ) {first before out : List ℕ} {at from q : ℕ} (none : Laid [] first at from before)
      (s : Laid (each_text text (take i (blocks_in p))) before from q out) where
    whole : drop i (blocks_in p) ≡ [] → Laid (each_text text (blocks_in p)) first at q out
    whole e = laid_append none (subst (λ (l : List Block). Laid (each_text text l) before from q out) (taken_whole i (blocks_in p) e) s)

    texts_end : (h : Result (Option Service) Refusal) → Told p i h → ((s : Service) → h ≡ Ok (Some s) → ⊥) → Laid (each_text text (blocks_in p)) first at q out
    texts_end h w k = whole (none_by p i h w (valid_dtvcc p) (drop i (packet_of p).blocks) refl refl k)

    pub texts_none : (h : Result (Option Service) Refusal) (o : Option Service) → Told p i h → h ≡ Ok o → o ≡ None → Laid (each_text text (blocks_in p)) first at q out
    texts_none h o w e n = texts_end h w (λ s k. let z : ◌≡◌ {A = Option Service} (Some s) None = (let y : ◌≡◌ {A = Option Service} o (Some s) = cc in sym y ∙ n) in absurd (true≢false (ap is_some z)))

    pub texts_refused : (h : Result (Option Service) Refusal) (why : Refusal) → Told p i h → h ≡ Err why → Laid (each_text text (blocks_in p)) first at q out
    texts_refused h why w e = texts_end h w (λ s k. let z : ◌≡◌ {A = Result (Option Service) Refusal} (Ok (Some s)) (Err why) = sym k ∙ e in absurd (true≢false (ap is_ok z)))

    pub texts_most : 63 ≤ i → Laid (each_text text (blocks_in p)) first at q out
    texts_most h = whole (few_blocks p i h)
