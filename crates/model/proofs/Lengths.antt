-- What the readers of blocks and packets refuse with: 13, 14 and 15 alone, and what their values are. Assumes nothing.
use mathlib.Core.Path.{◌≡◌, refl, sym, ap, subst, ◌∙◌}
use mathlib.Core.Bool.{true, false}
use mathlib.Core.List.{List, [], ◌∷◌}
use Prim.Native.Nat.{ℕ, zero, suc, ◌+◌, ◌-◌, ◌≤◌, ◌<◌}
use native.Mathlib.Omega.{arith}
use lib.Dec.{eqb, ltb}
use lib.ListN.{length, get_or, drop, length-drop}
use lib.Seq.{drop-drop}
use borrow.Author.Tests.{ltb-true, ltb-false, eqb-true, eqb-false}
use Rattle.model.specs.Said.{Said, packet_length_wrong, block_header_short, block_body_short}
use Rattle.model.specs.Block.{header_length, block_size, read_block_at, read_block}
use Rattle.model.specs.Packet.{packet_size, Way, kept, blocks_from, read_by}
use Rattle.model.proofs.Cases.{by_test, by_cond, Refuses, refuses_weaker, refuses_then, refuses_mapped}
use Rattle.model.proofs.Blocks.{header_missing, body_missing, read_whole}

-- Of the bytes d, which stand at the offset, some of the block that they begin with are missing: of its header, or of what that announces.
pub data ShortAt (offset : ℕ) (d : List ℕ) (why : Said) : Type 0 where
  in_header : length d < header_length (get_or d 0 0) → why ≡ block_header_short (header_length (get_or d 0 0)) (length d) offset → ShortAt offset d why
  in_body : header_length (get_or d 0 0) ≤ length d → length d < header_length (get_or d 0 0) + block_size (get_or d 0 0)
      → why ≡ block_body_short (header_length (get_or d 0 0) + block_size (get_or d 0 0)) (length d) offset → ShortAt offset d why

block_short : (offset : ℕ) (d : List ℕ) → Refuses (ShortAt offset d) (read_block_at offset d)
block_short offset d =
    let h : ℕ = header_length (get_or d 0 0) in
    let all : ℕ = h + block_size (get_or d 0 0) in
    by_test (ltb (length d) h)
    (λ e. let few = ltb-true (length d) h e in rw (header_missing offset d few) (in_header few refl))
    (λ e. let k = ltb-false (length d) h e in
    by_test (ltb (length d) all)
    (λ f. let few = ltb-true (length d) all f in rw (body_missing offset d k few) (in_body k few refl))
    (λ f. rw (read_whole offset d (ltb-false (length d) all f)) tt))

-- a block that is read alone stands at 0
pub block_refusals : (d : List ℕ) → Refuses (ShortAt 0 d) (read_block d)
block_refusals d = block_short 0 d

-- A block of the packet p is short that begins at a place within it, `from` or further on, where the reader does not stop: its offset is that place.
pub record Inside (way : Way) (from : ℕ) (p : List ℕ) (why : Said) : Type 0 where
  pub at : ℕ
  pub behind : from ≤ at
  pub within : at < length p
  pub met : way.stops (drop at p) ≡ false
  pub short : ShortAt at (drop at p) why

-- the bytes behind the first
behind_first : (p : List ℕ) (offset x : ℕ) (d : List ℕ) → drop offset p ≡ x ∷ d → drop (suc offset) p ≡ d
behind_first p offset x d is = let s : offset + 1 ≡ suc offset = omega arith in rw (← s) (sym (drop-drop 1 offset p) ∙ ap (drop 1) is)

module _ (way : Way) (p : List ℕ) where
  -- from a place before it is the same
  earlier : (from : ℕ) (why : Said) → Inside way (suc from) p why → Inside way from p why
  earlier from why i = record { at = i.at; behind = omega (arith, i.behind); within = i.within; met = i.met; short = i.short }

  -- the block at a place
  short_here : (offset x : ℕ) (d : List ℕ) → drop offset p ≡ x ∷ d → way.stops (x ∷ d) ≡ false → Refuses (Inside way offset p) (read_block_at offset (x ∷ d))
  short_here offset x d is on =
      let long : suc (length d) ≡ length p - offset = sym (ap length is) ∙ length-drop offset p in
      let here : (why : Said) → ShortAt offset (x ∷ d) why → Inside way offset p why = λ why s. record {
        at = offset;
        behind = omega arith;
        within = omega arith;
        met = rw is on;
        short = subst (λ (e : List ℕ). ShortAt offset e why) (sym is) s;
      } in
      refuses_weaker here (read_block_at offset (x ∷ d)) (block_short offset (x ∷ d))

  -- blocks one after the other
  blocks_short : (offset passed : ℕ) (d : List ℕ) → drop offset p ≡ d → Refuses (Inside way offset p) (blocks_from way offset passed d)
  unfolding blocks_from
  blocks_short offset passed [] is = tt
  blocks_short offset (suc passed) (x ∷ d) is =
      refuses_weaker (earlier offset) (blocks_from way (suc offset) passed d) (blocks_short (suc offset) passed d (behind_first p offset x d is))
  blocks_short offset zero (x ∷ d) is =
      let rest = blocks_from way (suc offset) (way.move (x ∷ d) - 1) d in
      by_cond (Refuses (Inside way offset p)) (way.stops (x ∷ d)) (λ _. tt)
      (λ on. refuses_then (Inside way offset p) (read_block_at offset (x ∷ d)) _ (short_here offset x d is on)
      (λ b. refuses_mapped (Inside way offset p) (kept b) rest
      (refuses_weaker (earlier offset) rest (blocks_short (suc offset) (way.move (x ∷ d) - 1) d (behind_first p offset x d is)))))

-- What a packet is refused with: there are no bytes, a wrong number of them beside what its header says, or a block in it is short.
pub data OfLength (way : Way) (Wrong : ℕ → ℕ → Type 0) (p : List ℕ) (why : Said) : Type 0 where
  none : length p ≡ 0 → why ≡ packet_length_wrong 1 0 0 → OfLength way Wrong p why
  own : 1 ≤ length p → Wrong (packet_size (get_or p 0 0)) (length p) → why ≡ packet_length_wrong (packet_size (get_or p 0 0)) (length p) 0 → OfLength way Wrong p why
  inside : Inside way 1 p why → OfLength way Wrong p why

-- either reader, by what its test of the length finds
pub packet_refusals : (way : Way) (Wrong : ℕ → ℕ → Type 0) → ((size n : ℕ) → way.wrong size n ≡ true → Wrong size n) → (p : List ℕ)
    → Refuses (OfLength way Wrong p) (read_by way p)
unfolding read_by
packet_refusals way Wrong finds p =
    by_cond (Refuses (OfLength way Wrong p)) (eqb (length p) 0)
    (λ e. none (eqb-true (length p) 0 e) refl)
    (λ e. by_cond (Refuses (OfLength way Wrong p)) (way.wrong (packet_size (get_or p 0 0)) (length p))
    (λ w. own (omega (arith, eqb-false (length p) 0 e)) (finds (packet_size (get_or p 0 0)) (length p) w) refl)
    (λ _. refuses_mapped (OfLength way Wrong p) _ (blocks_from way 1 0 (drop 1 p))
    (refuses_weaker (λ why c. inside c) (blocks_from way 1 0 (drop 1 p)) (blocks_short way p 1 0 (drop 1 p) refl))))
