-- How the blocks of a packet are read into their places, step by step. Assumes nothing.
use mathlib.Core.Path.{◌≡◌, refl, sym, ap, ◌∙◌}
use mathlib.Core.Bool.{true, false}
use mathlib.Core.List.{List, [], ◌∷◌, ◌++◌, map, flat_map, append_assoc, append-nil}
use Prim.Native.Nat.{ℕ, ◌+◌, ◌-◌, ◌*◌, ◌≤◌}
use native.Mathlib.Nat.{add-zero, zero-add, add-sub_cancel_left}
use native.Mathlib.Omega.{arith}
use lib.Dec.{eqb}
use lib.ListN.{length, take, drop, get_or, set, length-append, length-map}
use lib.Seq.{sets}
use borrow.Author.Tests.{eq-eqb, ne_eqb, eqb-false}
use Rattle.caption.specs.declared.Refusal.{Refusal}
use Rattle.caption.specs.Answers.{said_refusal}
use Rattle.model.specs.Said.{Outcome, gave, refused, mapped}
use Rattle.model.specs.Block.{Block, short_at}
use Rattle.model.specs.Packet.{Way, sequence_in}
use Rattle.model.proofs.Cases.{by_cond, mapped_mapped, mapped_by}
use Rattle.std.specs.Prelude.{Option, Some, None}
use Rattle.service_headers.specs.declared.Header.{Header}
use Rattle.service_headers.specs.Head.{header_of}
use Rattle.basics.proofs.Runs.{sets_append}
use Rattle.packet_entries.specs.Fields.{Arrays, zeros, laid_over, payloads_of, block_from}
use Rattle.packet_moves.specs.Moves.{Goes, kept_for, packet_with, blocks_at, through_at}
use Rattle.packet_moves.proofs.Moves.{from_through, refused_at, header, body, body_length, reach, next_is}
use Rattle.packet_blocks.specs.declared.Kept.{Kept}
use Rattle.packet_blocks.specs.declared.Filled.{Filled}
use Rattle.packet_blocks.specs.Reading.{LaidIn, with_blocks, filled_with}

-- what is laid behind other blocks
pub payloads_append : (bs cs : List Block) → payloads_of (bs ++ cs) ≡ payloads_of bs ++ payloads_of cs
unfolding flat_map
payloads_append [] cs = refl
payloads_append (b ∷ bs) cs = ap (λ (l : List ℕ). b.payload ++ l) (payloads_append bs cs) ∙ sym (append_assoc b.payload (payloads_of bs) (payloads_of cs))

pub map_append : {A : Type 0} (f : A → ℕ) (xs ys : List A) → map f (xs ++ ys) ≡ map f xs ++ map f ys
map_append f [] ys = refl
map_append f (x ∷ xs) ys = ap (λ (l : List ℕ). f x ∷ l) (map_append f xs ys)

-- a run of stores of a list made of blocks, in two parts
mapped_sets : (f : Block → ℕ) (bs cs : List Block) (l : List ℕ) (i : ℕ) → sets (sets l i (map f bs)) (i + length bs) (map f cs) ≡ sets l i (map f (bs ++ cs))
mapped_sets f bs cs l i =
    let n : length (map f bs) ≡ length bs = length-map bs f in
    rw (map_append f bs cs, sets_append (map f bs) (map f cs) l i, n)

-- a block laid in its place
pub entry_laid : (number k : ℕ) (run : List ℕ) (at : Kept) (x : Arrays) (p : List ℕ) → k ≡ length run → p ≡ sets x.payload at.used run
    → LaidIn (block_from number run ∷ []) at x (record { numbers = set x.numbers at.count number; sizes = set x.sizes at.count k; payload = p })
unfolding flat_map
entry_laid number k run at x p e q = record { numbers = refl; sizes = rw e; payload = q ∙ rw (append-nil run) }

-- readings whose places are the same
same_places : {q n m : ℕ} {ns ns' ss ss' d d' : List ℕ} → n ≡ m → ns ≡ ns' → ss ≡ ss' → d ≡ d'
    → ◌≡◌ {A = Filled} (record { seq_no = q; count = n; numbers = ns; sizes = ss; payload = d }) (record { seq_no = q; count = m; numbers = ns'; sizes = ss'; payload = d' })
same_places e f g h = rw (e, f, g, h)

module _ (x : Filled) (used : ℕ) where
  -- no block is laid
  none_laid : with_blocks x used [] ≡ x
  unfolding flat_map
  none_laid = same_places (add-zero x.count) refl refl refl

  -- blocks are laid, and then others
  laid_append : (bs cs : List Block) → with_blocks (with_blocks x used bs) (used + length (payloads_of bs)) cs ≡ with_blocks x used (bs ++ cs)
  laid_append bs cs =
      same_places (omega (arith, length-append bs cs)) (mapped_sets _ bs cs x.numbers x.count) (mapped_sets _ bs cs x.sizes x.count)
      (rw (payloads_append bs cs) (sym (sets_append (payloads_of bs) (payloads_of cs) x.payload used)))

  -- which block is kept, by number and payload
  module _ (number : ℕ) (part : List ℕ) where
    abbrev Kept_of : List Block → Type 0
    Kept_of bs = (used + length (payloads_of bs) ≡ used + length (payloads_of (kept_for number part))) × (with_blocks x used bs ≡ with_blocks x used (kept_for number part))

    none_kept : kept_for number part ≡ [] → (used ≡ used + length (payloads_of (kept_for number part))) × (x ≡ with_blocks x used (kept_for number part))
    unfolding flat_map
    none_kept e = rw e (sym (add-zero used), sym none_laid)

    pub keep_null : number ≡ 0 → (used ≡ used + length (payloads_of (kept_for number part))) × (x ≡ with_blocks x used (kept_for number part))
    unfolding kept_for
    keep_null z = none_kept (simp (eq-eqb number 0 z))

    pub keep_empty : (number ≡ 0 → ⊥) → length part ≡ 0 → (used ≡ used + length (payloads_of (kept_for number part))) × (x ≡ with_blocks x used (kept_for number part))
    unfolding kept_for
    keep_empty m z = none_kept (simp (ne_eqb number 0 m, eq-eqb (length part) 0 z))

    pub keep_some : (number ≡ 0 → ⊥) → (length part ≡ 0 → ⊥) → (p : List ℕ) → p ≡ sets x.payload used part
        → (used + length part ≡ used + length (payloads_of (kept_for number part)))
        × (record { seq_no = x.seq_no; count = x.count + 1; numbers = set x.numbers x.count number; sizes = set x.sizes x.count (length part); payload = p } ≡ with_blocks x used (kept_for number part))
    unfolding kept_for flat_map
    keep_some m z p e = simp (ne_eqb number 0 m, ne_eqb (length part) 0 z, append-nil part) (refl, same_places refl refl refl e)

-- the bytes from `here` on, read behind the blocks of a reading
module _ (way : Way) (d : List ℕ) (here : ℕ) (x : Filled) (used : ℕ) where
  -- the reader is through with them
  pub laid_none : through_at way d here ≡ true → gave x ≡ mapped (with_blocks x used) (blocks_at way d here)
  laid_none e = rw (from_through way d here e) (ap gave (sym (none_laid x used)))

  module _ (step : ℕ → ℕ → ℕ → ℕ) (goes : Goes way step) (on : through_at way d here ≡ false) (head : Option Header) (is : head ≡ header_of (drop here d)) where
    -- where there is no header the block is refused
    pub laid_short : (why : Refusal) → head ≡ None → said_refusal why ≡ short_at here (drop here d)
        → refused (said_refusal why) ≡ mapped (with_blocks x used) (blocks_at way d here)
    laid_short why none w = rw (refused_at way d here step goes on head is none) (ap refused w)

    -- one that is there
    module _ (hd : Header) (q : head ≡ Some hd) (part : List ℕ) (k : part ≡ take (here + hd.start + hd.size - (here + hd.start)) (drop (here + hd.start) d)) where
      part_is : part ≡ body way d here step goes on head is hd q
      part_is = k ∙ rw add-sub_cancel_left

      part_length : length part ≡ hd.size
      part_length = ap length part_is ∙ body_length way d here step goes on head is hd q

      -- its payload has room
      pub keep_room : length d ≤ 128 → 2 * x.count + 1 ≤ here → used + x.count + 1 ≤ here
          → (length part ≤ 31) × (2 * x.count + length part ≤ 126) × (used + length part ≤ 127)
      keep_room s b u =
          let h = header way d here step goes on head is hd q in
          let r = reach way d here step goes on head is hd q in
          (omega (arith, h.small, part_length), omega (arith, r, h.some, part_length), omega (arith, r, h.some, part_length))

      -- no more is kept than the reader moves on
      abbrev Within : List Block → Type 0
      Within bs = (2 * length bs ≤ step hd.number hd.start hd.size) × (length (payloads_of bs) + length bs ≤ step hd.number hd.start hd.size)

      kept_within : Within (kept_for hd.number part)
      unfolding kept_for flat_map
      kept_within =
          let none : Within [] = (omega arith, omega arith) in
          by_cond Within (eqb hd.number 0) (λ _. none)
          (λ a. by_cond Within (eqb (length part) 0) (λ _. none)
          (λ b. let h = header way d here step goes on head is hd q in
          let some : 1 ≤ hd.size = omega (arith, part_length, eqb-false (length part) 0 b) in
          let past : 1 + hd.size ≤ step hd.number hd.start hd.size = goes.past hd.number hd.start hd.size h.some (eqb-false hd.number 0 a) (λ z. omega (arith, some, z)) in
          let l : length (part ++ []) ≡ hd.size = ap length (append-nil part) ∙ part_length in
          (omega (arith, past, some), omega (arith, past, l))))

      module _ (m : ℕ) (em : m ≡ step hd.number hd.start hd.size) (y : Filled) (next : ℕ) (ey : y ≡ with_blocks x used (kept_for hd.number part)) (en : next ≡ used + length (payloads_of (kept_for hd.number part))) where
        -- so that the next block has room
        pub room_next : 2 * x.count + 1 ≤ here → used + x.count + 1 ≤ here → (2 * y.count + 1 ≤ here + m) × (next + y.count + 1 ≤ here + m)
        room_next b u =
            let w = kept_within in
            let c : y.count ≡ x.count + length (kept_for hd.number part) = ap (λ (f : Filled). f.count) ey in
            (omega (arith, w.0, c, em, b), omega (arith, w.1, c, en, em, u))

        -- what is laid here and what is laid from there on join
        pub laid_next : {A : Type 0} (o : Outcome A) (z : Filled) → mapped (λ _. z) o ≡ mapped (with_blocks y next) (blocks_at way d (here + m))
            → mapped (λ _. z) o ≡ mapped (with_blocks x used) (blocks_at way d here)
        laid_next o z l =
            let bs : List Block = kept_for hd.number part in
            l ∙ rw (em, ey, en, next_is way d here step goes on head is hd q, ← part_is)
            (mapped_by (λ cs. laid_append x used bs cs) (blocks_at way d (here + step hd.number hd.start hd.size))
            ∙ sym (mapped_mapped (with_blocks x used) (λ cs. bs ++ cs) (blocks_at way d (here + step hd.number hd.start hd.size))))

-- what is laid into zeros is the packet of the blocks
pub laid_packet : (d : List ℕ) (q : ℕ) → q ≡ sequence_in (get_or d 0 0) → (o : Outcome (List Block))
    → mapped (with_blocks (record { seq_no = q; count = 0; numbers = zeros.numbers; sizes = zeros.sizes; payload = zeros.payload }) 0) o ≡ mapped filled_with (mapped (packet_with d) o)
unfolding laid_over
laid_packet d q e (gave bs) = rw e (ap gave (same_places (zero-add (length bs)) refl refl refl))
laid_packet d q e (refused why) = refl
