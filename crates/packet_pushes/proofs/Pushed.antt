-- What a push does to the places of a packet: the packet that the model gives, laid over them. Assumes nothing.
use mathlib.Core.Path.{◌≡◌, refl, sym, ap, ◌∙◌}
use mathlib.Core.List.{List, [], ◌∷◌, ◌++◌, map, flat_map, append-nil, append_assoc}
use Prim.Native.Nat.{ℕ, zero, suc, ◌+◌, ◌-◌, ◌≤◌, ◌<◌}
use native.Mathlib.Nat.{zero-add}
use native.Mathlib.Numerals.{add-one}
use native.Mathlib.Omega.{arith}
use lib.ListN.{length, take, drop, get_or, set, length-append, length-set, take-append-drop, get_or-map}
use lib.Seq.{sets, length-take-le, drop-drop, get_or-take, map-set_same, take-set-lt, drop-set-lt}
use Rattle.model.specs.Block.{Block, with_run}
use Rattle.model.specs.Packet.{no_block, with_blocks, block_at, extended}
use Rattle.model.specs.Services.{numbers_of}
use Rattle.basics.proofs.Runs.{sets_front, sets_append, sets_own, sets_behind}
use Rattle.packet_entries.specs.Fields.{Fields, Arrays, Places, fields, arrays_of, packet_in, laid_over, sizes_of, payloads_of, block_from}
use Rattle.packet_entries.specs.Entries.{Entry, entries_of, cut, used_by}
use Rattle.packet_entries.specs.Extent.{Sized, sum_to}
use Rattle.packet_entries.proofs.Entries.{used_sum, entries_numbers, entries_sizes, cut_numbers, cut_sizes, cut_payloads}
use Rattle.packet_blocks.proofs.Reading.{map_append, payloads_append}
use Rattle.packet_entries.proofs.Holds.{Within, within_facts, used_fits, blocks_cut, blocks_count}
use Rattle.packet_entries.proofs.Walks.{sum_few}
use Rattle.packet_blocks.specs.Reading.{LaidIn}
use Rattle.packet_pushes.specs.Pushing.{Extends}

module _ (p : Fields) (w : Within p) (places : Places p) where
  abbrev used : ℕ
  used = used_by (entries_of p)

  -- what stands in the three arrays
  pub numbers_held : numbers_of (packet_in p).blocks ≡ take p.count p.numbers
  numbers_held =
      ap (λ (bs : List Block). numbers_of bs) (blocks_cut p) ∙ cut_numbers (entries_of p) p.payload
      ∙ entries_numbers p.count p.numbers p.sizes (omega (arith, w.count, places.numbers))

  pub sizes_held : sizes_of (packet_in p).blocks ≡ take p.count p.sizes
  sizes_held =
      ap (λ (bs : List Block). sizes_of bs) (blocks_cut p) ∙ cut_sizes (entries_of p) p.payload (used_fits p w places.payload)
      ∙ entries_sizes p.count p.numbers p.sizes (omega (arith, w.count, places.sizes))

  pub payloads_held : payloads_of (packet_in p).blocks ≡ take used p.payload
  payloads_held = ap (λ (bs : List Block). payloads_of bs) (blocks_cut p) ∙ cut_payloads (entries_of p) p.payload

  -- a block behind the others
  pub appended : (n k : ℕ) (run : List ℕ) → length run ≡ k
      → laid_over p (with_blocks ((packet_in p).blocks ++ (record { number = n; payload = run } ∷ [])) (packet_in p))
      ≡ record { seq_no = p.seq_no; count = p.count + 1; numbers = set p.numbers p.count n; sizes = set p.sizes p.count k; payload = sets p.payload used run }
  unfolding laid_over flat_map
  appended n k run e =
      let b : Block = record { number = n; payload = run } in
      let c : length ((packet_in p).blocks ++ (b ∷ [])) ≡ p.count + 1 = rw (length-append, blocks_count p) in
      let ns : sets p.numbers 0 (numbers_of ((packet_in p).blocks ++ (b ∷ []))) ≡ set p.numbers p.count n =
      rw (map_append (λ (x : Block). x.number) (packet_in p).blocks (b ∷ []), numbers_held) (sets_behind p.numbers (n ∷ []) p.count (omega (arith, w.count, places.numbers))) in
      let ss : sets p.sizes 0 (sizes_of ((packet_in p).blocks ++ (b ∷ []))) ≡ set p.sizes p.count k =
      rw (map_append (λ (x : Block). length x.payload) (packet_in p).blocks (b ∷ []), sizes_held, e) (sets_behind p.sizes (k ∷ []) p.count (omega (arith, w.count, places.sizes))) in
      let ds : sets p.payload 0 (payloads_of ((packet_in p).blocks ++ (b ∷ []))) ≡ sets p.payload used run =
      rw (payloads_append (packet_in p).blocks (b ∷ []), payloads_held, append-nil run) (sets_behind p.payload run used (used_fits p w places.payload)) in
      rw (c, ns, ss, ds)

-- blocks of which one takes a run: its payload grows, and those behind it move up
grown : (run : List ℕ) (bs : List Block) (i : ℕ) → i < length bs
    → payloads_of (set bs i (with_run run (get_or bs i no_block))) ≡ payloads_of (take (suc i) bs) ++ (run ++ payloads_of (drop (suc i) bs))
unfolding flat_map
grown run [] i h = absurd (omega arith)
grown run (b ∷ bs) zero h = simp (append-nil, append_assoc)
grown run (b ∷ bs) (suc i) h = ap (λ (l : List ℕ). b.payload ++ l) (grown run bs i (omega arith)) ∙ sym (append_assoc b.payload (payloads_of (take (suc i) bs)) _)

-- the first j blocks that are cut, and the others
cut_take : (j : ℕ) (es : List Entry) (d : List ℕ) → take j (cut es d) ≡ cut (take j es) d
unfolding cut
cut_take zero es d = refl
cut_take (suc j) [] d = refl
cut_take (suc j) (e ∷ es) d = ap (λ (l : List Block). record { number = e.number; payload = take e.size d } ∷ l) (cut_take j es (drop e.size d))

pub cut_drop : (j : ℕ) (es : List Entry) (d : List ℕ) → drop j (cut es d) ≡ cut (drop j es) (drop (used_by (take j es)) d)
unfolding cut used_by
cut_drop zero es d = refl
cut_drop (suc j) [] d = refl
cut_drop (suc j) (e ∷ es) d = cut_drop j es (drop e.size d) ∙ rw (drop-drop (used_by (take j es)) e.size d)

pub used_parts : (j : ℕ) (es : List Entry) → used_by (take j es) + used_by (drop j es) ≡ used_by es
unfolding used_by
used_parts zero es = zero-add (used_by es)
used_parts (suc j) [] = refl
used_parts (suc j) (e ∷ es) = omega (arith, used_parts j es)

map_set : {A : Type 0} (f : A → ℕ) (l : List A) (i : ℕ) (a : A) → map f (set l i a) ≡ set (map f l) i (f a)
map_set f [] i a = refl
map_set f (x ∷ l) zero a = refl
map_set f (x ∷ l) (suc i) a = ap (λ (r : List ℕ). f x ∷ r) (map_set f l i a)

sets_set : (l : List ℕ) (k i v : ℕ) → i < k → k ≤ length l → sets l 0 (set (take k l) i v) ≡ set l i v
sets_set l k i v h m =
    let n : length (set (take k l) i v) ≡ k = rw length-set (length-take-le k l m) in
    sets_front l (set (take k l) i v) (omega arith)
    ∙ rw (n, ← take-set-lt k l i v h, ← drop-set-lt k l i v h) (take-append-drop k (set l i v))

module _ (p : Fields) (w : Within p) (places : Places p) (i : ℕ) (there : i < p.count) where
  abbrev before : ℕ
  before = used_by (take (suc i) (entries_of p))

  pub size_held : length (block_at (packet_in p) i).payload ≡ get_or p.sizes i 0
  size_held =
      sym (get_or-map (λ (b : Block). length b.payload) (packet_in p).blocks i no_block)
      ∙ ap (λ (l : List ℕ). get_or l i 0) (sizes_held p w places) ∙ get_or-take p.count p.sizes i 0 there

  pub number_held : (block_at (packet_in p) i).number ≡ get_or p.numbers i 0
  number_held =
      sym (get_or-map (λ (b : Block). b.number) (packet_in p).blocks i no_block)
      ∙ ap (λ (l : List ℕ). get_or l i 0) (numbers_held p w places) ∙ get_or-take p.count p.numbers i 0 there

  -- the block at place i takes a run
  pub grown_over : (run : List ℕ)
      → laid_over p (extended i run (packet_in p))
      ≡ record {
        seq_no = p.seq_no;
        count = p.count;
        numbers = p.numbers;
        sizes = set p.sizes i (get_or p.sizes i 0 + length run);
        payload = sets (sets p.payload before run) (before + length run) (take (used_by (entries_of p) - before) (drop before p.payload));
      }
  unfolding laid_over
  grown_over run =
      let bs : List Block = (packet_in p).blocks in
      let b : Block = with_run run (get_or bs i no_block) in
      let u : before + used_by (drop (suc i) (entries_of p)) ≡ used_by (entries_of p) = used_parts (suc i) (entries_of p) in
      let c : length (set bs i b) ≡ p.count = rw (length-set) (blocks_count p) in
      let ns : sets p.numbers 0 (numbers_of (set bs i b)) ≡ p.numbers =
      rw (map-set_same (λ (x : Block). x.number) bs i b no_block refl, numbers_held p w places) (sets_own p.numbers p.count (omega (arith, w.count, places.numbers))) in
      let v : length ((get_or bs i no_block).payload ++ run) ≡ get_or p.sizes i 0 + length run = length-append (get_or bs i no_block).payload run ∙ ap (λ n. n + length run) size_held in
      let ss : sets p.sizes 0 (sizes_of (set bs i b)) ≡ set p.sizes i (get_or p.sizes i 0 + length run) =
      rw (map_set (λ (x : Block). length x.payload) bs i b, sizes_held p w places, v) (sets_set p.sizes p.count i _ there (omega (arith, w.count, places.sizes))) in
      let q : used_by (drop (suc i) (entries_of p)) ≡ used_by (entries_of p) - before = omega arith in
      let ds : payloads_of (set bs i b) ≡ take before p.payload ++ (run ++ take (used_by (entries_of p) - before) (drop before p.payload)) =
      grown run bs i (omega (arith, blocks_count p))
      ∙ rw (blocks_cut p, cut_take (suc i) (entries_of p) p.payload, cut_drop (suc i) (entries_of p) p.payload)
      (rw (cut_payloads (take (suc i) (entries_of p)) p.payload, cut_payloads (drop (suc i) (entries_of p)) (drop before p.payload), q)) in
      let fs : sets p.payload 0 (payloads_of (set bs i b)) ≡ sets (sets p.payload before run) (before + length run) (take (used_by (entries_of p) - before) (drop before p.payload)) =
      rw ds (sets_behind p.payload _ before (omega (arith, used_fits p w places.payload)) ∙ sets_append run _ p.payload before) in
      rw (c, ns, ss, fs)

-- what the two pushes leave, as the code makes it
module _ (p : Fields) (n u : ℕ) (s : Sized p n u) where
  w : Within p
  w = within_facts p s.valid

  pub append_as : Places p → (number : ℕ) (run : List ℕ) (x : Arrays) → LaidIn (block_from number run ∷ []) (record { count = p.count; used = u }) (arrays_of p) x
      → laid_over p (with_blocks ((packet_in p).blocks ++ (block_from number run ∷ [])) (packet_in p))
      ≡ fields p.seq_no (p.count + 1) x.numbers x.sizes x.payload
  unfolding flat_map
  append_as places number run x l =
      appended p w places number (length run) run refl
      ∙ rw (l.numbers, l.sizes, l.payload, append-nil run, s.used_is)

  module _ (i : ℕ) (there : i < p.count) where
    before_is : sum_to (i + 1) p.sizes ≡ used_by (take (suc i) (entries_of p))
    before_is = sum_few p.sizes (i + 1) (omega (arith, w.count)) ∙ rw (add-one i) (sym (used_sum (suc i) p.count p.numbers p.sizes (omega arith)))

    pub before_within : sum_to (i + 1) p.sizes ≤ u
    before_within = omega (arith, before_is, s.used_is, used_parts (suc i) (entries_of p))

    pub extend_as : Places p → (run s₁ d₁ : List ℕ) → Extends u i run p.sizes p.payload s₁ d₁
        → laid_over p (extended i run (packet_in p)) ≡ fields p.seq_no p.count p.numbers s₁ d₁
    extend_as places run s₁ d₁ a = grown_over p w places i there run ∙ rw (a.size, a.bytes, s.used_is, before_is)
