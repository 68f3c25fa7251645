-- The entries of a packet's arrays, and the blocks that are cut by them. Assumes nothing.
use mathlib.Core.Path.{◌≡◌, refl, sym, ap, ap₂, ◌∙◌}
use mathlib.Core.Bool.{true, cond, ◌&&◌}
use mathlib.Core.List.{List, [], ◌∷◌, ◌++◌, map, flat_map, append_assoc}
use Prim.Native.Nat.{ℕ, zero, suc, ◌+◌, ◌-◌, ◌*◌, ◌≤◌, ◌<◌}
use native.Mathlib.Nat.{add-zero, zero-add}
use native.Mathlib.Omega.{arith}
use lib.Dec.{eqb, leb, ltb}
use lib.ListN.{length, take, drop, get_or, length-append, length-drop}
use lib.Seq.{drop-drop, get_or-drop, length-take-le, take_all, take-nil, take-add, take_at, drop_at}
use borrow.Author.Tests.{ne_eqb, le-leb, leb-true}
use Rattle.model.specs.Lists.{every}
use Rattle.model.specs.Block.{Block, block_length}
use Rattle.model.specs.Packet.{carriable, blocks_length}
use Rattle.model.specs.Services.{numbers_of}
use Rattle.model.proofs.Cases.{by_test, both, and_both}
use Rattle.model.proofs.Blocks.{Carriable, facts_carriable, carriable_facts, written_block_length, written_length}
use Rattle.service_headers.specs.Head.{length_for}
use Rattle.service_headers.proofs.Heads.{length_by}
use Rattle.packet_entries.specs.Fields.{blocks_held, sum_of, sizes_of, payloads_of}
use Rattle.packet_entries.specs.Entries.{Entry, entries, cut, good_entry, good_entries, entry_lengths, used_by}

-- as many entries as were asked for
pub entries_length : (k : ℕ) (ns ss : List ℕ) → length (entries k ns ss) ≡ k
unfolding entries
entries_length zero ns ss = refl
entries_length (suc k) ns ss = ap suc (entries_length k (drop 1 ns) (drop 1 ss))

-- no blocks have no lengths
pub no_lengths : (k : ℕ) (ns ss : List ℕ) → k ≡ 0 → entry_lengths (entries k ns ss) ≡ 0
unfolding entry_lengths entries
no_lengths zero ns ss e = refl
no_lengths (suc k) ns ss e = absurd (omega arith)

-- the entries from place i on: the one there, and those behind it
pub entries_at : (k i : ℕ) (ns ss : List ℕ) → i < k
    → entries (k - i) (drop i ns) (drop i ss) ≡ record { number = get_or ns i 0; size = get_or ss i 0 } ∷ entries (k - (i + 1)) (drop (i + 1) ns) (drop (i + 1) ss)
unfolding entries
entries_at k i ns ss h =
    let e : k - i ≡ suc (k - (i + 1)) = omega arith in
    rw (e, get_or-drop i ns 0 0, get_or-drop i ss 0 0, drop-drop 1 i ns, drop-drop 1 i ss, add-zero)

-- and the blocks from there on likewise
pub held_at : (k i : ℕ) (ns ss d : List ℕ) → i < k
    → blocks_held (k - i) (drop i ns) (drop i ss) d
    ≡ record { number = get_or ns i 0; payload = take (get_or ss i 0) d } ∷ blocks_held (k - (i + 1)) (drop (i + 1) ns) (drop (i + 1) ss) (drop (get_or ss i 0) d)
unfolding blocks_held
held_at k i ns ss d h =
    let e : k - i ≡ suc (k - (i + 1)) = omega arith in
    rw (e, get_or-drop i ns 0 0, get_or-drop i ss 0 0, drop-drop 1 i ns, drop-drop 1 i ss, add-zero)

-- the numbers of the blocks are the first numbers
pub held_numbers : (k : ℕ) (ns ss d : List ℕ) → k ≤ length ns → numbers_of (blocks_held k ns ss d) ≡ take k ns
unfolding blocks_held
held_numbers zero ns ss d h = refl
held_numbers (suc k) [] ss d h = absurd (omega arith)
held_numbers (suc k) (n ∷ ns) ss d h = ap (λ (l : List ℕ). n ∷ l) (held_numbers k ns (drop 1 ss) (drop (get_or ss 0 0) d) (omega arith))

-- an entry within the limits, as facts
pub record Good (n k : ℕ) : Type 0 where
  pub named : 1 ≤ n
  pub known : n ≤ 63
  pub filled : 1 ≤ k
  pub small : k ≤ 31

pub good_facts : (n k : ℕ) → good_entry n k ≡ true → Good n k
unfolding good_entry
good_facts n k e =
    let v = both (leb 1 n && leb n 63) (leb 1 k && leb k 31) e in
    let w = both (leb 1 n) (leb n 63) v.0 in
    let x = both (leb 1 k) (leb k 31) v.1 in
    record { named = leb-true 1 n w.0; known = leb-true n 63 w.1; filled = leb-true 1 k x.0; small = leb-true k 31 x.1 }

pub facts_good : (n k : ℕ) → Good n k → good_entry n k ≡ true
unfolding good_entry
facts_good n k g = simp (le-leb _ _ g.named, le-leb _ _ g.known, le-leb _ _ g.filled, le-leb _ _ g.small)

-- each of entries within the limits is
pub good_at : (k i : ℕ) (ns ss : List ℕ) → good_entries (entries k ns ss) ≡ true → i < k → Good (get_or ns i 0) (get_or ss i 0)
unfolding good_entries entries
good_at zero i ns ss ok h = absurd (omega arith)
good_at (suc k) zero ns ss ok h = good_facts (get_or ns 0 0) (get_or ss 0 0) (both (good_entry (get_or ns 0 0) (get_or ss 0 0)) (good_entries (entries k (drop 1 ns) (drop 1 ss))) ok).0
good_at (suc k) (suc i) ns ss ok h =
    let e : 1 + i ≡ suc i = omega arith in
    rw (get_or-drop 1 ns i 0, get_or-drop 1 ss i 0, e) at
    (good_at k i (drop 1 ns) (drop 1 ss) (both (good_entry (get_or ns 0 0) (get_or ss 0 0)) (good_entries (entries k (drop 1 ns) (drop 1 ss))) ok).1 (omega arith))

-- the length of a block with a payload
pub length_for_some : (n k : ℕ) → 1 ≤ k → length_for n k ≡ cond (ltb n 7) 1 2 + k
length_for_some n k h = length_by n k ∙ simp (ne_eqb k 0 (λ e. omega arith))

pub length_least : (n k : ℕ) → 1 ≤ k → 1 + k ≤ length_for n k
length_least n k h = rw (length_for_some n k h) (by_test (ltb n 7) (λ e. rw e (omega arith)) (λ e. rw e (omega arith)))

pub length_most : (n k : ℕ) → length_for n k ≤ 2 + k
length_most n k = rw (length_by n k) (by_test (eqb k 0) (λ e. rw e (omega arith)) (λ e. rw e (by_test (ltb n 7) (λ q. rw q (omega arith)) (λ q. rw q (omega arith)))))

-- every block has a header besides its payload
pub used_least : (es : List Entry) → good_entries es ≡ true → used_by es + length es ≤ entry_lengths es
unfolding good_entries used_by entry_lengths
used_least [] ok = omega arith
used_least (e ∷ es) ok =
    let g = both (good_entry e.number e.size) (good_entries es) ok in
    omega (arith, used_least es g.1, length_least e.number e.size (good_facts _ _ g.0).filled)

pub entries_two : (es : List Entry) → good_entries es ≡ true → 2 * length es ≤ entry_lengths es
unfolding good_entries entry_lengths
entries_two [] ok = omega arith
entries_two (e ∷ es) ok =
    let g = both (good_entry e.number e.size) (good_entries es) ok in
    let k = good_facts e.number e.size g.0 in
    omega (arith, entries_two es g.1, length_least e.number e.size k.filled, k.filled)

-- the blocks that arrays hold are those cut by their entries
pub held_cut : (k : ℕ) (ns ss d : List ℕ) → blocks_held k ns ss d ≡ cut (entries k ns ss) d
unfolding blocks_held cut entries
held_cut zero ns ss d = refl
held_cut (suc k) ns ss d = ap (λ (bs : List Block). record { number = get_or ns 0 0; payload = take (get_or ss 0 0) d } ∷ bs) (held_cut k (drop 1 ns) (drop 1 ss) (drop (get_or ss 0 0) d))

-- the payloads before a place, by the sizes alone
pub used_sum : (j k : ℕ) (ns ss : List ℕ) → j ≤ k → used_by (take j (entries k ns ss)) ≡ sum_of (take j ss)
unfolding used_by entries
used_sum zero k ns ss h = refl
used_sum (suc j) zero ns ss h = absurd (omega arith)
used_sum (suc j) (suc k) ns [] h = zero-add _ ∙ used_sum j k (drop 1 ns) [] (omega arith) ∙ rw (take-nil {A = ℕ} j)
used_sum (suc j) (suc k) ns (s ∷ ss) h = ap (λ n. s + n) (used_sum j k (drop 1 ns) ss (omega arith))

pub used_all : (k : ℕ) (ns ss : List ℕ) → used_by (entries k ns ss) ≡ sum_of (take k ss)
used_all k ns ss = ap used_by (sym (take_all k (entries k ns ss) (omega (arith, entries_length k ns ss)))) ∙ used_sum k k ns ss (omega arith)

-- the blocks that are cut
pub cut_length : (es : List Entry) (d : List ℕ) → length (cut es d) ≡ length es
unfolding cut
cut_length [] d = refl
cut_length (e ∷ es) d = ap suc (cut_length es (drop e.size d))

pub cut_numbers : (es : List Entry) (d : List ℕ) → numbers_of (cut es d) ≡ map (λ (e : Entry). e.number) es
unfolding cut
cut_numbers [] d = refl
cut_numbers (e ∷ es) d = ap (λ (l : List ℕ). e.number ∷ l) (cut_numbers es (drop e.size d))

pub cut_sizes : (es : List Entry) (d : List ℕ) → used_by es ≤ length d → sizes_of (cut es d) ≡ map (λ (e : Entry). e.size) es
unfolding cut used_by
cut_sizes [] d h = refl
cut_sizes (e ∷ es) d h = ap₂ (λ (x : ℕ) (l : List ℕ). x ∷ l) (length-take-le e.size d (omega arith)) (cut_sizes es (drop e.size d) (rw length-drop (omega arith)))

pub cut_payloads : (es : List Entry) (d : List ℕ) → payloads_of (cut es d) ≡ take (used_by es) d
unfolding cut used_by flat_map
cut_payloads [] d = refl
cut_payloads (e ∷ es) d = ap (λ (l : List ℕ). take e.size d ++ l) (cut_payloads es (drop e.size d)) ∙ sym (take-add e.size (used_by es) d)

-- they are within the limits where the entries are
cut_block : (e : Entry) (d : List ℕ) → Good e.number e.size → e.size ≤ length d → Carriable (record { number = e.number; payload = take e.size d })
cut_block e d g h =
    let n : length (take e.size d) ≡ e.size = length-take-le e.size d h in
    record { named = g.named; known = g.known; filled = omega (arith, g.filled); small = omega (arith, g.small) }

pub cut_carriable : (es : List Entry) (d : List ℕ) → good_entries es ≡ true → used_by es ≤ length d → every carriable (cut es d) ≡ true
unfolding cut used_by good_entries every
cut_carriable [] d ok h = refl
cut_carriable (e ∷ es) d ok h =
    let g = both (good_entry e.number e.size) (good_entries es) ok in
    and_both _ _ (facts_carriable _ (cut_block e d (good_facts _ _ g.0) (omega arith))) (cut_carriable es (drop e.size d) g.1 (rw length-drop (omega arith)))

pub cut_good : (es : List Entry) (d : List ℕ) → used_by es ≤ length d → every carriable (cut es d) ≡ true → good_entries es ≡ true
unfolding cut used_by good_entries every
cut_good [] d h ok = refl
cut_good (e ∷ es) d h ok =
    let b : Block = record { number = e.number; payload = take e.size d } in
    let f = both (carriable b) (every carriable (cut es (drop e.size d))) ok in
    let c = carriable_facts b f.0 in
    let n : length (take e.size d) ≡ e.size = length-take-le e.size d (omega arith) in
    and_both _ _ (facts_good _ _ (record { named = c.named; known = c.known; filled = omega (arith, c.filled); small = omega (arith, c.small) }))
    (cut_good es (drop e.size d) (rw length-drop (omega arith)) f.1)

pub block_lengths : (n k : ℕ) (p : List ℕ) → 1 ≤ k → length p ≡ k → block_length (record { number = n; payload = p }) ≡ length_for n k
block_lengths n k p h e = written_block_length (record { number = n; payload = p }) (omega arith) ∙ written_length (record { number = n; payload = p }) ∙ rw e (sym (length_for_some n k h))

pub cut_lengths : (es : List Entry) (d : List ℕ) → good_entries es ≡ true → used_by es ≤ length d → blocks_length (cut es d) ≡ entry_lengths es
unfolding cut used_by good_entries blocks_length entry_lengths
cut_lengths [] d ok h = refl
cut_lengths (e ∷ es) d ok h =
    let g = both (good_entry e.number e.size) (good_entries es) ok in
    ap₂ (λ (x y : ℕ). x + y) (block_lengths e.number e.size (take e.size d) (good_facts _ _ g.0).filled (length-take-le e.size d (omega arith)))
    (cut_lengths es (drop e.size d) g.1 (rw length-drop (omega arith)))

-- the entries of arrays, as lists
pub entries_numbers : (k : ℕ) (ns ss : List ℕ) → k ≤ length ns → map (λ (e : Entry). e.number) (entries k ns ss) ≡ take k ns
unfolding entries
entries_numbers zero ns ss h = refl
entries_numbers (suc k) [] ss h = absurd (omega arith)
entries_numbers (suc k) (n ∷ ns) ss h = ap (λ (l : List ℕ). n ∷ l) (entries_numbers k ns (drop 1 ss) (omega arith))

pub entries_sizes : (k : ℕ) (ns ss : List ℕ) → k ≤ length ss → map (λ (e : Entry). e.size) (entries k ns ss) ≡ take k ss
unfolding entries
entries_sizes zero ns ss h = refl
entries_sizes (suc k) ns [] h = absurd (omega arith)
entries_sizes (suc k) ns (s ∷ ss) h = ap (λ (l : List ℕ). s ∷ l) (entries_sizes k (drop 1 ns) ss (omega arith))

-- blocks in their places: the entries are theirs, and they are cut again
abbrev pub entry_of : Block → Entry
entry_of b = record { number = b.number; size = length b.payload }

pub entries_laid : (bs : List Block) (x y : List ℕ) → entries (length bs) (numbers_of bs ++ x) (sizes_of bs ++ y) ≡ map entry_of bs
unfolding entries
entries_laid [] x y = refl
entries_laid (b ∷ bs) x y = ap (λ (l : List Entry). entry_of b ∷ l) (entries_laid bs x y)

pub cut_laid : (bs : List Block) (z : List ℕ) → cut (map entry_of bs) (payloads_of bs ++ z) ≡ bs
unfolding cut flat_map
cut_laid [] z = refl
cut_laid (b ∷ bs) z =
    let n : take (length b.payload) ((b.payload ++ payloads_of bs) ++ z) ≡ b.payload = rw append_assoc (take_at b.payload (payloads_of bs ++ z) (length b.payload) refl) in
    let m : drop (length b.payload) ((b.payload ++ payloads_of bs) ++ z) ≡ payloads_of bs ++ z = rw append_assoc (drop_at b.payload (payloads_of bs ++ z) (length b.payload) refl) in
    rw (n, m) (ap (λ (l : List Block). b ∷ l) (cut_laid bs z))

-- and they are within the limits where the blocks are
pub laid_good : (bs : List Block) → every carriable bs ≡ true → good_entries (map entry_of bs) ≡ true
unfolding good_entries every
laid_good [] ok = refl
laid_good (b ∷ bs) ok =
    let f = both (carriable b) (every carriable bs) ok in
    let c = carriable_facts b f.0 in
    and_both _ _ (facts_good _ _ (record { named = c.named; known = c.known; filled = c.filled; small = c.small })) (laid_good bs f.1)

pub laid_lengths : (bs : List Block) → every carriable bs ≡ true → entry_lengths (map entry_of bs) ≡ blocks_length bs
unfolding entry_lengths every blocks_length
laid_lengths [] ok = refl
laid_lengths (b ∷ bs) ok =
    let f = both (carriable b) (every carriable bs) ok in
    ap₂ (λ (x y : ℕ). x + y) (sym (block_lengths b.number (length b.payload) b.payload (carriable_facts b f.0).filled refl)) (laid_lengths bs f.1)

pub payloads_length : (bs : List Block) → length (payloads_of bs) ≡ used_by (map entry_of bs)
unfolding used_by flat_map
payloads_length [] = refl
payloads_length (b ∷ bs) = length-append b.payload (payloads_of bs) ∙ ap (λ n. length b.payload + n) (payloads_length bs)
