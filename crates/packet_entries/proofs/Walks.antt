-- The loops over the places: what is found from place i on, and one place further. Assumes nothing.
use mathlib.Core.Path.{◌≡◌, refl, sym, ap, ap₂, ◌∙◌}
use mathlib.Core.Bool.{Bool, true, false, cond}
use mathlib.Core.List.{List, [], ◌∷◌}
use Prim.Native.Nat.{ℕ, zero, suc, ◌+◌, ◌-◌, ◌*◌, ◌≤◌, ◌<◌}
use native.Mathlib.Nat.{add-zero, zero-add, add_assoc, sub-zero}
use native.Mathlib.Omega.{arith}
use lib.ListN.{length, take, drop, get_or}
use lib.Seq.{length-take-le}
use Rattle.std.proofs.lemmas.List.{get_or-take}
use borrow.Author.Tests.{eq-eqb, ne_eqb, eqb-true, eqb-false, lt-leb, le-leb, lt-ltb, le-ltb}
use lib.Dec.{eqb}
use Rattle.std.specs.Prelude.{◌≢◌, Option, Some, None}
use Rattle.model.proofs.Cases.{by_test}
use Rattle.service_headers.specs.Head.{length_for}
use Rattle.packet_entries.specs.declared.Extent.{Extent}
use Rattle.packet_entries.specs.Fields.{Fields, sum_of}
use Rattle.packet_entries.specs.Entries.{Entry, entries, entries_of, good_entry, good_entries, entry_lengths, used_by, valid_as, valid_entries}
use Rattle.packet_entries.specs.Extent.{extent, length_with, walked, extent_as, Sized, latest_in, latest_of, sum_to}
use Rattle.packet_entries.proofs.Entries.{entries_at, good_facts, length_most}

-- what was found so far, and what is found of the rest
abbrev pub more : ℕ → ℕ → Option Extent → Option Extent
more l u (Some e) = Some (extent (l + e.length) (u + e.used))
more l u None = None

more_none : (e : Option Extent) → e ≡ more 0 0 e
more_none (Some e) = rw (zero-add, zero-add)
more_none None = refl

more_more : (l u a b : ℕ) (e : Option Extent) → more l u (more a b e) ≡ more (l + a) (u + b) e
more_more l u a b (Some e) = ap₂ (λ (x y : ℕ). Some (extent x y)) (sym (add_assoc l a e.length)) (sym (add_assoc u b e.used))
more_more l u a b None = refl

-- entries that were gone over up to place i: at most 33 bytes a block
pub record Going (count : ℕ) (ns ss : List ℕ) (lengths used i : ℕ) : Type 0 where
  pub within : i ≤ count
  pub short : count ≤ 63
  pub lengths_few : lengths ≤ 33 * i
  pub used_few : used ≤ 31 * i
  pub found : walked (entries count ns ss) ≡ more lengths used (walked (entries (count - i) (drop i ns) (drop i ss)))

walked_good : (e : Entry) (es : List Entry) → good_entry e.number e.size ≡ true → walked (e ∷ es) ≡ more (length_for e.number e.size) e.size (walked es)
unfolding walked good_entries entry_lengths used_by
walked_good e es g = rw g (by_test (good_entries es) (λ q. rw q) (λ q. rw q))

walked_bad : (e : Entry) (es : List Entry) → good_entry e.number e.size ≡ false → walked (e ∷ es) ≡ None
unfolding walked good_entries
walked_bad e es g = rw g

module _ (count : ℕ) (ns ss : List ℕ) where
  pub going_first : count ≤ 63 → Going count ns ss 0 0 0
  going_first h = record { within = omega arith; short = h; lengths_few = omega arith; used_few = omega arith; found = more_none (walked (entries count ns ss)) ∙ rw (sub-zero count) }

  module _ (lengths used i : ℕ) (g : Going count ns ss lengths used i) where
    pub going_bad : (good : Bool) → i < count → good ≡ good_entry (get_or ns i 0) (get_or ss i 0) → good ≡ false → None ≡ walked (entries count ns ss)
    going_bad good h e q = sym (g.found ∙ ap (more lengths used) (ap walked (entries_at count i ns ss h) ∙ walked_bad _ _ (sym e ∙ q)))

    pub going_next : (good : Bool) (l u : ℕ) → i < count → good ≡ good_entry (get_or ns i 0) (get_or ss i 0) → good ≡ true → l ≡ length_for (get_or ns i 0) (get_or ss i 0) → u ≡ get_or ss i 0
        → Going count ns ss (lengths + l) (used + u) (i + 1)
    going_next good l u h e q m z =
        let k = good_facts (get_or ns i 0) (get_or ss i 0) (sym e ∙ q) in
        rw z
        (record {
          within = omega arith;
          short = g.short;
          lengths_few = omega (arith, g.lengths_few, length_most (get_or ns i 0) (get_or ss i 0), k.small);
          used_few = omega (arith, g.used_few, k.small);
          found = g.found ∙ ap (more lengths used) (ap walked (entries_at count i ns ss h) ∙ walked_good _ _ (sym e ∙ q))
              ∙ rw m (more_more lengths used _ (get_or ss i 0) (walked (entries (count - (i + 1)) (drop (i + 1) ns) (drop (i + 1) ss))));
        })

    pub going_last : count ≤ i → Some (extent lengths used) ≡ walked (entries count ns ss)
    unfolding entries walked good_entries entry_lengths used_by
    going_last h = let z : count - i ≡ 0 = omega (arith, g.within) in sym (g.found ∙ rw z (ap₂ (λ (x y : ℕ). Some (extent x y)) (add-zero lengths) (add-zero used)))

    -- one block more still fits
    pub going_room : (good : Bool) (l : ℕ) → i < count → good ≡ good_entry (get_or ns i 0) (get_or ss i 0) → good ≡ true → l ≡ length_for (get_or ns i 0) (get_or ss i 0) → lengths + l ≤ 2112
    going_room good l h e q m = omega (arith, g.lengths_few, g.short, length_most (get_or ns i 0) (get_or ss i 0), (good_facts (get_or ns i 0) (get_or ss i 0) (sym e ∙ q)).small)

-- the latest place of a number
module _ (ns : List ℕ) (n : ℕ) where
  -- no more blocks than places
  pub latest_few : (k : ℕ) → k ≤ 63 → latest_of k ns n ≡ latest_in k ns n
  unfolding latest_of
  latest_few k h = simp (le-ltb 63 k h)

  pub latest_many : (k : ℕ) → 63 < k → None ≡ latest_of k ns n
  unfolding latest_of
  latest_many k h = simp (lt-ltb 63 k h)

  -- where no later place has it
  latest_at : (k i : ℕ) → i < k → get_or ns i 0 ≡ n → ((j : ℕ) → i + 1 ≤ j → j < k → get_or ns j 0 ≡ n → ⊥) → latest_in k ns n ≡ Some i
  unfolding latest_in
  latest_at zero i h e none = absurd (omega arith)
  latest_at (suc k) i h e none =
      by_test (eqb i k)
      (λ t. let same : i ≡ k = eqb-true i k t in rw (← same) (simp (eq-eqb _ _ e)))
      (λ t. let other : i ≡ k → ⊥ = eqb-false i k t in
      let below : i < k = omega (arith, other) in
      simp (ne_eqb _ _ (none k (omega arith) (omega arith))) (latest_at k i below e (λ j l m. none j l (omega arith))))

  -- where none has it
  latest_none : (k : ℕ) → ((j : ℕ) → j < k → get_or ns j 0 ≡ n → ⊥) → latest_in k ns n ≡ None
  unfolding latest_in
  latest_none zero none = refl
  latest_none (suc k) none = simp (ne_eqb _ _ (none k (omega arith))) (latest_none k (λ j m. none j (omega arith)))

  -- and what is found in the first k of them
  module _ (k : ℕ) (few : k ≤ 63) (places : length ns ≡ 63) where
    within : length (take k ns) ≡ k
    within = length-take-le k ns (omega arith)

    latest_found : (i : ℕ) → i < length (take k ns) → get_or (take k ns) i 0 ≡ n
        → ((j : ℕ) → i + 1 ≤ j → j < length (take k ns) → get_or (take k ns) j 0 ≢ n) → Some i ≡ latest_of k ns n
    latest_found i h e none =
        sym (latest_few k few ∙ latest_at k i (omega (arith, within)) (sym (get_or-take k ns i 0 (omega (arith, within))) ∙ e)
        (λ j l m q. none j l (omega (arith, within)) (get_or-take k ns j 0 m ∙ q)))

    latest_missing : ((j : ℕ) → j < length (take k ns) → get_or (take k ns) j 0 ≢ n) → None ≡ latest_of k ns n
    latest_missing none = sym (latest_few k few ∙ latest_none k (λ j m q. none j (omega (arith, within)) (get_or-take k ns j 0 m ∙ q)))

    pub latest_is : (r : Option ℕ) → ((i : ℕ) → r ≡ Some i → (i < length (take k ns)) × (get_or (take k ns) i 0 ≡ n)
        × ((j : ℕ) → i + 1 ≤ j → j < length (take k ns) → get_or (take k ns) j 0 ≢ n))
        → (r ≡ None → (j : ℕ) → j < length (take k ns) → get_or (take k ns) j 0 ≢ n) → r ≡ latest_of k ns n
    latest_is (Some i) f g = let h = f i refl in latest_found i h.0 h.1 h.2
    latest_is None f g = latest_missing (g refl)

-- a sum, one place further
pub sum_next : (l : List ℕ) (i : ℕ) → i < length l → sum_of (take (suc i) l) ≡ sum_of (take i l) + get_or l i 0
sum_next [] i h = absurd (omega arith)
sum_next (x ∷ l) zero h = omega arith
sum_next (x ∷ l) (suc i) h = omega (arith, sum_next l i (omega arith))

-- no more sizes than places
pub sum_few : (l : List ℕ) (k : ℕ) → k ≤ 63 → sum_to k l ≡ sum_of (take k l)
unfolding sum_to
sum_few l k h = simp (le-ltb 63 k h)

pub sum_many : (l : List ℕ) (k : ℕ) → 63 < k → 0 ≡ sum_to k l
unfolding sum_to
sum_many l k h = simp (lt-ltb 63 k h)

-- what an extent says that is given only under a test
pub extent_given : (b : Bool) (e : Option Extent) (x : Extent) → cond b e None ≡ Some x → (b ≡ true) × (e ≡ Some x)
extent_given true e x q = (refl, q)
extent_given false e x q = let z : ◌≡◌ {A = ℕ} 0 1 = cc in absurd (omega arith)

extent_parts : (b : Bool) (l u : ℕ) (x : Extent) → cond b (Some (extent l u)) None ≡ Some x → (b ≡ true) × (l ≡ x.length) × (u ≡ x.used)
extent_parts b l u x e =
    let g = extent_given b (Some (extent l u)) x e in
    let q : extent l u ≡ x = cc in
    (g.0, ap (λ (y : Extent). y.length) q, ap (λ (y : Extent). y.used) q)

bad_parts : (b : Bool) (x : Extent) → cond b (Some x) None ≡ None → b ≡ false
bad_parts false x e = refl
bad_parts true x e = let z : ◌≡◌ {A = ℕ} 0 1 = cc in absurd (omega arith)

walked_of : (es : List Entry) (x : Extent) → walked es ≡ Some x → (good_entries es ≡ true) × (entry_lengths es ≡ x.length) × (used_by es ≡ x.used)
unfolding walked
walked_of es x e = extent_parts (good_entries es) _ _ x e

walked_not : (es : List Entry) → walked es ≡ None → good_entries es ≡ false
unfolding walked
walked_not es e = bad_parts (good_entries es) _ e

-- the extent, by each way out
module _ (q k : ℕ) (es : List Entry) where
  pub extent_sequence : 3 < q → None ≡ extent_as q k es
  unfolding extent_as valid_as
  extent_sequence h = simp (lt-leb q 3 h)

  pub extent_count : q ≤ 3 → 63 < k → None ≡ extent_as q k es
  unfolding extent_as valid_as
  extent_count a h = simp (le-leb q 3 a, lt-leb k 63 h)

  module _ (a : q ≤ 3) (b : k ≤ 63) (e : Option Extent) (is : e ≡ walked es) where
    pub extent_bad : e ≡ None → None ≡ extent_as q k es
    unfolding extent_as valid_as
    extent_bad z = simp (le-leb _ _ a, le-leb _ _ b, walked_not es (sym is ∙ z))

    module _ (x : Extent) (z : e ≡ Some x) where
      sums : (good_entries es ≡ true) × (entry_lengths es ≡ x.length) × (used_by es ≡ x.used)
      sums = walked_of es x (sym is ∙ z)

      pub extent_long : 127 < x.length → None ≡ extent_as q k es
      unfolding extent_as valid_as
      extent_long h = simp (le-leb _ _ a, le-leb _ _ b, sums.0, sums.1, lt-leb x.length 127 h)

      pub extent_good : x.length ≤ 127 → (n : ℕ) → n ≡ length_with k x.length → Some (extent n x.used) ≡ extent_as q k es
      unfolding extent_as valid_as
      extent_good h n m = simp (le-leb _ _ a, le-leb _ _ b, sums.0, sums.1, sums.2, le-leb x.length 127 h) (rw m)

-- and what it says
module _ (p : Fields) (e : Option Extent) (is : e ≡ extent_as p.seq_no p.count (entries_of p)) where
  pub extent_sized : (x : Extent) → e ≡ Some x → Sized p x.length x.used
  unfolding extent_as
  extent_sized x z = let w = extent_parts (valid_entries p) _ _ x (sym is ∙ z) in record { valid = w.0; length_is = sym w.1; used_is = sym w.2 }

  pub extent_invalid : e ≡ None → valid_entries p ≡ false
  unfolding extent_as
  extent_invalid z = bad_parts (valid_entries p) _ (sym is ∙ z)
