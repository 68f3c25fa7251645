-- A walk over a buffer: what is told so far, and behind it what is left to tell, is the whole at each turn. Assumes nothing.
use Rattle.std.proofs.Common.{◌≡◌, ℕ, ◌+◌, ◌-◌, ◌%◌, ◌^◌, ◌<◌, ◌≤◌, Bool, true, false, leb, List, [], ◌++◌, length, take, drop, sym, refl, ap, ◌∙◌, inl, inr, append_assoc, append-nil, arith, length-drop, drop_of_length-le, length-take, length-take-le, take_all, drop-drop, take-add, drop_at, leb-false, leb-true}
use mathlib.Core.Bool.{false≢true}
use Rattle.model.proofs.Cases.{by_test}
use Rattle.program_records.proofs.Cuts.{whole}
use Rattle.program_records.specs.Moved.{between}
use Rattle.program_text.specs.Laid.{Laid}
use Rattle.program_records.specs.Reading.{record_length, found_in}
use Rattle.program_records.specs.declared.Found.{Found}
use Rattle.program_records.specs.declared.Found.TheVariants as found
use Rattle.program_streams.specs.Ends.{left_at, last_line}
use Rattle.program_streams.specs.Ahead.{ahead_of, reached, with_laid}
use Rattle.program_streams.specs.Walk.{Told, Walked, kind, body, before, told_from, left_to_tell}
use Rattle.program_streams.specs.declared.Ahead.{Ahead}
use Rattle.program_streams.specs.declared.Place.{Place}
use Rattle.program_streams.proofs.Walks.{told_stops, told_on}
use Rattle.program_streams.proofs.Aheads.{Passed, is_passed, AtRest, at_rest}
use Rattle.program_streams.proofs.Ends.{last_taken}

module _ {S : Type 0} where
  -- two texts, one behind the other
  pub before_before : (t u : List ℕ) (w : Walked S) → before t (before u w) ≡ before (t ++ u) w
  before_before t u w = rw (append_assoc t u w.text)

-- a record that is found lies in the buffer
pub record_within : (mark : List (List ℕ)) (ended : Bool) (buf : List ℕ) (at : ℕ) {f : Found} {start len next : ℕ} → f ≡ found_in mark ended at (drop at buf) → f ≡ found.Record start len next
    → (at < next) × (next ≤ length buf) × (3 + len ≤ length buf)
record_within mark ended buf at h e =
    let w = whole mark ended at (drop at buf) (sym h ∙ e) in
    let d = length-drop at buf in
    (omega (arith, w.begins, w.ends), omega (arith, w.begins, w.ends, w.there), omega (arith, w.there))

-- a number of 64 bits
below : (n : ℕ) → n % 2 ^ 64 < 2 ^ 64
below n = omega arith

-- where no text is laid, what was laid stays
none_laid : {out after : List ℕ} {laid end : ℕ} → Laid [] out laid end after → take end after ≡ take laid out ++ []
none_laid {out} {after} {laid} {end} w =
    rw (append-nil (take laid out), w.bytes)
    (by_test (leb laid (length out)) (λ t. let h : laid ≤ length out = leb-true _ _ t in
    let e : end ≡ laid = omega (arith, w.place) in
    rw e)
    (λ t. let h : length out < laid = leb-false _ _ t in
    let e : length out ≤ end = omega (arith, w.place) in
    take_all end out e ∙ sym (take_all laid out (omega arith))))

-- what a program has told of a buffer since it stood at the place p₀ and had x₀: it has laid it at the front of another one, and stands at p now
pub record Stands {S : Type 0} (mark : List (List ℕ)) (tell : ℕ → S → ℕ → List ℕ → Told S) (ended : Bool) (buf : List ℕ) (p₀ : Place) (x₀ : S) (out : List ℕ) (p : Place) (x : S) : Type 0 where
  pub few : p.passed < 2 ^ 64
  pub fewer : p.records < 2 ^ 64
  pub told_so_far : told_from mark tell ended buf p₀ x₀ ≡ before (take p.laid out) (told_from mark tell ended buf p x)
  pub further : p₀.at ≤ p.at
  pub within : 0 < p.laid → (p₀.at < p.at) × (p.at ≤ length buf)

module _ {S : Type 0} (mark : List (List ℕ)) (tell : ℕ → S → ℕ → List ℕ → Told S) (ended : Bool) (buf : List ℕ) where
  -- it has told nothing yet
  pub stands_first : (out : List ℕ) (a : Ahead) (x : S) → a.place.passed < 2 ^ 64 → a.place.records < 2 ^ 64 → Stands mark tell ended buf (reached a 0) x out (reached a 0) x
  stands_first out a x h k = record { few = h; fewer = k; told_so_far = refl; further = omega arith; within = λ z. absurd (omega arith) }

  module _ {p₀ p : Place} {x₀ x : S} {out : List ℕ} (s : Stands mark tell ended buf p₀ x₀ out p x) (most : ℕ) {a : Ahead}
      (e : a ≡ ahead_of mark ended most buf p) where
    -- a record is told
    module _ (w : a.whole ≡ true) where
      passed : Passed mark ended buf p most a.place
      passed = rw e (is_passed mark ended buf p most (rw e at w))

      -- there was room for it
      pub has_room : p.laid ≤ most
      has_room = passed.roomy

      -- what is left of the buffer falls
      pub less_left : {q : Place} {end : ℕ} → q ≡ reached a end → length buf - q.at < length buf - p.at
      less_left g =
          let d = passed in
          let r = record_within mark ended buf p.at refl d.there in
          rw (g, d.reached) (omega (arith, r))

      pub stands_behind : {bytes after : List ℕ} {which end : ℕ} {q : Place} {y : S} → which ≡ kind (drop p.at buf) → bytes ≡ body (drop p.at buf)
          → take end after ≡ take p.laid out ++ (tell p.records x which bytes).text → y ≡ (tell p.records x which bytes).next → q ≡ reached a end
          → Stands mark tell ended buf p₀ x₀ after q y
      stands_behind {bytes} {after} {which} {end} {q} {y} v h t k g =
          let d = passed in
          let r = record_within mark ended buf p.at refl d.there in
          let l = whole mark ended p.at (drop p.at buf) d.there in
          let i : d.next ≡ p.at + record_length (drop p.at buf) = omega (arith, l.begins, l.ends, l.says) in
          rw (g, d.reached)
          (record {
            few = below _;
            fewer = below _;
            told_so_far = s.told_so_far ∙ ap (before (take p.laid out)) (told_on mark tell ended p.at (drop p.at buf) _ _ x refl d.there)
                ∙ rw (← v, ← h, drop-drop (record_length (drop p.at buf)) p.at buf, ← i, ← l.says, before_before, ← t, ← k);
            further = omega (arith, s.further, r);
            within = λ z. (omega (arith, s.further, r), omega (arith, r));
          })

    -- nothing more is told but the last line, if the input ends here
    module _ (w : a.whole ≡ false) where
      rests : AtRest mark ended buf p most a
      rests = rw e (at_rest mark ended buf p most (rw e at w))

      stays : a.place ≡ p
      stays = elim rests [ inl h ↦ rw h.1 | inr h ↦ rw h.2 ]

      rest_told : told_from mark tell ended buf p x ≡ before (last_line a.left a.place.passed a.place.records) (left_to_tell mark tell ended buf a x)
      rest_told =
          elim rests [
            | inl h ↦ rw h.1
            | inr h ↦ rw h.2
                (told_stops mark tell ended p.at (drop p.at buf) _ _ x refl h.1
                ∙ rw (append-nil (last_line (left_at (found_in mark ended p.at (drop p.at buf))) p.passed p.records)))
          ]

      module _ {after : List ℕ} {b : Ahead} (room : most + 64 ≤ length out)
          (l : Laid (last_line a.left a.place.passed a.place.records) out a.place.laid b.place.laid after) (g : b ≡ with_laid a b.place.laid) where
        last_laid : take b.place.laid after ≡ take p.laid out ++ last_line a.left a.place.passed a.place.records
        last_laid =
            elim rests [
              | inl h ↦ rw h.1 (none_laid (rw h.1 at l))
              | inr h ↦ last_taken a.left a.place.passed a.place.records (rw stays s.few) (rw stays s.fewer) (let k = h.0 in omega arith)
                  (rw (ap (λ (q : Place). q.laid) stays) at l)
            ]

        pub stands_at_end : told_from mark tell ended buf p₀ x₀ ≡ before (take b.place.laid after) (left_to_tell mark tell ended buf b x)
        stands_at_end =
            let left = left_to_tell mark tell ended buf a x in
            let same : left_to_tell mark tell ended buf b x ≡ left = ap (λ (v : Ahead). left_to_tell mark tell ended buf v x) g in
            s.told_so_far ∙ ap (before (take p.laid out)) rest_told
            ∙ before_before (take p.laid out) (last_line a.left a.place.passed a.place.records) left
            ∙ ap (λ (u : List ℕ). before u left) (sym last_laid) ∙ ap (before (take b.place.laid after)) (sym same)

        -- it is for want of room only behind a record
        pub stands_full : b.full ≡ true → (p₀.at < b.place.at) × (b.place.at ≤ length buf)
        stands_full f =
            elim rests [
              | inl h ↦ rw (ap (λ (v : Ahead). v.place.at) g, h.1) (s.within (let k = h.0 in omega arith))
              | inr h ↦ absurd (false≢true (sym (ap (λ (v : Ahead). v.full) g ∙ ap (λ (v : Ahead). v.full) h.2) ∙ f))
            ]

-- what is behind a place of the first bytes of a buffer lies between the two places
pub rest_between : (at more : ℕ) (l : List ℕ) → drop at (take more l) ≡ between at more l
rest_between at more l =
    let n = length-take more l in
    by_test (leb at (length (take more l)))
    (λ t. let h : at ≤ length (take more l) = leb-true _ _ t in
    let e : more ≡ at + (more - at) = omega arith in
    ap (λ (k : ℕ). drop at (take k l)) e ∙ ap (drop at) (take-add at (more - at) l)
    ∙ drop_at (take at l) (between at more l) at (length-take-le at l (omega arith)))
    (λ t. let h : length (take more l) < at = leb-false _ _ t in
    let m : length (between at more l) ≤ 0 = rw (length-take (more - at) (drop at l), length-drop at l) (omega arith) in
    let k : length (take more l) ≤ at = omega arith in
    drop_of_length-le (take more l) k ∙ sym (drop_of_length-le (between at more l) m))
