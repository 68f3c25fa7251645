-- What some bytes tell, by what is found at their front. Assumes nothing.
use Rattle.std.proofs.Common.{◌≡◌, ℕ, zero, suc, ◌≤◌, Bool, true, false, cond, eqb, ltb, List, length, drop, sym, refl, ap, ◌∙◌, arith, length-drop, eq-eqb}
use Rattle.program_records.proofs.Cuts.{whole}
use Rattle.program_records.proofs.Readings.{is_record}
use Rattle.program_records.specs.Reading.{can_be, record_length, missing, found_in}
use Rattle.program_records.specs.declared.Found.{Found}
use Rattle.program_records.specs.declared.Found.TheVariants as found
use Rattle.program_streams.specs.Ends.{left_at}
use Rattle.program_streams.specs.Walk.{Told, Walked, kind, body, before, stop, and_on, if_record, walked, told}

-- what is found is no whole record
abbrev pub NoRecord : Found → Type 0
NoRecord f = (start len next : ℕ) → f ≡ found.Record start len next → ⊥

-- where no whole record is found, the place does not matter
none_shifts : (a b c e : Bool) (p q n r t m : ℕ) → NoRecord (cond a (missing e found.End) (cond b (cond c (missing e found.Short) (found.Record p q n)) found.WrongMark))
    → cond a (missing e found.End) (cond b (cond c (missing e found.Short) (found.Record r t m)) found.WrongMark) ≡ cond a (missing e found.End) (cond b (cond c
    (missing e found.Short) (found.Record p q n)) found.WrongMark)
none_shifts true b c e p q n r t m h = refl
none_shifts false false c e p q n r t m h = refl
none_shifts false true true e p q n r t m h = refl
none_shifts false true false e p q n r t m h = absurd (h _ _ _ refl)

module _ {S : Type 0} where
  -- what stands behind a record matters only where one is found
  same_onward : (f : Found) (w v none : Walked S) → ((a c d : ℕ) → f ≡ found.Record a c d → w ≡ v) → if_record f w none ≡ if_record f v none
  unfolding if_record
  same_onward (found.Record a c d) w v none h = h a c d refl
  same_onward found.More w v none h = refl
  same_onward found.WrongMark w v none h = refl
  same_onward found.Short w v none h = refl
  same_onward found.End w v none h = refl

  no_record : (f : Found) (w none : Walked S) → NoRecord f → if_record f w none ≡ none
  unfolding if_record
  no_record (found.Record a c d) w none h = absurd (h _ _ _ refl)
  no_record found.More w none h = refl
  no_record found.WrongMark w none h = refl
  no_record found.Short w none h = refl
  no_record found.End w none h = refl

  none_missing : (e : Bool) (w none : Walked S) → if_record (missing e found.End) w none ≡ none
  unfolding if_record
  none_missing true w none = refl
  none_missing false w none = refl

module _ {S : Type 0} (mark : List (List ℕ)) (tell : ℕ → S → ℕ → List ℕ → Told S) (ended : Bool) where
  -- no bytes hold no record
  none_there : (k : ℕ) (s : List ℕ) (b n : ℕ) (x : S) → length s ≡ 0 → walked mark tell ended (suc k) s b n x ≡ walked mark tell ended zero s b n x
  unfolding walked found_in
  none_there k s b n x h = rw (eq-eqb _ _ h) (none_missing ended _ _)

  -- what is behind a record is shorter
  shorter : (s : List ℕ) (k a c d : ℕ) → found_in mark ended 0 s ≡ found.Record a c d → length s ≤ suc k → length (drop (record_length s) s) ≤ k
  shorter s k a c d e h = let w = whole mark ended 0 s e in rw length-drop (omega (arith, w.there, w.says))

  -- as many records as bytes are enough
  enough : (k j : ℕ) (s : List ℕ) (b n : ℕ) (x : S) → length s ≤ k → length s ≤ j → walked mark tell ended k s b n x ≡ walked mark tell ended j s b n x
  unfolding walked
  enough zero zero s b n x h i = refl
  enough zero (suc j) s b n x h i = sym (none_there j s b n x (omega arith))
  enough (suc k) zero s b n x h i = none_there k s b n x (omega arith)
  enough (suc k) (suc j) s b n x h i =
      same_onward (found_in mark ended 0 s) _ _ _
      (λ a c d e. ap (before (tell n x (kind s) (body s)).text) (enough k j _ _ _ _ (shorter s k a c d e h) (shorter s j a c d e i)))

  -- by what is found at the front
  pub by_front : (s : List ℕ) (b n : ℕ) (x : S) → told mark tell ended s b n x
      ≡ if_record (found_in mark ended 0 s) (and_on (told mark tell ended) s b n (tell n x (kind s) (body s))) (stop s b n x (left_at (found_in mark ended 0 s)))
  unfolding told walked
  by_front s b n x =
      enough (length s) (suc (length s)) s b n x (omega arith) (omega arith)
      ∙ same_onward (found_in mark ended 0 s) _ _ _
      (λ a c d e. ap (before (tell n x (kind s) (body s)).text) (enough (length s) (length (drop (record_length s) s)) _ _ _ _ (shorter s (length s) a c d e (omega arith)) (omega arith)))

  -- at a place of a buffer
  module _ (at : ℕ) (s : List ℕ) (b n : ℕ) (x : S) {f : Found} (h : f ≡ found_in mark ended at s) where
    pub told_stops : NoRecord f → told mark tell ended s b n x ≡ stop s b n x (left_at f)
    unfolding found_in
    told_stops none =
        let e : found_in mark ended 0 s ≡ f = none_shifts (eqb (length s) 0) (can_be mark s) (ltb (length s) (record_length s)) ended _ _ _ _ _ _ (rw h at none) ∙ sym h in
        by_front s b n x ∙ rw e (no_record f _ _ none)

    pub told_on : {start len next : ℕ} → f ≡ found.Record start len next → told mark tell ended s b n x ≡ and_on (told mark tell ended) s b n (tell n x (kind s) (body s))
    unfolding if_record
    told_on e =
        let w = whole mark ended at s (sym h ∙ e) in
        let g = is_record mark ended 0 s w.marked (omega (arith, w.there, w.says)) in
        by_front s b n x ∙ rw g
