-- What callers of the reader may count on: a record that was found is there, and what was found stays found when more bytes come, so that it
-- does not matter how the input is cut. Assumes nothing.
use mathlib.Core.Path.{◌≡◌, refl, sym, ap, ◌∙◌}
use mathlib.Core.Bool.{Bool, true, false, cond, false≢true}
use mathlib.Core.List.{List, [], ◌∷◌, ◌++◌}
use Prim.Native.Nat.{ℕ, ◌+◌, ◌≤◌}
use native.Mathlib.Omega.{arith}
use lib.Dec.{eqb, ltb}
use lib.ListN.{length, get_or, length-append, get_or-append}
use borrow.Author.Tests.{eq-eqb, ne_eqb, ltb-false, eqb-false}
use Rattle.model.specs.Services.{among}
use Rattle.model.proofs.Cases.{by_test}
use Rattle.program_records.specs.declared.Found.{Found}
use Rattle.program_records.specs.declared.Found.TheVariants.{Record, More, WrongMark, Short, End}
use Rattle.program_records.specs.Reading.{can_be, record_length, missing, found_in}
use Rattle.program_records.proofs.Readings.{is_record}

-- a number for each kind of what is found, by which two kinds are told apart
abbrev kind : Found → ℕ
kind (Record start len next) = 0
kind More = 1
kind WrongMark = 2
kind Short = 3
kind End = 4

-- a record that was found is there
pub record Whole (s : List ℕ) (mark : List (List ℕ)) (at start len next : ℕ) : Type 0 where
  pub marked : can_be mark s ≡ true
  pub begins : start ≡ at + 3
  pub says : len ≡ get_or s 2 0
  pub ends : next ≡ start + len
  pub there : 3 + len ≤ length s

-- the tests on the way to a record
whole_parts : (a b c e : Bool) {p q n s l x : ℕ}
    → cond a (missing e End) (cond b (cond c (missing e Short) (Record p q n)) WrongMark) ≡ Record s l x
    → (b ≡ true) × (c ≡ false) × (p ≡ s) × (q ≡ l) × (n ≡ x)
whole_parts false true false e h = (refl, refl, cc, cc, cc)
whole_parts true b c true h = absurd (omega (arith, ap kind h))
whole_parts true b c false h = absurd (omega (arith, ap kind h))
whole_parts false false c e h = absurd (omega (arith, ap kind h))
whole_parts false true true true h = absurd (omega (arith, ap kind h))
whole_parts false true true false h = absurd (omega (arith, ap kind h))

module _ (mark : List (List ℕ)) (ended : Bool) (at : ℕ) (s : List ℕ) where
  pub whole : {start len next : ℕ} → found_in mark ended at s ≡ Record start len next → Whole s mark at start len next
  unfolding found_in
  whole e =
      let w = whole_parts (eqb (length s) 0) (can_be mark s) (ltb (length s) (record_length s)) ended e in
      let k = ltb-false (length s) (record_length s) w.1 in
      record { marked = w.0; begins = sym w.2; says = sym w.3; ends = omega (arith, w.2, w.3, w.4); there = omega (arith, w.3) }

-- what is written is read: a mark of one of the kinds, a length byte, and as many bytes as it says
pub found_written : (a b at : ℕ) (kinds : List ℕ) (ended : Bool) (body rest : List ℕ) → among kinds b ≡ true
    → found_in ((a ∷ []) ∷ kinds ∷ []) ended at (a ∷ b ∷ length body ∷ (body ++ rest)) ≡ Record (at + 3) (length body) (at + (3 + length body))
unfolding can_be among
found_written a b at kinds ended body rest e =
    is_record ((a ∷ []) ∷ kinds ∷ []) ended at (a ∷ b ∷ length body ∷ (body ++ rest)) (rw (eq-eqb a a refl, e)) (omega (arith, length-append body rest))

-- Bytes that follow change nothing of a record or a wrong mark that was found, however the input is cut:
can_be_more : (mark : List (List ℕ)) (s t : List ℕ) → length mark ≤ length s → can_be mark (s ++ t) ≡ can_be mark s
unfolding can_be
can_be_more [] s t h = refl
can_be_more (ms ∷ mark) [] t h = absurd (omega arith)
can_be_more (ms ∷ mark) (x ∷ s) t h = rw (can_be_more mark s t (omega arith))

cannot_more : (mark : List (List ℕ)) (s t : List ℕ) → can_be mark s ≡ false → can_be mark (s ++ t) ≡ false
unfolding can_be
cannot_more [] s t e = e
cannot_more (ms ∷ mark) [] t e = absurd (let z : true ≡ false = e in false≢true (sym z))
cannot_more (ms ∷ mark) (x ∷ s) t e = by_test (among ms x) (λ q. rw q (cannot_more mark s t (rw q at e))) (λ q. rw q)

-- the tests on the way to a wrong mark
wrong_parts : (a b c e : Bool) (p q n : ℕ) → cond a (missing e End) (cond b (cond c (missing e Short) (Record p q n)) WrongMark) ≡ WrongMark
    → (a ≡ false) × (b ≡ false)
wrong_parts false false c e p q n h = (refl, refl)
wrong_parts true b c true p q n h = absurd (omega (arith, ap kind h))
wrong_parts true b c false p q n h = absurd (omega (arith, ap kind h))
wrong_parts false true false e p q n h = absurd (omega (arith, ap kind h))
wrong_parts false true true true p q n h = absurd (omega (arith, ap kind h))
wrong_parts false true true false p q n h = absurd (omega (arith, ap kind h))

module _ (mark : List (List ℕ)) (ended later : Bool) (at : ℕ) (s t : List ℕ) where
  pub stays_record : {start len next : ℕ} → length mark ≤ 3 → found_in mark ended at s ≡ Record start len next
      → found_in mark later at (s ++ t) ≡ Record start len next
  stays_record {start} {len} {next} short e =
      let w = whole mark ended at s e in
      let g : get_or (s ++ t) 2 0 ≡ len = get_or-append s t 0 2 (omega (arith, w.there)) ∙ sym w.says in
      let m : can_be mark (s ++ t) ≡ true = can_be_more mark s t (omega (arith, w.there)) ∙ w.marked in
      is_record mark later at (s ++ t) m (omega (arith, length-append s t, w.there, g)) ∙ rw (g, w.ends, w.begins) (ap (Record (at + 3) len) (omega arith))

  pub stays_wrong : found_in mark ended at s ≡ WrongMark → found_in mark later at (s ++ t) ≡ WrongMark
  unfolding found_in
  stays_wrong e =
      let w = wrong_parts (eqb (length s) 0) (can_be mark s) (ltb (length s) (record_length s)) ended _ _ _ e in
      let n : length s ≡ 0 → ⊥ = eqb-false (length s) 0 w.0 in
      let some : eqb (length (s ++ t)) 0 ≡ false = ne_eqb (length (s ++ t)) 0 (λ z. n (omega (arith, z, length-append s t))) in
      rw (some, cannot_more mark s t w.1)
