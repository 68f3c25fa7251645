-- What is found at the front of the bytes from a place on, by each way out of the reader. Assumes nothing.
use mathlib.Core.Path.{◌≡◌, refl, sym, ap, ◌∙◌}
use mathlib.Core.Bool.{Bool, true, false, ◌||◌}
use mathlib.Core.List.{List, [], ◌∷◌}
use Prim.Native.Nat.{ℕ, ◌+◌, ◌*◌, ◌≤◌, ◌<◌}
use native.Mathlib.Omega.{arith}
use lib.Dec.{eqb}
use Rattle.std.specs.List.{list_any}
use Rattle.model.proofs.Cases.{by_test}
use lib.ListN.{length, get_or, take}
use lib.Seq.{get_or-take}
use borrow.Author.Tests.{ne_eqb, lt-ltb, le-ltb}
use Rattle.model.specs.Services.{among}
use Rattle.program_records.specs.declared.Found.TheVariants.{Record, WrongMark, Short, End}
use Rattle.program_records.specs.Reading.{can_be, record_length, missing, found_in, highest_first}

-- four bytes of a part are a number
pub four_bytes : (s four : List ℕ) (a b c d : ℕ) → four ≡ take 4 s → a ≡ get_or four 0 0 → b ≡ get_or four 1 0 → c ≡ get_or four 2 0 → d ≡ get_or four 3 0
    → a * 16777216 + b * 65536 + c * 256 + d ≡ highest_first s
unfolding highest_first
four_bytes s four a b c d e p q r t =
    let at_0 : a ≡ get_or s 0 0 = p ∙ rw (e, get_or-take 4 s 0 0 (omega arith)) in
    let at_1 : b ≡ get_or s 1 0 = q ∙ rw (e, get_or-take 4 s 1 0 (omega arith)) in
    let at_2 : c ≡ get_or s 2 0 = r ∙ rw (e, get_or-take 4 s 2 0 (omega arith)) in
    let at_3 : d ≡ get_or s 3 0 = t ∙ rw (e, get_or-take 4 s 3 0 (omega arith)) in
    omega arith

-- a byte looked up among some
among_any : (ns : List ℕ) (k : ℕ) → list_any (λ n. eqb n k) ns ≡ among ns k
unfolding among
among_any [] k = refl
among_any (n ∷ ns) k = ap (λ (b : Bool). eqb n k || b) (among_any ns k)

pub found_among : {r : Bool} (ns : List ℕ) (k : ℕ) → r ≡ list_any (λ n. eqb n k) ns → r ≡ among ns k
found_among ns k e = e ∙ among_any ns k

-- the mark, as far as the bytes go
module _ (a : ℕ) (kinds : List ℕ) where
  pub mark_none : (s : List ℕ) → length s < 1 → true ≡ can_be ((a ∷ []) ∷ kinds ∷ []) s
  unfolding can_be
  mark_none [] h = refl
  mark_none (x ∷ s) h = absurd (omega arith)

  pub mark_half : (s : List ℕ) → 1 ≤ length s → length s < 2 → eqb a (get_or s 0 0) ≡ can_be ((a ∷ []) ∷ kinds ∷ []) s
  unfolding can_be among
  mark_half [] h k = absurd (omega arith)
  mark_half (x ∷ []) h k = by_test (eqb a x) (λ t. rw t) (λ t. rw t)
  mark_half (x ∷ y ∷ s) h k = absurd (omega arith)

  pub mark_wrong : (s : List ℕ) → 2 ≤ length s → eqb a (get_or s 0 0) ≡ false → eqb a (get_or s 0 0) ≡ can_be ((a ∷ []) ∷ kinds ∷ []) s
  unfolding can_be among
  mark_wrong [] h e = absurd (omega arith)
  mark_wrong (x ∷ s) h e = rw e

  pub mark_whole : {r : Bool} (s : List ℕ) → 2 ≤ length s → eqb a (get_or s 0 0) ≡ true → r ≡ among kinds (get_or s 1 0)
      → r ≡ can_be ((a ∷ []) ∷ kinds ∷ []) s
  unfolding can_be among
  mark_whole [] h e q = absurd (omega arith)
  mark_whole (x ∷ []) h e q = absurd (omega arith)
  mark_whole (x ∷ y ∷ s) h e q = q ∙ rw e (by_test (among kinds y) (λ t. rw t) (λ t. rw t))

-- a record: the mark, and all the bytes that the length byte says
pub is_record : (mark : List (List ℕ)) (ended : Bool) (at : ℕ) (s : List ℕ) → can_be mark s ≡ true → 3 + get_or s 2 0 ≤ length s
    → found_in mark ended at s ≡ Record (at + 3) (get_or s 2 0) (at + (3 + get_or s 2 0))
unfolding found_in
is_record mark ended at s m h =
    let some : eqb (length s) 0 ≡ false = ne_eqb (length s) 0 (λ e. omega (arith, e)) in rw (some, m, le-ltb (length s) (3 + get_or s 2 0) h)

-- the ways out
module _ (mark : List (List ℕ)) (ended : Bool) (at : ℕ) (s : List ℕ) where
  pub found_none : eqb (length s) 0 ≡ true → missing ended End ≡ found_in mark ended at s
  unfolding found_in
  found_none e = rw e

  module _ (some : eqb (length s) 0 ≡ false) where
    pub found_wrong : can_be mark s ≡ false → WrongMark ≡ found_in mark ended at s
    unfolding found_in
    found_wrong e = rw (some, e)

    module _ (m : can_be mark s ≡ true) where
      pub found_cut : length s < record_length s → missing ended Short ≡ found_in mark ended at s
      unfolding found_in
      found_cut h = rw (some, m, lt-ltb _ _ h)

      pub found_record : record_length s ≤ length s → Record (at + 3) (get_or s 2 0) (at + record_length s) ≡ found_in mark ended at s
      found_record h = sym (is_record mark ended at s m h)
