-- How a payload is cut into codes: the cut is the only one, a payload that is refused has none, and the refusal told is the one at the leftmost place
-- that codes do not go past. Assumes nothing.
use mathlib.Core.Path.{◌≡◌, refl, sym, ap, ap₂, subst, ◌∙◌}
use mathlib.Core.Bool.{Bool, true, false, cond, not, ◌||◌}
use mathlib.Core.List.{List, [], ◌∷◌, ◌++◌, flatten, append_assoc, append-nil}
use Prim.Native.Nat.{ℕ, zero, suc, ◌+◌, ◌-◌, ◌≤◌, ◌<◌}
use native.Mathlib.Omega.{arith}
use lib.Dec.{eqb, leb, ltb}
use lib.ListN.{length, get_or, take, drop, replicate, length-append, length-drop, take-append-drop, get_or-append}
use lib.Seq.{drop-nil, drop_at, take_at, get_or-take, length-take-le}
use borrow.Author.Tests.{eq-eqb, ne_eqb, eqb-true, eqb-false, lt-leb, leb-true, leb-false, lt-ltb, le-ltb, ltb-true, ltb-false}
use Rattle.model.specs.Lists.{every}
use Rattle.model.specs.Said.{Said, Outcome, gave, refused, mapped, unknown_length, code_cut_short}
use Rattle.model.specs.Codes.{Range, first_ranges, ext1_ranges, in_range, tabled, told_in, length_by, is_ext1, telling_place, told_length, is_untold, code_in, codes_from, codes_of, is_code}
use Rattle.model.proofs.Cuts.{CutInto}
use Rattle.model.proofs.Cases.{by_test, by_cond, both, and_both, Gives, gives_at, NotAccepted, Refuses, refuses_weaker, mapped_mapped, mapped_same}

-- how many of the ranges a byte is in
unfoldable pub held_in : List Range → ℕ → ℕ
held_in [] b = 0
held_in (r ∷ rs) b = cond (in_range r b) (1 + held_in rs b) (held_in rs b)

-- Each byte is in one of the ranges and in no other, as the first of a code and as the one behind 0x10: all 512 in one equation.
pub each_once : tabled (held_in first_ranges) 0 256 ++ tabled (held_in ext1_ranges) 0 256 ≡ replicate 512 1
unfolding tabled held_in first_ranges ext1_ranges
each_once = refl

-- an entry of a table that a rule has made
table_from : (rule : ℕ → ℕ) (from n k : ℕ) → k < n → get_or (tabled rule from n) k 0 ≡ rule (from + k)
unfolding tabled
table_from rule from zero k h = absurd (omega arith)
table_from rule from (suc n) zero h = let e : from + 0 ≡ from = omega arith in rw e
table_from rule from (suc n) (suc k) h = let e : from + suc k ≡ suc from + k = omega arith in rw e (table_from rule (suc from) n k (omega arith))

pub table_at : (rule : ℕ → ℕ) (n k : ℕ) → k < n → get_or (tabled rule 0 n) k 0 ≡ rule k
table_at rule n k h = let e : 0 + k ≡ k = omega arith in rw e at (table_from rule 0 n k h)

-- a length that is no length or at least two
abbrev none_or_two : ℕ → Bool
none_or_two n = eqb n 0 || leb 2 n

-- what a list of ranges tells is what one of them tells, or none
told_none_or_two : (rs : List Range) (b : ℕ) → every (λ r. none_or_two r.bytes) rs ≡ true → none_or_two (told_in rs b) ≡ true
unfolding every told_in
told_none_or_two [] b h = refl
told_none_or_two (r ∷ rs) b h =
    let t = both (none_or_two r.bytes) (every (λ q. none_or_two q.bytes) rs) h in
    by_cond (λ n. none_or_two n ≡ true) (in_range r b) (λ _. t.0) (λ _. told_none_or_two rs b t.1)

-- so the byte behind 0x10 tells a code that it is a part of, or none
ext1_two : (b : ℕ) → 1 ≤ length_by true b → 2 ≤ length_by true b
unfolding ext1_ranges every
ext1_two b h =
    let t = told_none_or_two ext1_ranges b refl in
    let n : ℕ = length_by true b in
    leb-true 2 n (sym (rw (ne_eqb n 0 (λ z. omega arith))) ∙ t)

-- bytes that begin with a code of k bytes
pub record Coded (d : List ℕ) (k : ℕ) : Type 0 where
  pub told : is_untold d ≡ false
  pub is : told_length d ≡ k
  pub some : 1 ≤ k
  pub fits : k ≤ length d

-- why bytes do not begin with a code [K3]: the byte that tells the length tells none; or the bytes end before it, or within the code
pub data Fault (d : List ℕ) : Said → Type 0 where
  unknown : is_untold d ≡ false → told_length d ≡ 0 → Fault d unknown_length
  untold : is_untold d ≡ true → Fault d code_cut_short
  short : is_untold d ≡ false → length d < told_length d → Fault d code_cut_short

-- what is given is such a code,
given_coded : (d : List ℕ) → Gives (Coded d) (code_in d)
unfolding code_in
given_coded d =
    by_cond (Gives (Coded d)) (is_untold d) (λ _. tt)
    (λ u. by_cond (Gives (Coded d)) (eqb (told_length d) 0) (λ _. tt)
    (λ z. by_cond (Gives (Coded d)) (ltb (length d) (told_length d)) (λ _. tt)
    (λ l. record { told = u; is = refl; some = omega (arith, eqb-false (told_length d) 0 z); fits = ltb-false _ _ l })))

pub coded : (d : List ℕ) (k : ℕ) → code_in d ≡ gave k → Coded d k
coded d k e = gives_at (Coded d) (code_in d) e (given_coded d)

pub coded_given : (d : List ℕ) (k : ℕ) → Coded d k → code_in d ≡ gave k
unfolding code_in
coded_given d k c =
    let e = c.is in
    rw (c.told, e, ne_eqb k 0 (λ z. omega (arith, c.some)), le-ltb (length d) k c.fits)

-- and what is refused has such a fault
refused_fault : (d : List ℕ) → Refuses (Fault d) (code_in d)
unfolding code_in
refused_fault d =
    by_cond (Refuses (Fault d)) (is_untold d) untold
    (λ u. by_cond (Refuses (Fault d)) (eqb (told_length d) 0) (λ z. unknown u (eqb-true _ _ z))
    (λ z. by_cond (Refuses (Fault d)) (ltb (length d) (told_length d)) (λ l. short u (ltb-true _ _ l)) (λ _. tt)))

pub fault : (d : List ℕ) (why : Said) → code_in d ≡ refused why → Fault d why
fault d why e = subst (Refuses (Fault d)) e (refused_fault d)

pub fault_refused : (d : List ℕ) (why : Said) → Fault d why → code_in d ≡ refused why
unfolding code_in
fault_refused d _ (unknown u z) = rw (u, z)
fault_refused d _ (untold u) = rw u
fault_refused d _ (short u l) = rw (u, ne_eqb (told_length d) 0 (λ z. omega arith), lt-ltb _ _ l)

-- neither of the two refusals has the number of what is accepted
fault_numbered : (d : List ℕ) (why : Said) → Fault d why → NotAccepted why
fault_numbered d _ (unknown u z) n = omega arith
fault_numbered d _ (untold u) n = omega arith
fault_numbered d _ (short u l) n = omega arith

pub code_numbered : (d : List ℕ) → Refuses NotAccepted (code_in d)
code_numbered d = refuses_weaker (fault_numbered d) (code_in d) (refused_fault d)

-- a whole code tells its own length, whatever follows it
module _ (c : List ℕ) (code : is_code c ≡ true) where
  parts : (not (is_untold c) ≡ true) × (eqb (told_length c) (length c) ≡ true)
  unfolding is_code
  parts = both (not (is_untold c)) (eqb (told_length c) (length c)) code

  told_there : telling_place c < length c
  unfolding is_untold
  told_there = by_test (leb (length c) (telling_place c)) (λ e. absurd (let z : ◌≡◌ {A = Bool} true false = sym parts.0 ∙ rw e in let y : ◌≡◌ {A = ℕ} 0 1 = cc in omega arith)) (λ e. leb-false _ _ e)

  pub code_some : 1 ≤ length c
  code_some = omega (arith, told_there)

  module _ (rest : List ℕ) where
    same_mark : is_ext1 (c ++ rest) ≡ is_ext1 c
    same_mark = rw (get_or-append c rest 0 0 code_some)

    same_length : told_length (c ++ rest) ≡ length c
    unfolding told_length
    same_length = rw (same_mark, get_or-append c rest 0 (telling_place c) told_there) (eqb-true _ _ parts.1)

    pub code_coded : Coded (c ++ rest) (length c)
    unfolding is_untold
    code_coded =
        record {
          told = rw same_mark (lt-leb (length (c ++ rest)) (telling_place c) (omega (arith, told_there, length-append c rest)));
          is = same_length;
          some = code_some;
          fits = omega (arith, length-append c rest);
        }

-- what a code is, taken from the bytes that begin with it, is a whole code
module _ (d : List ℕ) (k : ℕ) (c : Coded d k) where
  -- the byte that tells the length is one of them
  place_within : telling_place d < k
  unfolding told_length
  place_within =
      by_cond (λ n. n < k) (is_ext1 d)
      (λ e. let t : length_by true (get_or d 1 0) ≡ k = sym (rw e) ∙ c.is in omega (arith, ext1_two (get_or d 1 0) (omega (arith, c.some))))
      (λ _. c.some)

  taken_mark : is_ext1 (take k d) ≡ is_ext1 d
  taken_mark = rw (get_or-take k d 0 0 c.some)

  taken_length : length (take k d) ≡ k
  taken_length = length-take-le k d c.fits

  pub taken_code : is_code (take k d) ≡ true
  unfolding is_code is_untold told_length
  taken_code =
      let here : get_or (take k d) (telling_place d) 0 ≡ get_or d (telling_place d) 0 = get_or-take k d (telling_place d) 0 place_within in
      rw (taken_mark, taken_length, here, c.is, lt-leb k (telling_place d) place_within) (eq-eqb k k refl)

-- the bytes behind those that are passed over
pub codes_after : (k : ℕ) (d : List ℕ) → codes_from k d ≡ codes_of (drop k d)
unfolding codes_from
codes_after k [] = rw (drop-nil k)
codes_after zero (x ∷ d) = refl
codes_after (suc k) (x ∷ d) = codes_after k d

-- a code at the head, and then the codes of what follows it
pub codes_next : (d : List ℕ) (k : ℕ) → code_in d ≡ gave k → codes_of d ≡ mapped (λ cs. take k d ∷ cs) (codes_of (drop k d))
unfolding codes_from
codes_next [] k e = let c = coded [] k e in absurd (omega (arith, c.some, c.fits))
codes_next (x ∷ d) zero e = absurd (omega (arith, (coded (x ∷ d) 0 e).some))
codes_next (x ∷ d) (suc k) e =
    let behind : codes_from (suc k - 1) d ≡ codes_of (drop k d) = let one : suc k - 1 ≡ k = omega arith in rw one (codes_after k d) in
    rw e (ap (mapped (λ cs. take (suc k) (x ∷ d) ∷ cs)) behind)

-- or a refusal of the code at the head, which is that of all
pub codes_refused : (d : List ℕ) (why : Said) → 1 ≤ length d → code_in d ≡ refused why → codes_of d ≡ refused why
unfolding codes_from
codes_refused [] why h e = absurd (omega arith)
codes_refused (x ∷ d) why h e = rw e

-- where no byte is left there is no code
pub codes_none : codes_of [] ≡ gave []
unfolding codes_from
codes_none = refl

-- codes one behind the other, and then what follows them
pub codes_then : (cs : List (List ℕ)) (rest : List ℕ) → every is_code cs ≡ true → codes_of (flatten cs ++ rest) ≡ mapped (λ ds. cs ++ ds) (codes_of rest)
unfolding every flatten
codes_then [] rest h = sym (mapped_same (codes_of rest))
codes_then (c ∷ cs) rest h =
    let t = both (is_code c) (every is_code cs) h in
    let behind : List ℕ = flatten cs ++ rest in
    let one = codes_next (c ++ behind) (length c) (coded_given _ _ (code_coded c t.0 behind)) in
    rw append_assoc
    (one ∙ rw (take_at c behind (length c) refl, drop_at c behind (length c) refl, codes_then cs rest t.1) (mapped_mapped _ _ (codes_of rest)))

-- The cut is the only one: any such codes are it.
pub only_cut : (d : List ℕ) (cs : List (List ℕ)) → CutInto d cs → codes_of d ≡ gave cs
only_cut d cs c =
    let e : flatten cs ++ [] ≡ d = append-nil (flatten cs) ∙ c.bytes in
    rw (← e) (codes_then cs [] c.codes ∙ rw codes_none (ap gave (append-nil cs)))

-- Codes from the left up to a place at which none begins, and why [K4].
pub record Stuck (d : List ℕ) (why : Said) : Type 0 where
  pub front : List (List ℕ)
  pub rest : List ℕ
  pub codes : every is_code front ≡ true
  pub bytes : flatten front ++ rest ≡ d
  pub some : 1 ≤ length rest
  pub fault : Fault rest why

-- what an outcome of a cut tells
abbrev CutOr : List ℕ → Outcome (List (List ℕ)) → Type 0
CutOr d (gave cs) = CutInto d cs
CutOr d (refused why) = Stuck d why

-- a code more before a cut, or before the place
module _ (d : List ℕ) (k : ℕ) (c : Coded d k) where
  more : (o : Outcome (List (List ℕ))) → CutOr (drop k d) o → CutOr d (mapped (λ cs. take k d ∷ cs) o)
  unfolding every flatten
  more (gave cs) r = record { bytes = rw r.bytes (take-append-drop k d); codes = and_both _ _ (taken_code d k c) r.codes }
  more (refused why) r =
      record {
        front = take k d ∷ r.front;
        rest = r.rest;
        codes = and_both _ _ (taken_code d k c) r.codes;
        bytes = append_assoc (take k d) (flatten r.front) r.rest ∙ rw r.bytes (take-append-drop k d);
        some = r.some;
        fault = r.fault;
      }

-- where one is known of what follows a code, one is known of the payload
met : (d : List ℕ) → ((k : ℕ) → Coded d k → CutOr (drop k d) (codes_of (drop k d))) → (o : Outcome ℕ) → code_in d ≡ o → CutOr d (codes_of d)
unfolding every flatten
met [] behind o e = rw codes_none (record { bytes = refl; codes = refl })
met (x ∷ d) behind (gave k) e = let c = coded (x ∷ d) k e in rw (codes_next (x ∷ d) k e) (more (x ∷ d) k c (codes_of (drop k (x ∷ d))) (behind k c))
met (x ∷ d) behind (refused why) e =
    rw (codes_refused (x ∷ d) why (omega arith) e)
    (record { front = []; rest = x ∷ d; codes = refl; bytes = refl; some = omega arith; fault = fault (x ∷ d) why e })

-- so one is known of each
cut_or : (n : ℕ) (d : List ℕ) → length d ≤ n → CutOr d (codes_of d)
cut_or zero d h = met d (λ k c. absurd (omega (arith, c.some, c.fits))) (code_in d) refl
cut_or (suc n) d h = met d (λ k c. cut_or n (drop k d) (omega (arith, length-drop k d, c.some))) (code_in d) refl

-- What is given is a cut.
pub cut_given : (d : List ℕ) (cs : List (List ℕ)) → codes_of d ≡ gave cs → CutInto d cs
cut_given d cs e = subst (CutOr d) e (cut_or (length d) d (omega arith))

-- What is refused is stuck at a place,
pub refused_stuck : (d : List ℕ) (why : Said) → codes_of d ≡ refused why → Stuck d why
refused_stuck d why e = subst (CutOr d) e (cut_or (length d) d (omega arith))

-- with the refusal that is told,
pub stuck_refused : (d : List ℕ) (why : Said) → Stuck d why → codes_of d ≡ refused why
stuck_refused d why s =
    rw (← s.bytes)
    (codes_then s.front s.rest s.codes ∙ rw (codes_refused s.rest why s.some (fault_refused s.rest why s.fault)))

-- and has no cut.
pub refused_uncut : (d : List ℕ) (why : Said) → codes_of d ≡ refused why → (cs : List (List ℕ)) → CutInto d cs → ⊥
refused_uncut d why e cs c = let f = only_cut d cs c in let z : ◌≡◌ {A = ℕ} 0 1 = cc in omega arith

-- two codes that bytes begin with are one
same_code : (c e behind rest : List ℕ) → is_code c ≡ true → is_code e ≡ true → c ++ behind ≡ e ++ rest → c ≡ e
same_code c e behind rest x y q =
    let f : told_length (c ++ behind) ≡ length e = rw q (code_coded e y rest).is in
    let n : length c ≡ length e = sym (code_coded c x behind).is ∙ f in
    sym (take_at c behind (length c) refl) ∙ rw (q, n) (take_at e rest (length e) refl)

-- one list begins with another
pub record Begins {A : Type 0} (xs front : List A) : Type 0 where
  pub more : List A
  pub is : xs ++ more ≡ front

-- no code begins where there is a fault
code_faultless : (c behind rest : List ℕ) (why : Said) → is_code c ≡ true → c ++ behind ≡ rest → Fault rest why → ⊥
code_faultless c behind rest why x q f =
    let given : code_in rest ≡ gave (length c) = rw (← q) (coded_given (c ++ behind) (length c) (code_coded c x behind)) in
    let refuses = fault_refused rest why f in
    let z : ◌≡◌ {A = ℕ} 0 1 = cc in omega arith

-- the same before both
begins_with : {A : Type 0} (x y : A) (xs front : List A) → x ≡ y → Begins xs front → Begins (x ∷ xs) (y ∷ front)
begins_with x y xs front e b = record { more = b.more; is = ap₂ ◌∷◌ e b.is }

-- so of two rows of codes with the same bytes, behind one of which is a fault, the other is its beginning
begins : (cs front : List (List ℕ)) (behind rest : List ℕ) (why : Said) → every is_code cs ≡ true → every is_code front ≡ true
    → flatten cs ++ behind ≡ flatten front ++ rest → Fault rest why → Begins cs front
unfolding every flatten
begins [] front behind rest why h g q f = record { more = front; is = refl }
begins (c ∷ cs) [] behind rest why h g q f =
    absurd (code_faultless c (flatten cs ++ behind) rest why (both (is_code c) (every is_code cs) h).0 (sym (append_assoc c (flatten cs) behind) ∙ q) f)
begins (c ∷ cs) (e ∷ front) behind rest why h g q f =
    let x = both (is_code c) (every is_code cs) h in
    let y = both (is_code e) (every is_code front) g in
    let p : c ++ (flatten cs ++ behind) ≡ e ++ (flatten front ++ rest) = sym (append_assoc c (flatten cs) behind) ∙ q ∙ append_assoc e (flatten front) rest in
    let s : c ≡ e = same_code c e (flatten cs ++ behind) (flatten front ++ rest) x.0 y.0 p in
    let t : flatten cs ++ behind ≡ flatten front ++ rest =
    sym (drop_at c (flatten cs ++ behind) (length c) refl) ∙ rw (p, s) (drop_at e (flatten front ++ rest) (length e) refl) in
    begins_with c e cs front s (begins cs front behind rest why x.1 y.1 t f)

-- It is the leftmost: codes that the payload begins with, however they are chosen, are the first of those before the place.
pub leftmost : (d : List ℕ) (why : Said) (s : Stuck d why) (cs : List (List ℕ)) (rest : List ℕ) → every is_code cs ≡ true → flatten cs ++ rest ≡ d → Begins cs s.front
leftmost d why s cs rest h e = begins cs s.front rest s.rest why h s.codes (e ∙ sym s.bytes) s.fault

-- a payload that is refused: where its codes end, why none begins there, and that no other codes go further
pub record Leftmost (d : List ℕ) (why : Said) : Type 0 where
  pub stuck : Stuck d why
  pub first : (cs : List (List ℕ)) (rest : List ℕ) → every is_code cs ≡ true → flatten cs ++ rest ≡ d → Begins cs stuck.front

pub refused_leftmost : (d : List ℕ) (why : Said) → codes_of d ≡ refused why → Leftmost d why
refused_leftmost d why e = let s = refused_stuck d why e in record { stuck = s; first = leftmost d why s }

-- two payloads that are cut, one behind the other
pub codes_joined : (d e : List ℕ) (cs ds : List (List ℕ)) → codes_of d ≡ gave cs → codes_of e ≡ gave ds → codes_of (d ++ e) ≡ gave (cs ++ ds)
codes_joined d e cs ds p q =
    let c = cut_given d cs p in
    rw (← c.bytes) (codes_then cs e c.codes ∙ rw q)

-- no payload is refused with what is accepted
pub codes_numbered : (d : List ℕ) → Refuses NotAccepted (codes_of d)
codes_numbered d = by (codes_of d) refl
  where
    by : (o : Outcome (List (List ℕ))) → codes_of d ≡ o → Refuses NotAccepted o
    by (gave cs) e = tt
    by (refused why) e = let s = refused_stuck d why e in fault_numbered s.rest why s.fault
