-- What the length of the code at a byte tells of all the codes from there on. Assumes nothing.
use mathlib.Core.Path.{◌≡◌, refl, sym, ap, ◌∙◌}
use mathlib.Core.Bool.{true, false}
use mathlib.Core.List.{List, [], ◌∷◌}
use Prim.Native.Nat.{ℕ, suc, ◌+◌, ◌-◌, ◌≤◌, ◌<◌}
use native.Mathlib.Omega.{arith}
use borrow.Author.Tests.{eq-eqb, ne_eqb, le-leb, lt-leb, lt-ltb, le-ltb, leb-true, leb-false}
use lib.Dec.{leb}
use lib.ListN.{length, get_or, take, drop, length-drop, drop_of_length-le, get_or-eq_default}
use lib.Seq.{get_or-drop, drop-drop}
use Rattle.model.specs.Said.{Said, Outcome, gave, refused, mapped, after, unknown_length, code_cut_short}
use Rattle.model.specs.Codes.{length_by, told_length, is_untold, code_in, codes_of}
use Rattle.model.proofs.Cases.{by_test}
use Rattle.model.proofs.Codes.{coded, codes_next, codes_refused, codes_none}
use Rattle.codes_cuts.specs.Cuts.{how_many, cut_of, whole_of, Reached}
use Rattle.codes_cuts.proofs.Outcomes.{told_gave, told_refused}

-- a code of a length where so many bytes are left
module _ (k left : ℕ) where
  pub no_length : k ≡ 0 → refused unknown_length ≡ whole_of k left
  unfolding whole_of
  no_length z = rw (eq-eqb k 0 z)

  pub cut_short : (k ≡ 0 → ⊥) → left < k → refused code_cut_short ≡ whole_of k left
  unfolding whole_of
  cut_short z l = rw (ne_eqb k 0 z, lt-ltb left k l)

  pub all_there : (k ≡ 0 → ⊥) → k ≤ left → gave k ≡ whole_of k left
  unfolding whole_of
  all_there z l = rw (ne_eqb k 0 z, le-ltb left k l)

-- the code at the head of bytes, by the byte that tells its length
module _ (d : List ℕ) where
  by_first : 1 ≤ length d → (get_or d 0 0 ≡ 0x10 → ⊥) → code_in d ≡ whole_of (length_by false (get_or d 0 0)) (length d)
  unfolding code_in whole_of told_length is_untold
  by_first h n = rw (ne_eqb (get_or d 0 0) 0x10 n, lt-leb (length d) 0 h)

  by_second : 2 ≤ length d → get_or d 0 0 ≡ 0x10 → code_in d ≡ whole_of (length_by true (get_or d 1 0)) (length d)
  unfolding code_in whole_of told_length is_untold
  by_second h e = rw (eq-eqb (get_or d 0 0) 0x10 e, lt-leb (length d) 1 h)

  alone : length d ≡ 1 → get_or d 0 0 ≡ 0x10 → code_in d ≡ refused code_cut_short
  unfolding code_in is_untold
  alone h e = rw (eq-eqb (get_or d 0 0) 0x10 e, le-leb (length d) 1 (omega arith))

-- the same of the bytes from one on
module _ (d : List ℕ) (at : ℕ) where
  head_at : get_or (drop at d) 0 0 ≡ get_or d at 0
  head_at = let e : at + 0 ≡ at = omega arith in get_or-drop at d 0 0 ∙ rw e

  pub none_left : length d ≤ at → refused code_cut_short ≡ code_in (drop at d)
  unfolding code_in is_untold
  none_left h = rw (drop_of_length-le d h)

  module _ (left : ℕ) (is : left ≡ length d - at) (there : at < length d) where
    pub told_first : (k : ℕ) (said : Outcome ℕ) → (get_or d at 0 ≡ 0x10 → ⊥) → k ≡ length_by false (get_or d at 0)
        → said ≡ whole_of k left → said ≡ code_in (drop at d)
    told_first k said n e s =
        let l = length-drop at d in
        s ∙ rw (by_first (drop at d) (omega arith) (λ z. n (sym head_at ∙ z)), head_at, l, e, is)

    pub told_second : (k : ℕ) (said : Outcome ℕ) → get_or d at 0 ≡ 0x10 → (left ≡ 1 → ⊥) → k ≡ length_by true (get_or d (at + 1) 0)
        → said ≡ whole_of k left → said ≡ code_in (drop at d)
    told_second k said f n e s =
        let l = length-drop at d in
        s ∙ rw (by_second (drop at d) (omega arith) (head_at ∙ f), get_or-drop at d 1 0, l, e, is)

    pub not_told : get_or d at 0 ≡ 0x10 → left ≡ 1 → refused code_cut_short ≡ code_in (drop at d)
    not_told f n = rw (alone (drop at d) (omega (arith, length-drop at d)) (head_at ∙ f))

-- the codes from a byte on
module _ (d : List ℕ) (at : ℕ) where
  -- a refusal there is that of all
  pub refused_from : (why : Said) → refused why ≡ code_in (drop at d) → at < length d → codes_of (drop at d) ≡ refused why
  refused_from why e h = codes_refused (drop at d) why (omega (arith, length-drop at d)) (sym e)

  module _ (k : ℕ) (e : gave k ≡ code_in (drop at d)) where
    -- a code is within the payload, and has a byte at least
    pub code_within : (1 ≤ k) × (at + k ≤ length d)
    code_within = let c = coded (drop at d) k (sym e) in (c.some, omega (arith, length-drop at d, c.some, c.fits))

    -- and behind it are the others
    pub codes_behind : codes_of (drop at d) ≡ mapped (λ cs. take k (drop at d) ∷ cs) (codes_of (drop (at + k) d))
    codes_behind = codes_next (drop at d) k (sym e) ∙ rw (drop-drop k at d)

-- how many codes there are, with so many before them
abbrev pub counted : ℕ → Outcome (List (List ℕ)) → Outcome ℕ
counted n o = mapped (λ cs. n + length cs) o

-- one of them counted
counted_one : (n : ℕ) (c : List ℕ) (o : Outcome (List (List ℕ))) → counted n (mapped (λ cs. c ∷ cs) o) ≡ counted (n + 1) o
counted_one n c (gave cs) = let e : n + suc (length cs) ≡ n + 1 + length cs = omega arith in rw e
counted_one n c (refused why) = refl

-- none of them yet
pub counted_none : (o : Outcome (List (List ℕ))) → mapped how_many o ≡ counted 0 o
counted_none (gave cs) = let e : 0 + length cs ≡ length cs = omega arith in rw e
counted_none (refused why) = refl

module _ (d : List ℕ) (at n : ℕ) (so : mapped how_many (codes_of d) ≡ counted n (codes_of (drop at d))) where
  -- all of them
  pub counted_all : length d ≤ at → gave n ≡ mapped how_many (codes_of d)
  counted_all h = let e : n + 0 ≡ n = omega arith in sym (so ∙ rw (drop_of_length-le d h, codes_none, e))

  -- one more
  pub counted_next : (k : ℕ) → gave k ≡ code_in (drop at d) → mapped how_many (codes_of d) ≡ counted (n + 1) (codes_of (drop (at + k) d))
  counted_next k e = so ∙ rw (codes_behind d at k e) (counted_one n (take k (drop at d)) (codes_of (drop (at + k) d)))

  -- or a refusal
  pub counted_not : (why : Said) → refused why ≡ code_in (drop at d) → at < length d → refused why ≡ mapped how_many (codes_of d)
  counted_not why e h = sym (so ∙ rw (refused_from d at why e h))

-- a payload that has codes is cut
has_codes : (d : List ℕ) (o : Outcome (List (List ℕ))) (place : ℕ) → codes_of d ≡ o → place < length (after [] o) → codes_of d ≡ gave (after [] o)
has_codes d (gave cs) place e h = e
has_codes d (refused why) place e h = absurd (omega arith)

-- the codes from a place on
module _ (d : List ℕ) where
  pub reached_first : (place : ℕ) → place < length (cut_of d) → Reached d 0 0
  reached_first place h = record { within = omega arith; codes = has_codes d (codes_of d) place refl h }

  module _ (place at : ℕ) (here : Reached d place at) (more : place < length (cut_of d)) where
    -- there are bytes left
    pub reached_some : at < length d
    reached_some =
        by_test (leb (length d) at)
        (λ e. let none : gave [] ≡ gave (drop place (cut_of d)) = sym codes_none ∙ sym (rw (drop_of_length-le d (leb-true (length d) at e))) ∙ here.codes in
        let z : 0 ≡ length (drop place (cut_of d)) = ap (λ (o : Outcome (List (List ℕ))). length (after [] o)) none in
        absurd (omega (arith, length-drop place (cut_of d))))
        (λ e. leb-false (length d) at e)

    -- a code begins there
    pub reached_code : (why : Said) → refused why ≡ code_in (drop at d) → ⊥
    reached_code why e =
        let q = refused_from d at why e reached_some in
        let g = here.codes in
        let z : ◌≡◌ {A = ℕ} 0 1 = cc in omega arith

    module _ (k : ℕ) (e : gave k ≡ code_in (drop at d)) where
      -- the code, and those behind it
      both_of : (o : Outcome (List (List ℕ))) → gave (drop place (cut_of d)) ≡ mapped (λ cs. take k (drop at d) ∷ cs) o
          → (drop place (cut_of d) ≡ take k (drop at d) ∷ after [] o) × (o ≡ gave (after [] o))
      both_of (gave cs) q = (cc, refl)
      both_of (refused why) q = let z : ◌≡◌ {A = ℕ} 0 1 = cc in absurd (omega arith)

      split : (drop place (cut_of d) ≡ take k (drop at d) ∷ cut_of (drop (at + k) d)) × (codes_of (drop (at + k) d) ≡ gave (cut_of (drop (at + k) d)))
      split = both_of (codes_of (drop (at + k) d)) (sym here.codes ∙ codes_behind d at k e)

      pub reached_is : take k (drop at d) ≡ get_or (cut_of d) place []
      reached_is = let e : place + 0 ≡ place = omega arith in sym (ap (λ (cs : List (List ℕ)). get_or cs 0 []) split.0) ∙ get_or-drop place (cut_of d) 0 [] ∙ rw e

      pub reached_next : Reached d (place + 1) (at + k)
      reached_next =
          record {
            within = (code_within d at k e).1;
            codes = split.1 ∙ ap gave (sym (sym (drop-drop 1 place (cut_of d)) ∙ ap (drop 1) split.0));
          }

-- how many codes were counted
module _ (d : List ℕ) where
  -- none of a payload that is refused
  pub not_cut : (why : Said) → refused why ≡ mapped how_many (codes_of d) → (place : ℕ) → [] ≡ get_or (cut_of d) place []
  not_cut why e place = rw (told_refused how_many (codes_of d) why e) (sym (get_or-eq_default {A = List ℕ} [] [] {n = place} (omega arith)))

  module _ (n : ℕ) (e : gave n ≡ mapped how_many (codes_of d)) where
    pub cut_length : length (cut_of d) ≡ n
    cut_length = let g = told_gave how_many (codes_of d) n e in ap (λ (o : Outcome (List (List ℕ))). length (after [] o)) g.1 ∙ sym g.2

    -- none at a place behind all of them
    pub past_all : (place : ℕ) → n ≤ place → [] ≡ get_or (cut_of d) place []
    past_all place h = sym (get_or-eq_default (cut_of d) [] (omega (arith, cut_length)))
