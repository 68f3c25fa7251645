-- What a reader makes of a frame's 608 part and of its 708 part. Assumes nothing.
use mathlib.Core.Path.{◌≡◌, refl, ap}
use mathlib.Core.Bool.{false, true≢false}
use mathlib.Core.List.{List, [], ◌∷◌, ◌++◌}
use mathlib.Core.Option.{none}
use Prim.Native.Nat.{ℕ, suc}
use lib.ListN.{length}
use Rattle.model.specs.Frame.{Triple, Seen, first, second, start, more, void608, void708, seen, seen_all}
use Rattle.model.specs.Demux.{pairs_in, late_after, late_from, carries708, gather}

-- seeing goes triple by triple
pub seen_append : (xs ys : List Triple) → seen_all (xs ++ ys) ≡ seen_all xs ++ seen_all ys
unfolding seen_all
seen_append [] ys = refl
seen_append (x ∷ xs) ys = ap (λ (l : List Seen). seen x ∷ l) (seen_append xs ys)

-- and sees as many
pub seen_length : (ts : List Triple) → length (seen_all ts) ≡ length ts
unfolding seen_all
seen_length [] = refl
seen_length (t ∷ ts) = ap suc (seen_length ts)

-- only 608 triples, valid or not
pub data In608 : List Seen → Type 0 where
  end6 : In608 []
  one6 : {a b : ℕ} {r : List Seen} → In608 r → In608 (first a b ∷ r)
  two6 : {a b : ℕ} {r : List Seen} → In608 r → In608 (second a b ∷ r)
  void6 : {r : List Seen} → In608 r → In608 (void608 ∷ r)

-- only 708 triples, valid or not
pub data In708 : List Seen → Type 0 where
  end7 : In708 []
  start7 : {a b : ℕ} {r : List Seen} → In708 r → In708 (start a b ∷ r)
  more7 : {a b : ℕ} {r : List Seen} → In708 r → In708 (more a b ∷ r)
  void7 : {r : List Seen} → In708 r → In708 (void708 ∷ r)

-- one 708 part behind another
pub join_708 : {xs ys : List Seen} → In708 xs → In708 ys → In708 (xs ++ ys)
join_708 end7 k = k
join_708 (start7 h) k = start7 (join_708 h k)
join_708 (more7 h) k = more7 (join_708 h k)
join_708 (void7 h) k = void7 (join_708 h k)

-- a 708 part has no pair
pub pairs_708 : {ys : List Seen} → In708 ys → pairs_in ys ≡ []
unfolding pairs_in
pairs_708 end7 = refl
pairs_708 (start7 h) = refl
pairs_708 (more7 h) = refl
pairs_708 (void7 h) = refl

-- the pairs are those of the 608 part
pub pairs_608 : {xs ys : List Seen} → In608 xs → In708 ys → pairs_in (xs ++ ys) ≡ pairs_in xs
unfolding pairs_in
pairs_608 end6 k = pairs_708 k
pairs_608 (one6 h) k = rw (pairs_608 h k)
pairs_608 (two6 h) k = rw (pairs_608 h k)
pairs_608 (void6 h) k = pairs_608 h k

-- a 708 part has no valid 608 triple
none_after : (i : ℕ) {ys : List Seen} → In708 ys → late_after i ys ≡ none
unfolding late_after
none_after i end7 = refl
none_after i (start7 h) = none_after (suc i) h
none_after i (more7 h) = none_after (suc i) h
none_after i (void7 h) = none_after (suc i) h

-- so behind a 608 part it is not refused with 2
pub none_late : (i : ℕ) {xs ys : List Seen} → In608 xs → In708 ys → late_from i (xs ++ ys) ≡ none
unfolding late_from
none_late i end6 end7 = refl
none_late i end6 (start7 h) = none_after (suc i) h
none_late i end6 (more7 h) = none_after (suc i) h
none_late i end6 (void7 h) = none_after (suc i) h
none_late i (one6 h) k = none_late (suc i) h k
none_late i (two6 h) k = none_late (suc i) h k
none_late i (void6 h) k = none_late (suc i) h k

-- a 608 part has no valid 708 triple
pub carries_608 : {xs : List Seen} → In608 xs → (ys : List Seen) → carries708 (xs ++ ys) ≡ carries708 ys
unfolding carries708
carries_608 end6 ys = refl
carries_608 (one6 h) ys = carries_608 h ys
carries_608 (two6 h) ys = carries_608 h ys
carries_608 (void6 h) ys = carries_608 h ys

-- so nothing is gathered of it
pub gather_608 : (g : List ℕ) {xs : List Seen} → In608 xs → (ys : List Seen) → gather g (xs ++ ys) ≡ gather g ys
unfolding gather
gather_608 g end6 ys = refl
gather_608 g (one6 h) ys = gather_608 g h ys
gather_608 g (two6 h) ys = gather_608 g h ys
gather_608 g (void6 h) ys = gather_608 g h ys

-- without a valid 708 triple nothing is gathered
pub gather_none : (g : List ℕ) {ys : List Seen} → In708 ys → carries708 ys ≡ false → gather g ys ≡ record { runs = []; bytes = g }
unfolding gather carries708
gather_none g end7 e = refl
gather_none g (start7 h) e = absurd (true≢false e)
gather_none g (more7 h) e = absurd (true≢false e)
gather_none g (void7 h) e = gather_none g h e
