-- Bytes that are told apart by marks: runs with a 1 at one byte and a 0 at all others, and that a list of bytes is known by the places of the marks.
-- Assumes nothing.
use mathlib.Core.Path.{◌≡◌, refl, sym, ap, ap₂, ◌∙◌}
use mathlib.Core.Bool.{true, cond, ◌&&◌}
use mathlib.Core.List.{List, [], ◌∷◌, map}
use Prim.Native.Nat.{ℕ, zero, suc, ◌+◌, ◌<◌}
use native.Mathlib.Omega.{arith}
use lib.Dec.{eqb}
use lib.ListN.{length, get_or, drop, length-map}
use borrow.Author.Tests.{eq-eqb, eqb-true}
use Rattle.model.specs.Lists.{every}
use Rattle.model.proofs.Cases.{by_test, both, and_both}
use Rattle.model.proofs.Distribution.{is_byte}
use Rattle.model_packing.specs.Pieces.{Byte, byte, count_from, In, here, there}
use Rattle.model_packing.proofs.Lists.{in_every, map_in}
use Rattle.model_packing.proofs.Bytes.{bytes_from}

-- 1 at one byte, 0 at all others
unfoldable pub mark : Byte → Byte → ℕ
mark y x = cond (eqb x.run y.run && eqb x.place y.place) 1 0

-- the byte itself has a 1,
pub mark_itself : (x : Byte) → mark x x ≡ 1
unfolding mark
mark_itself x = rw (eq-eqb x.run x.run refl, eq-eqb x.place x.place refl)

-- and no other byte has
pub mark_alone : (y x : Byte) → mark y x ≡ 1 → x ≡ y
unfolding mark
mark_alone y x e =
    by_test (eqb x.run y.run && eqb x.place y.place)
    (λ t. let f = both _ _ t in ap₂ byte (eqb-true _ _ f.0) (eqb-true _ _ f.1))
    (λ t. absurd (omega (arith, rw t at e)))

-- a mark is a byte
pub mark_byte : (y x : Byte) → is_byte (mark y x) ≡ true
unfolding mark
mark_byte y x = by_test (eqb x.run y.run && eqb x.place y.place) (λ t. rw t) (λ t. rw t)

-- two functions that agree on the elements
pub map_same : {A B : Type 0} (f g : A → B) (l : List A) → ((x : A) → In x l → f x ≡ g x) → map f l ≡ map g l
map_same f g [] e = refl
map_same f g (x ∷ l) e = ap₂ ◌∷◌ (e x (here refl)) (map_same f g l (λ y i. e y (there i)))

-- lists with the same marks, whichever of their elements is marked, are the same
pub same_by_marks : (l m : List Byte) → ((y : Byte) → In y l → map (mark y) l ≡ map (mark y) m) → ((y : Byte) → In y m → map (mark y) l ≡ map (mark y) m) → l ≡ m
same_by_marks [] [] e d = refl
same_by_marks [] (y ∷ m) e d = absurd (omega (arith, ap (λ (k : List ℕ). length k) (d y (here refl))))
same_by_marks (x ∷ l) [] e d = absurd (omega (arith, ap (λ (k : List ℕ). length k) (e x (here refl))))
same_by_marks (x ∷ l) (y ∷ m) e d =
    ap₂ ◌∷◌ (sym (mark_alone x y (sym (ap (λ (k : List ℕ). get_or k 0 0) (e x (here refl))) ∙ mark_itself x)))
    (same_by_marks l m (λ z i. ap (drop 1) (e z (there i))) (λ z i. ap (drop 1) (d z (there i))))

-- so many numbers are so many
count_length : (a n : ℕ) → length (count_from a n) ≡ n
unfolding count_from
count_length a zero = refl
count_length a (suc n) = ap suc (count_length (suc a) n)

module _ (f : Byte → ℕ) where
  -- runs of such lengths, counted from run r, with what f says of each byte
  unfoldable pub filled_from : ℕ → List ℕ → List (List ℕ)
  filled_from r [] = []
  filled_from r (n ∷ l) = map f (bytes_from r 0 n) ∷ filled_from (suc r) l

  -- they have these lengths
  pub filled_lengths : (r : ℕ) (l : List ℕ) → map length (filled_from r l) ≡ l
  unfolding filled_from
  filled_lengths r [] = refl
  filled_lengths r (n ∷ l) =
      ap₂ ◌∷◌ (length-map (bytes_from r 0 n) f ∙ length-map (count_from 0 n) (byte r) ∙ count_length 0 n) (filled_lengths (suc r) l)

  -- a part of a run has the numbers that f says,
  part_filled : (r a n k : ℕ) → k < n → get_or (map f (bytes_from r a n)) k 0 ≡ f (byte r (a + k))
  unfolding count_from
  part_filled r a zero k h = absurd (omega arith)
  part_filled r a (suc n) zero h = ap (λ (m : ℕ). f (byte r m)) (omega arith)
  part_filled r a (suc n) (suc k) h = part_filled r (suc a) n k (omega arith) ∙ ap (λ (m : ℕ). f (byte r m)) (omega arith)

  -- and so have all runs
  pub filled_number : (a : ℕ) (l : List ℕ) (r k : ℕ) → k < get_or l r 0 → get_or (get_or (filled_from a l) r []) k 0 ≡ f (byte (a + r) k)
  unfolding filled_from
  filled_number a [] r k h = absurd (omega arith)
  filled_number a (n ∷ l) zero k h = part_filled a 0 n k h ∙ ap₂ (λ (i j : ℕ). f (byte i j)) (omega arith) (omega arith)
  filled_number a (n ∷ l) (suc r) k h = filled_number (suc a) l r k h ∙ ap (λ (m : ℕ). f (byte m k)) (omega arith)

  -- if these are bytes, all of them are
  pub filled_bytes : ((x : Byte) → is_byte (f x) ≡ true) → (r : ℕ) (l : List ℕ) → every (every is_byte) (filled_from r l) ≡ true
  unfolding filled_from every
  filled_bytes b r [] = refl
  filled_bytes b r (n ∷ l) =
      and_both _ _ (in_every is_byte (map f (bytes_from r 0 n)) (λ v i. let t = map_in f (bytes_from r 0 n) i in ap is_byte t.2 ∙ b t.0)) (filled_bytes b (suc r) l)
