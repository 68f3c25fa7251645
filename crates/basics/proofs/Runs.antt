-- Runs of bytes laid into a list, one behind another and past its end. Assumes nothing.
use mathlib.Core.Path.{◌≡◌, refl, sym, ap, ◌∙◌}
use mathlib.Core.List.{List, [], ◌∷◌, ◌++◌, append-nil, append_assoc}
use Prim.Native.Nat.{ℕ, suc, ◌+◌, ◌-◌, ◌≤◌, ◌<◌, min}
use native.Mathlib.Nat.{add-zero, zero-add}
use native.Mathlib.Numerals.{add-one}
use native.Mathlib.Omega.{arith}
use lib.Dec.{leb}
use lib.ListN.{length, take, drop, get_or, set, take-append-drop, drop_of_length-le}
use lib.Seq.{sets, length-sets, sets-eq, set_out, take-suc, length-take-le, drop-drop}
use borrow.Author.Tests.{leb-true, leb-false}
use Rattle.model.proofs.Cases.{by_test}

-- one run behind another
pub sets_append : (vs ws l : List ℕ) (i : ℕ) → sets l i (vs ++ ws) ≡ sets (sets l i vs) (i + length vs) ws
sets_append [] ws l i = rw add-zero
sets_append (v ∷ vs) ws l i =
    let e : i + suc (length vs) ≡ suc i + length vs = omega arith in
    rw e (sets_append vs ws (set l i v) (suc i))

-- a run past the end changes nothing
pub sets_past : (vs l : List ℕ) (i : ℕ) → length l ≤ i → sets l i vs ≡ l
sets_past [] l i h = refl
sets_past (v ∷ vs) l i h = rw (set_out l i v) (sets_past vs l (suc i) (omega arith))

-- a run laid from the front
pub sets_front : (l vs : List ℕ) → length vs ≤ length l → sets l 0 vs ≡ vs ++ drop (length vs) l
sets_front l vs h = sets-eq vs l 0 (omega arith) ∙ rw zero-add

-- the front of a list laid over itself changes nothing
pub sets_own : (l : List ℕ) (k : ℕ) → k ≤ length l → sets l 0 (take k l) ≡ l
sets_own l k h =
    let n : length (take k l) ≡ k = length-take-le k l h in
    sets_front l (take k l) (omega arith) ∙ rw n (take-append-drop k l)

-- a run behind it is laid there
pub sets_behind : (l run : List ℕ) (k : ℕ) → k ≤ length l → sets l 0 (take k l ++ run) ≡ sets l k run
sets_behind l run k h =
    let n : length (take k l) ≡ k = length-take-le k l h in
    sets_append (take k l) run l 0 ∙ rw (sets_own l k h, n, zero-add)

module _ (l src : List ℕ) (at : ℕ) where
  -- one byte more
  pub sets_more : (i : ℕ) → i < length src → set (sets l at (take i src)) (at + i) (get_or src i 0) ≡ sets l at (take (i + 1) src)
  sets_more i lt =
      let e : length (take i src) ≡ i = length-take-le i src (omega arith) in
      rw (add-one i, take-suc src i 0, sets_append (take i src) (get_or src i 0 ∷ []) l at, e)

  -- as many bytes as there is room for are the whole run
  pub sets_all : (k : ℕ) (out : List ℕ) → at < length l → k ≡ min (length l - at) (length src) → out ≡ sets l at (take k src) → out ≡ sets l at src
  sets_all k out lt e h =
      let t : length (take k src) ≡ k = length-take-le k src (omega arith) in
      h
      ∙ by_test (leb (length src) k)
      (λ q. let z : drop k src ≡ [] = drop_of_length-le src (leb-true _ _ q) in ap (sets l at) (sym (sets_whole k z)))
      (λ q. let far : length (sets l at (take k src)) ≤ at + length (take k src) = rw (length-sets l at (take k src), t) (omega (arith, leb-false (length src) k q)) in
      sym (sets_past (drop k src) (sets l at (take k src)) (at + length (take k src)) far) ∙ sym (sets_append (take k src) (drop k src) l at) ∙ ap (sets l at) (take-append-drop k src))
    where
      sets_whole : (k : ℕ) → drop k src ≡ [] → src ≡ take k src
      sets_whole k z = sym (take-append-drop k src) ∙ rw z (append-nil (take k src))

-- a part overwritten whole, as `copy_from_slice` leaves it, is a run laid there
pub part_laid : (l now src : List ℕ) (at k : ℕ) → now ≡ src → k ≡ length src → at + length src ≤ length l
    → take at l ++ (now ++ drop k (drop at l)) ≡ sets l at src
part_laid l now src at k e f h = rw (e, f, drop-drop (length src) at l) (sym (sets-eq src l at h ∙ append_assoc (take at l) src (drop (at + length src) l)))
