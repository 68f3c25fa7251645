-- Stores into a frame, one after another, and when they fit. Assumes nothing.
use mathlib.Core.Path.{◌≡◌, refl, sym, ap, ◌∙◌}
use mathlib.Core.Bool.{true, false}
use mathlib.Core.List.{List, [], ◌∷◌, ◌++◌, append_assoc}
use Prim.Native.Nat.{ℕ, zero, suc, ◌+◌, ◌-◌, ◌*◌, ◌/◌, ◌%◌, ◌≤◌, ◌<◌}
use native.Mathlib.Nat.{add-zero, add_assoc}
use native.Mathlib.Numerals.{add-one}
use native.Mathlib.Omega.{arith}
use borrow.Author.Tests.{le-leb, lt-leb, leb-true}
use lib.Dec.{leb}
use lib.ListN.{length, take, drop, get_or, set, length-set, length-append, length-replicate}
use lib.Seq.{sets, length-sets, set_at, drop-cons, take-suc, length-take-le}
use Rattle.model.specs.Frame.{Triple, tri, flat}
use Rattle.model.proofs.Cases.{both}
use Rattle.model.proofs.Frames.{flat_length}
use Rattle.basics.proofs.Runs.{sets_front}
use Rattle.writer_frames.specs.Frame.{appended, fits, mark, triples_at, carries, fillers, emitted}
use Rattle.writer_frames.specs.declared.Frame.{Frame}

-- stores that go on where others ended
sets_append : (x y l : List ℕ) (i : ℕ) → sets (sets l i x) (i + length x) y ≡ sets l i (x ++ y)
sets_append [] y l i = rw (add-zero i)
sets_append (v ∷ x) y l i = let e : i + suc (length x) ≡ suc i + length x = omega arith in rw e (sets_append x y (set l i v) (suc i))

-- more, and then more
appended_append : (f : Frame) (x y : List ℕ) → appended (appended f x) y ≡ appended f (x ++ y)
appended_append f x y = rw (sets_append x y f.bytes f.len, length-append x y, add_assoc f.len (length x) (length y))

-- three stores in a row
pub three : (l : List ℕ) (n a b c : ℕ) → set (set (set l n a) (n + 1) b) (n + 2) c ≡ sets l n (a ∷ b ∷ c ∷ [])
three l n a b c = let e : n + 2 ≡ suc (suc n) = omega arith in rw (e, add-one n)

-- the bytes of triples behind others
flat_append : (x y : List Triple) → flat (x ++ y) ≡ flat x ++ flat y
unfolding flat
flat_append [] y = refl
flat_append (tri h a b ∷ x) y = ap (λ (d : List ℕ). h ∷ a ∷ b ∷ d) (flat_append x y)

-- triples behind triples
pub appended_flat : (f : Frame) (x y : List Triple) → appended (appended f (flat x)) (flat y) ≡ appended f (flat (x ++ y))
appended_flat f x y = appended_append f (flat x) (flat y) ∙ ap (appended f) (sym (flat_append x y))

-- whether triples fit, by the tests on the way
module _ (f : Frame) (n : ℕ) where
  -- more triples than any frame has
  pub too_many : 31 < n → false ≡ fits f n
  unfolding fits
  too_many h = simp (lt-leb _ _ h)

  -- the length decides
  pub not_many : n ≤ 31 → leb f.len (95 - 3 * n) ≡ fits f n
  unfolding fits
  not_many h = simp (le-leb _ _ h)

  -- room passes the test
  pub fits_true : f.len + 3 * n ≤ 95 → fits f n ≡ true
  unfolding fits
  fits_true h = let k : n ≤ 31 = omega arith in simp (le-leb _ _ k, le-leb f.len (95 - 3 * n) (omega arith))

  -- what passes the test has room
  pub fits_room : fits f n ≡ true → f.len + 3 * n ≤ 95
  unfolding fits
  fits_room e =
      let t = both (leb n 31) (leb f.len (95 - 3 * n)) e in
      omega (arith, leb-true n 31 t.0, leb-true f.len (95 - 3 * n) t.1)

-- the same of a packet's bytes
pub carries_true : (at n : ℕ) → at + 2 * n ≤ 128 → carries at n ≡ true
unfolding carries
carries_true at n h = simp (le-leb at 128 (omega arith), le-leb (2 * n) (128 - at) (omega arith))

-- a place past the packet
pub past_end : (at n : ℕ) → 128 < at → carries at n ≡ false
unfolding carries
past_end at n h = simp (lt-leb _ _ h)

-- fewer bytes than are asked for
pub not_there : (at n : ℕ) → at ≤ 128 → 128 - at < 2 * n → carries at n ≡ false
unfolding carries
not_there at n h k = simp (le-leb _ _ h, lt-leb _ _ k)

-- the invariant of packet triples that are stored one by one
pub record Storing (d f₀ f : List ℕ) (len at n i : ℕ) : Type 0 where
  pub some : i ≤ n
  pub size : length f ≡ length f₀
  pub same : sets f (len + 3 * i) (flat (triples_at (n - i) (at + 2 * i) d)) ≡ sets f₀ len (flat (triples_at n at d))

-- before the first
pub storing_none : (d f : List ℕ) (len at n : ℕ) → Storing d f f len at n 0
storing_none d f len at n = let z : n - 0 ≡ n = omega arith in record { some = omega arith; size = refl; same = rw (add-zero len, add-zero at, z) }

-- one triple more
pub storing_more : (d f₀ f g : List ℕ) (len at n i : ℕ) → i < n → Storing d f₀ f len at n i
    → g ≡ sets f (len + 3 * i) (mark (at + 2 * i) ∷ get_or d (at + 2 * i) 0 ∷ get_or d (at + 2 * i + 1) 0 ∷ []) → Storing d f₀ g len at n (i + 1)
unfolding triples_at flat
storing_more d f₀ f g len at n i lt s e =
    let to : len + 3 * (i + 1) ≡ suc (suc (suc (len + 3 * i))) = omega arith in
    let on : at + 2 * (i + 1) ≡ at + 2 * i + 2 = omega arith in
    let one : n - i ≡ suc (n - (i + 1)) = omega arith in
    record {
      some = omega arith;
      size = rw e (length-sets f (len + 3 * i) (mark (at + 2 * i) ∷ get_or d (at + 2 * i) 0 ∷ get_or d (at + 2 * i + 1) 0 ∷ []) ∙ s.size);
      same = rw (e, to, on) (rw one at s.same);
    }

-- as many triples as were asked for
triples_length : (n at : ℕ) (d : List ℕ) → length (triples_at n at d) ≡ n
unfolding triples_at
triples_length zero at d = refl
triples_length (suc n) at d = ap suc (triples_length n (at + 2) d)

-- after the last
pub storing_done : (d f g : List ℕ) (len at n i : ℕ) → n ≤ i → Storing d f g len at n i → g ≡ sets f len (flat (triples_at n at d))
unfolding triples_at flat
storing_done d f g len at n i done s = let e : n - i ≡ 0 = omega arith in rw e at s.same

-- the frame with them
pub with_triples : (d : List ℕ) (f : Frame) (g : List ℕ) (at n : ℕ) → g ≡ sets f.bytes f.len (flat (triples_at n at d))
    → ◌≡◌ {A = Frame} (record { bytes = g; len = f.len + 3 * n }) (appended f (flat (triples_at n at d)))
with_triples d f g at n z =
    let l : length (flat (triples_at n at d)) ≡ 3 * n = flat_length (triples_at n at d) ∙ ap (λ j. 3 * j) (triples_length n at d) in
    rw (l, z)

-- the invariant of padding that is stored triple by triple
pub record Filling (f₀ f : List ℕ) (from at to n : ℕ) : Type 0 where
  pub some : at ≤ to
  pub whole : (to - at) % 3 ≡ 0
  pub size : length f ≡ 95
  pub same : sets f at (flat (fillers ((to - at) / 3))) ≡ sets f₀ from (flat (fillers n))

-- before the first
pub filling_none : (f : List ℕ) (at n : ℕ) → length f ≡ 95 → Filling f f at at (at + 3 * n) n
filling_none f at n l = let e : (at + 3 * n - at) / 3 ≡ n = omega arith in record { some = omega arith; whole = omega arith; size = l; same = rw e }

-- one triple of padding in front
fill_more : (f : List ℕ) (at n : ℕ) → 1 ≤ n → sets (set (set (set f at 0xFA) (at + 1) 0) (at + 2) 0) (at + 3) (flat (fillers (n - 1))) ≡ sets f at (flat (fillers n))
unfolding flat
fill_more f at zero h = absurd (omega arith)
fill_more f at (suc n) h =
    let e : suc n - 1 ≡ n = omega arith in
    let k : at + 3 ≡ suc (suc (suc at)) = omega arith in
    rw (three f at 0xFA 0 0, e, k)

-- one triple more
pub filling_more : (f₀ f : List ℕ) (from at to n : ℕ) → at < to → Filling f₀ f from at to n → Filling f₀ (set (set (set f at 0xFA) (at + 1) 0) (at + 2) 0) from (at + 3) to n
filling_more f₀ f from at to n lt w =
    let g = w.whole in
    let e : (to - (at + 3)) / 3 ≡ (to - at) / 3 - 1 = omega arith in
    record {
      some = omega arith;
      whole = omega arith;
      size = simp length-set w.size;
      same = rw e (fill_more f at ((to - at) / 3) (omega arith) ∙ w.same);
    }

-- after the last
pub filling_done : (f g : List ℕ) (len at n : ℕ) → len + 3 * n ≤ at → Filling f g len at (len + 3 * n) n → g ≡ sets f len (flat (fillers n))
unfolding flat
filling_done f g len at n done w = let e : (len + 3 * n - at) / 3 ≡ 0 = omega arith in rw e at w.same

-- the frame with it
pub with_fillers : (f : Frame) (g : List ℕ) (n : ℕ) → g ≡ sets f.bytes f.len (flat (fillers n))
    → ◌≡◌ {A = Frame} (record { bytes = g; len = f.len + 3 * n }) (appended f (flat (fillers n)))
with_fillers f g n z =
    let l : length (flat (fillers n)) ≡ 3 * n = flat_length (fillers n) ∙ ap (λ j. 3 * j) (length-replicate n (tri 0xFA 0x00 0x00)) in
    rw (l, z)

module _ (f : Frame) (out : List ℕ) where
  -- a length that no frame has
  pub emitted_long : 95 < f.len → out ≡ emitted f out
  unfolding emitted
  emitted_long h = simp (lt-leb _ _ h)

  -- the output is too short
  pub emitted_short : f.len ≤ 95 → length out < f.len → out ≡ emitted f out
  unfolding emitted
  emitted_short h k = simp (le-leb _ _ h, lt-leb _ _ k)

  -- the frame fits
  pub emitted_whole : f.len ≤ 95 → f.len ≤ length out → take f.len f.bytes ++ drop f.len out ≡ emitted f out
  unfolding emitted
  emitted_whole h k = simp (le-leb _ _ h, le-leb _ _ k)

  -- laid at its front
  pub emitted_laid : f.len ≤ 95 → f.len ≤ length out → length f.bytes ≡ 95 → sets out 0 (take f.len f.bytes) ≡ emitted f out
  emitted_laid h k z =
      let n : length (take f.len f.bytes) ≡ f.len = length-take-le f.len f.bytes (omega (arith, z)) in
      sets_front out (take f.len f.bytes) (omega (arith, n)) ∙ rw n (emitted_whole h k)
