-- Written blocks, one after another: one law for each way out of the walk over them. Assumes nothing.
use mathlib.Core.Path.{◌≡◌, refl, sym, ap, ◌∙◌}
use mathlib.Core.Bool.{Bool, true, false, not, ◌&&◌, ◌||◌}
use mathlib.Core.List.{List, [], ◌∷◌}
use Prim.Native.Nat.{ℕ, zero, suc, ◌+◌, ◌-◌, ◌/◌, ◌%◌, ◌≤◌, ◌<◌}
use native.Mathlib.Nat.{add-zero}
use native.Mathlib.Numerals.{add-one}
use native.Mathlib.Omega.{arith}
use borrow.Author.Tests.{eq-eqb, ne_eqb, le-leb, lt-leb, lt-ltb, le-ltb}
use lib.Dec.{eqb, leb}
use lib.ListN.{length, get_or, take, drop, length-drop, drop_of_length-le}
use lib.Seq.{drop-cons, drop-drop, get_or-drop}
use Rattle.slots.specs.Walk.{block_span, whole_blocks, framed_slot, walked_slot}
use Rattle.slots.specs.declared.Slot.{Slot}

-- the span of a block, by the tests on the way
module _ (h n : ℕ) where
  -- no payload
  pub span_empty : h % 32 ≡ 0 → 0 ≡ block_span h n
  unfolding block_span
  span_empty e = simp (eq-eqb _ _ e)

  -- no number
  pub span_null : (h % 32 ≡ 0 → ⊥) → h / 32 ≡ 0 → 0 ≡ block_span h n
  unfolding block_span
  span_null a e = simp (ne_eqb _ _ a, eq-eqb _ _ e)

  module _ (a : h % 32 ≡ 0 → ⊥) (b : h / 32 ≡ 0 → ⊥) where
    -- one header byte
    pub span_short : h / 32 < 7 → 1 + h % 32 ≡ block_span h n
    unfolding block_span
    span_short c = simp (ne_eqb _ _ a, ne_eqb _ _ b, lt-ltb _ _ c)

    module _ (byte : h < 256) (c : 7 ≤ h / 32) where
      -- seven in the top bits
      top : h / 32 ≡ 7
      top = omega arith

      -- a second byte below 7
      pub span_low : n < 7 → 0 ≡ block_span h n
      unfolding block_span
      span_low d = simp (ne_eqb _ _ a, ne_eqb _ _ b, le-ltb _ _ c, eq-eqb _ _ top, lt-leb _ _ d)

      -- a second byte above 63
      pub span_high : 7 ≤ n → 63 < n → 0 ≡ block_span h n
      unfolding block_span
      span_high d e = simp (ne_eqb _ _ a, ne_eqb _ _ b, le-ltb _ _ c, eq-eqb _ _ top, le-leb _ _ d, lt-leb _ _ e)

      -- two header bytes
      pub span_long : 7 ≤ n → n ≤ 63 → 2 + h % 32 ≡ block_span h n
      unfolding block_span
      span_long d e = simp (ne_eqb _ _ a, ne_eqb _ _ b, le-ltb _ _ c, eq-eqb _ _ top, le-leb _ _ d, le-leb _ _ e)

-- bytes that are passed
pub whole_passed : (k : ℕ) (d : List ℕ) → k ≤ length d → whole_blocks k d ≡ whole_blocks 0 (drop k d)
unfolding whole_blocks
whole_passed zero d h = refl
whole_passed (suc k) [] h = absurd (omega arith)
whole_passed (suc k) (x ∷ d) h = whole_passed k d (omega arith)

-- more bytes to pass than there are
pub whole_over : (k : ℕ) (d : List ℕ) → length d < k → whole_blocks k d ≡ false
unfolding whole_blocks
whole_over zero d h = absurd (omega arith)
whole_over (suc k) [] h = refl
whole_over (suc k) (x ∷ d) h = whole_over k d (omega arith)

module _ (d : List ℕ) (at m : ℕ) (lt : at < length d) (e : m ≡ block_span (get_or d at 0) (get_or d (at + 1) 0)) where
  -- the block at the place reached
  here : whole_blocks 0 (drop at d) ≡ not (eqb m 0) && whole_blocks (m - 1) (drop (at + 1) d)
  unfolding whole_blocks
  here =
      let g : get_or (drop (suc at) d) 0 0 ≡ get_or d (suc at) 0 = get_or-drop (suc at) d 0 0 ∙ ap (λ k. get_or d k 0) (add-zero (suc at)) in
      let z : m ≡ block_span (get_or d at 0) (get_or d (suc at) 0) = rw (add-one at) at e in
      rw (add-one at, drop-cons d at 0 lt, g, ← z)

  -- no written block starts here
  pub whole_none : m ≡ 0 → false ≡ whole_blocks 0 (drop at d)
  whole_none z = sym (here ∙ rw (eq-eqb m 0 z))

  -- it is not all there
  pub whole_short : (m ≡ 0 → ⊥) → length d - at < m → false ≡ whole_blocks 0 (drop at d)
  whole_short z h =
      sym (here ∙ rw (ne_eqb m 0 z, whole_over (m - 1) (drop (at + 1) d) (simp length-drop (omega arith))))

  -- the next block
  pub whole_next : (m ≡ 0 → ⊥) → m ≤ length d - at → whole_blocks 0 (drop (at + m) d) ≡ whole_blocks 0 (drop at d)
  whole_next z h =
      let s : at + 1 + (m - 1) ≡ at + m = omega arith in
      sym (here ∙ rw (ne_eqb m 0 z, whole_passed (m - 1) (drop (at + 1) d) (simp length-drop (omega arith)), drop-drop (m - 1) (at + 1) d, s))

-- no bytes are left
pub whole_all : (d : List ℕ) (at : ℕ) → length d ≤ at → true ≡ whole_blocks 0 (drop at d)
unfolding whole_blocks
whole_all d at h = rw (drop_of_length-le d {i = at} h)

-- the tests of a slot
module _ (s : Slot) where
  -- too short for a block
  pub too_short : s.len < 3 → false ≡ walked_slot s
  unfolding walked_slot
  too_short h = simp (lt-leb _ _ h)

  -- longer than any packet
  pub too_long : 3 ≤ s.len → 128 < s.len → false ≡ walked_slot s
  unfolding walked_slot
  too_long a h = simp (le-leb _ _ a, lt-leb _ _ h)

  module _ (a : 3 ≤ s.len) (b : s.len ≤ 128) where
    -- the header tells another length
    pub wrong_header : (get_or s.bytes 0 0 % 64 ≡ (s.len + 1) / 2 % 64 → ⊥) → false ≡ walked_slot s
    unfolding walked_slot framed_slot
    wrong_header h = simp (le-leb _ _ a, le-leb _ _ b, ne_eqb _ _ h)

    module _ (h : get_or s.bytes 0 0 % 64 ≡ (s.len + 1) / 2 % 64) (byte : get_or s.bytes 0 0 < 256) where
      -- the header is a byte
      small : leb (get_or s.bytes 0 0) 255 ≡ true
      small = le-leb (get_or s.bytes 0 0) 255 (omega arith)

      -- an odd length is not followed by 0x00
      pub wrong_fill : s.len % 2 ≡ 1 → (get_or s.bytes s.len 0 ≡ 0 → ⊥) → false ≡ walked_slot s
      unfolding walked_slot framed_slot
      wrong_fill o f = simp (le-leb _ _ a, le-leb _ _ b, eq-eqb _ _ h, small, ne_eqb (s.len % 2) 0 (λ z. omega arith), ne_eqb _ _ f)

      -- the blocks decide
      pub by_blocks : {r : Bool} → length s.bytes ≡ 128 → (eqb (s.len % 2) 0 || eqb (get_or s.bytes s.len 0) 0) ≡ true
          → r ≡ whole_blocks 0 (drop 1 (take s.len s.bytes)) → r ≡ walked_slot s
      unfolding walked_slot framed_slot
      by_blocks full f e =
          let k : leb (s.len + s.len % 2) (length s.bytes) ≡ true = le-leb (s.len + s.len % 2) (length s.bytes) (omega arith) in
          e ∙ simp (le-leb _ _ a, le-leb _ _ b, eq-eqb _ _ h, small, f, k)

  -- an even length needs no filling
  pub even_fill : (s.len % 2 ≡ 1 → ⊥) → (eqb (s.len % 2) 0 || eqb (get_or s.bytes s.len 0) 0) ≡ true
  even_fill h = simp (eq-eqb (s.len % 2) 0 (omega arith))

  -- 0x00 fills an odd length
  pub zero_fill : get_or s.bytes s.len 0 ≡ 0 → (eqb (s.len % 2) 0 || eqb (get_or s.bytes s.len 0) 0) ≡ true
  zero_fill h = simp (eq-eqb _ _ h) (or_true (eqb (s.len % 2) 0))
    where
      -- either is enough
      or_true : (x : Bool) → x || true ≡ true
      or_true true = refl
      or_true false = refl

-- nothing stands past the first n
pub taken_past : (n : ℕ) (d : List ℕ) (i : ℕ) → n ≤ i → get_or (take n d) i 0 ≡ 0
taken_past zero d i h = refl
taken_past (suc n) [] i h = refl
taken_past (suc n) (x ∷ d) zero h = absurd (omega arith)
taken_past (suc n) (x ∷ d) (suc i) h = taken_past n d i (omega arith)
