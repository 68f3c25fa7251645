-- The bytes of all runs, one after the other: what is left of them from a byte of a run on. Assumes nothing.
use mathlib.Core.Path.{◌≡◌, refl, sym, ap, ◌∙◌}
use mathlib.Core.Bool.{Bool, true, false, not, ◌&&◌}
use mathlib.Core.List.{List, [], ◌∷◌, ◌++◌, map, flat_map}
use Prim.Native.Nat.{ℕ, zero, suc, ◌+◌, ◌-◌, ◌*◌, ◌≤◌, ◌<◌}
use native.Mathlib.Omega.{arith}
use lib.ListN.{length, get_or, length-append, set}
use borrow.Author.Tests.{not-true, not-false, lt-ltb, le-ltb}
use Rattle.model.specs.Lists.{every}
use Rattle.model_packing.specs.Pieces.{Byte, byte, count_from, run_bytes, bytes_of}
use Rattle.packing_bytes.specs.Table.{has_holder, one_block, beside_first, follows, follow}

-- the bytes of m runs from run r on, without the first k bytes of this one
unfoldable pub bytes_from : List ℕ → ℕ → ℕ → ℕ → List Byte
bytes_from lengths zero r k = []
bytes_from lengths (suc m) r k = map (byte r) (count_from k (get_or lengths r 0 - k)) ++ flat_map (run_bytes lengths) (count_from (suc r) m)

-- without none of its bytes they are the bytes of these runs
from_start : (lengths : List ℕ) (m r : ℕ) → flat_map (run_bytes lengths) (count_from r m) ≡ bytes_from lengths m r 0
unfolding count_from run_bytes flat_map bytes_from
from_start lengths zero r = refl
from_start lengths (suc m) r = let z : get_or lengths r 0 - 0 ≡ get_or lengths r 0 = omega arith in rw z

-- how many bytes a run has
run_length : (lengths : List ℕ) (r : ℕ) → length (run_bytes lengths r) ≡ get_or lengths r 0
unfolding run_bytes count_from
run_length lengths r = counted 0 (get_or lengths r 0)
  where
    counted : (a n : ℕ) → length (map (byte r) (count_from a n)) ≡ n
    counted a zero = refl
    counted a (suc n) = ap suc (counted (suc a) n)

module _ (services lengths : List ℕ) where
  -- what is left from byte k of run r on
  abbrev pub bytes_left : ℕ → ℕ → List Byte
  bytes_left r k = bytes_from lengths (length services - r) r k

  -- at first all bytes
  pub bytes_first : bytes_of services lengths ≡ bytes_left 0 0
  unfolding bytes_of
  bytes_first = let z : length services - 0 ≡ length services = omega arith in rw z (from_start lengths (length services) 0)

  module _ (r k : ℕ) where
    -- behind the last run, none
    pub bytes_none : length services ≤ r → bytes_left r k ≡ []
    unfolding bytes_from
    bytes_none h = let z : length services - r ≡ 0 = omega arith in rw z

    module _ (h : r < length services) where
      -- this run, and the others
      runs_left : length services - r ≡ suc (length services - (r + 1))
      runs_left = omega arith

      -- behind the last byte of a run, those of the next
      pub bytes_next : get_or lengths r 0 ≤ k → bytes_left r k ≡ bytes_left (r + 1) 0
      unfolding count_from bytes_from
      bytes_next g =
          let z : get_or lengths r 0 - k ≡ 0 = omega arith in
          let w : r + 1 ≡ suc r = omega arith in
          rw (runs_left, z, w) (from_start lengths (length services - suc r) (suc r))

      -- and else the byte, and those behind it
      pub bytes_more : k < get_or lengths r 0 → bytes_left r k ≡ byte r k ∷ bytes_left r (k + 1)
      unfolding count_from bytes_from
      bytes_more g =
          let z : get_or lengths r 0 - k ≡ suc (get_or lengths r 0 - (k + 1)) = omega arith in
          let w : k + 1 ≡ suc k = omega arith in
          rw (runs_left, z, w)

  -- what is left of a test of every byte
  pub every_first : (test : Byte → Bool) → every test (bytes_of services lengths) ≡ every test (bytes_left 0 0)
  every_first test = ap (every test) bytes_first

  module _ (test : Byte → Bool) (whole : Bool) (r k : ℕ) (e : whole ≡ every test (bytes_left r k)) where
    pub every_done : length services ≤ r → true ≡ whole
    unfolding every
    every_done h = sym (e ∙ rw (bytes_none r k h))

    -- of a run with m bytes
    module _ (h : r < length services) (m : ℕ) (is : m ≡ get_or lengths r 0) where
      pub every_next : m ≤ k → whole ≡ every test (bytes_left (r + 1) 0)
      every_next g = e ∙ ap (every test) (bytes_next r k h (omega arith))

      every_here : k < m → whole ≡ test (byte r k) && every test (bytes_left r (k + 1))
      unfolding every
      every_here g = e ∙ ap (every test) (bytes_more r k h (omega arith))

      -- a byte that passes
      pub every_more : k < m → test (byte r k) ≡ true → whole ≡ every test (bytes_left r (k + 1))
      every_more g t = every_here g ∙ rw t

      -- and one that does not
      pub every_stops : k < m → test (byte r k) ≡ false → false ≡ whole
      every_stops g t = sym (every_here g ∙ rw t)

  -- what is left of the test whether each byte has a holder
  module _ (t : List ℕ) (whole : Bool) (r k : ℕ) (e : whole ≡ every (has_holder t) (bytes_left r k)) (h : r < length services)
      (m : ℕ) (is : m ≡ get_or lengths r 0) (g : k < m)
    where
      pub held_more : (get_or t (256 * r + k) 0 ≡ 0 → ⊥) → whole ≡ every (has_holder t) (bytes_left r (k + 1))
      unfolding has_holder
      held_more f = every_more (has_holder t) whole r k e h m is g (lt-ltb 0 (get_or t (256 * r + k) 0) (omega arith))

      pub held_stops : get_or t (256 * r + k) 0 ≡ 0 → false ≡ whole
      unfolding has_holder
      held_stops f = every_stops (has_holder t) whole r k e h m is g (le-ltb 0 (get_or t (256 * r + k) 0) (omega arith))

  -- what is left of the test whether each byte is in the block of the first one of its run
  module _ (l t : List ℕ) (whole : Bool) (r k : ℕ) (e : whole ≡ every (beside_first l t) (bytes_left r k)) (h : r < length services)
      (m : ℕ) (is : m ≡ get_or lengths r 0) (g : k < m) (b : Bool) (one : b ≡ one_block l (get_or t (256 * r + k) 0) (get_or t (256 * r) 0))
    where
      beside_is : beside_first l t (byte r k) ≡ b
      unfolding beside_first
      beside_is = let z : 256 * r + 0 ≡ 256 * r = omega arith in rw z (sym one)

      pub beside_more : not b ≡ false → whole ≡ every (beside_first l t) (bytes_left r (k + 1))
      beside_more f = every_more (beside_first l t) whole r k e h m is g (beside_is ∙ not-false b f)

      pub beside_stops : not b ≡ true → false ≡ whole
      beside_stops f = every_stops (beside_first l t) whole r k e h m is g (beside_is ∙ not-true b f)

  -- what is left of the test of their order
  pub follow_first : (l t last : List ℕ) → follow services l t last (bytes_of services lengths) ≡ follow services l t last (bytes_left 0 0)
  follow_first l t last = ap (follow services l t last) bytes_first

  module _ (l t last : List ℕ) (whole : Bool) (r k : ℕ) (e : whole ≡ follow services l t last (bytes_left r k)) where
    pub follow_done : length services ≤ r → true ≡ whole
    unfolding follow
    follow_done h = sym (e ∙ rw (bytes_none r k h))

    module _ (h : r < length services) (m : ℕ) (is : m ≡ get_or lengths r 0) where
      pub follow_next : m ≤ k → whole ≡ follow services l t last (bytes_left (r + 1) 0)
      follow_next g = e ∙ ap (follow services l t last) (bytes_next r k h (omega arith))

      module _ (g : k < m) (s : ℕ) (of : s ≡ get_or services r 0) (b : Bool) (kept_is : b ≡ follows l (get_or last s 0) (get_or t (256 * r + k) 0)) where
        follow_here : whole ≡ b && follow services l t (set last s (get_or t (256 * r + k) 0)) (bytes_left r (k + 1))
        unfolding follow
        follow_here = e ∙ ap (follow services l t last) (bytes_more r k h (omega arith)) ∙ rw (kept_is, of)

        pub follow_more : not b ≡ false → whole ≡ follow services l t (set last s (get_or t (256 * r + k) 0)) (bytes_left r (k + 1))
        follow_more f = follow_here ∙ rw (not-false b f)

        pub follow_stops : not b ≡ true → false ≡ whole
        follow_stops f = sym (follow_here ∙ rw (not-true b f))

  -- how many bytes are left, run by run
  pub length_first : length (bytes_of services lengths) ≡ 0 + length (bytes_left 0 0)
  length_first = let z = ap length bytes_first in omega arith

  module _ (r whole sum : ℕ) (e : whole ≡ sum + length (bytes_left r 0)) where
    pub length_more : r < length services → (n : ℕ) → n ≡ get_or lengths r 0 → whole ≡ sum + n + length (bytes_left (r + 1) 0)
    unfolding run_bytes bytes_from
    length_more h n is =
        let w : r + 1 ≡ suc r = omega arith in
        let z : get_or lengths r 0 - 0 ≡ get_or lengths r 0 = omega arith in
        let a : length (bytes_left r 0) ≡ n + length (bytes_left (r + 1) 0) =
        rw (runs_left r 0 h, z, is, w) (length-append (run_bytes lengths r) (flat_map (run_bytes lengths) (count_from (suc r) (length services - suc r)))
        ∙ rw (run_length lengths r, from_start lengths (length services - suc r) (suc r))) in
        omega arith

    pub length_done : length services ≤ r → sum ≡ whole
    length_done h = let z : length (bytes_left r 0) ≡ 0 = ap length (bytes_none r 0 h) in omega arith
