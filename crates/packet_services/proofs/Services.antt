-- The set of the first numbers, one number further. Assumes nothing.
use mathlib.Core.Path.{◌≡◌, sym, ap, ◌∙◌}
use mathlib.Core.List.{List, ◌∷◌}
use Prim.Native.Nat.{ℕ, ◌+◌, ◌^◌, ◌≤◌, ◌<◌}
use native.Mathlib.Numerals.{add-one}
use native.Mathlib.Omega.{arith}
use borrow.Author.Tests.{lt-ltb, le-ltb, ltb-true, ltb-false}
use lib.Bits.{bit_or}
use lib.Dec.{ltb}
use lib.ListN.{length, take, get_or}
use lib.Seq.{take-suc}
use Rattle.model.specs.Services.{bits_of}
use Rattle.model.proofs.Cases.{by_test}
use Rattle.model.proofs.Services.{bits_none, bits_past, bits_with, bits_last}
use Rattle.packet_services.specs.Services.{with_number, services_to}

-- a number above 63 has no bit
pub with_none : (set n : ℕ) → 63 < n → set ≡ with_number set n
unfolding with_number
with_none set n h = simp (lt-ltb 63 n h)

pub with_one : (set n : ℕ) → n ≤ 63 → bit_or set (2 ^ n) ≡ with_number set n
unfolding with_number
with_one set n h = simp (le-ltb 63 n h)

-- the set of the first numbers
module _ (ns : List ℕ) where
  -- of none
  pub set_first : 0 ≡ bits_of 64 (take 0 ns)
  set_first = sym (bits_none 64)

  -- of one more
  pub set_next : (i s r : ℕ) → i < length ns → s ≡ bits_of 64 (take i ns) → r ≡ with_number s (get_or ns i 0) → r ≡ bits_of 64 (take (i + 1) ns)
  set_next i s r h e q =
      let n : ℕ = get_or ns i 0 in
      let more : bits_of 64 (take (i + 1) ns) ≡ bits_of 64 (n ∷ take i ns) = ap (λ (k : ℕ). bits_of 64 (take k ns)) (add-one i) ∙ ap (bits_of 64) (take-suc ns i 0 h) ∙ bits_last 64 (take i ns) n in
      q ∙ ap (λ (x : ℕ). with_number x n) e ∙ by_test (ltb 63 n)
      (λ t. let l : 63 < n = ltb-true 63 n t in sym (with_none _ n l) ∙ sym (more ∙ bits_past n (take i ns) 64 (omega arith)))
      (λ t. let l : n ≤ 63 = ltb-false 63 n t in sym (with_one _ n l) ∙ sym (more ∙ bits_with n (take i ns) 64 (omega arith)))

  -- no more numbers than places
  pub set_few : (k : ℕ) → k ≤ 63 → services_to k ns ≡ bits_of 64 (take k ns)
  unfolding services_to
  set_few k h = simp (le-ltb 63 k h)

  pub set_many : (k : ℕ) → 63 < k → 0 ≡ services_to k ns
  unfolding services_to
  set_many k h = simp (lt-ltb 63 k h)
