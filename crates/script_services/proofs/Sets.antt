-- A number in bytes, the highest first: it is taken in two parts, and what is printed of it gives it back. Assumes nothing.
use mathlib.Core.Path.{◌≡◌, refl, sym, ap, ◌∙◌}
use mathlib.Core.List.{List, [], ◌∷◌}
use Prim.Native.Nat.{ℕ, zero, suc, ◌+◌, ◌*◌, ◌/◌, ◌%◌, ◌^◌, ◌≤◌, ◌<◌}
use native.Mathlib.Nat.{zero-mul, zero-add, add_assoc, mul_assoc, mul_comm, add-mul, mul-le-mul_right, pow-suc, div-add-mod', mod-lt, mod-eq_of_lt, add-mul-mod_self_right}
use native.Mathlib.Omega.{arith}
use lib.ListN.{get_or, drop}
use lib.Pow.{pow-add}
use lib.Seq.{drop-drop}
use Rattle.program_records.specs.Reading.{highest_first}
use Rattle.script_services.specs.Sets.{highest_bytes, from_highest, set_in}

-- in two parts
parts_join : (g q p f r : ℕ) → g * (q * p) + (f * p + r) ≡ (g * q + f) * p + r
parts_join g q p f r = sym (ap (λ (x : ℕ). x + r) (add-mul (g * q) f p ∙ ap (λ (x : ℕ). x + f * p) (mul_assoc g q p)) ∙ add_assoc (g * (q * p)) (f * p) r)

from_split : (j k : ℕ) (a : List ℕ) → from_highest (j + k) a ≡ from_highest j a * 256 ^ k + from_highest k (drop j a)
unfolding from_highest
from_split zero k a = rw (zero-add k, zero-mul (256 ^ k), zero-add (from_highest k a))
from_split (suc j) k a =
    let n : suc j + k ≡ suc (j + k) = omega arith in
    let one : 1 + j ≡ suc j = omega arith in
    let d : drop j (drop 1 a) ≡ drop (suc j) a = drop-drop j 1 a ∙ ap (λ (i : ℕ). drop i a) one in
    let behind : from_highest (j + k) (drop 1 a) ≡ from_highest j (drop 1 a) * 256 ^ k + from_highest k (drop (suc j) a) =
    from_split j k (drop 1 a) ∙ rw d in
    rw (n, behind, pow-add 256 j k) (parts_join (get_or a 0 0) (256 ^ j) (256 ^ k) _ _)

-- four bytes
four_bytes : (a : List ℕ) → highest_first a ≡ from_highest 4 a
unfolding highest_first from_highest
four_bytes [] = refl
four_bytes (x ∷ []) = omega arith
four_bytes (x ∷ y ∷ []) = omega arith
four_bytes (x ∷ y ∷ z ∷ []) = omega arith
four_bytes (x ∷ y ∷ z ∷ w ∷ a) = omega arith

-- and twice four
pub eight_bytes : (a : List ℕ) → highest_first a * 4294967296 + highest_first (drop 4 a) ≡ set_in a
eight_bytes a = rw (four_bytes a, four_bytes (drop 4 a)) (sym (from_split 4 4 a))

-- a byte more of a number
byte_more : (s b : ℕ) → 0 < b → s % (b * 256) ≡ s / b % 256 * b + s % b
byte_more s b some =
    let q : ℕ = s / b in
    let y : ℕ = q / 256 in
    let m : ℕ = q % 256 in
    let r : ℕ = s % b in
    let whole : s ≡ m * b + r + y * (b * 256) =
    sym (div-add-mod' s b) ∙ ap (λ (x : ℕ). x * b + r) (sym (div-add-mod' q 256)) ∙ ap (λ (x : ℕ). x + r) (add-mul (y * 256) m b)
    ∙ omega (arith, mul_assoc y 256 b, ap (λ (x : ℕ). y * x) (mul_comm b 256)) in
    let low : m * b ≤ 255 * b = mul-le-mul_right b (omega arith) in
    ap (λ (x : ℕ). x % (b * 256)) whole ∙ add-mul-mod_self_right (m * b + r) y (b * 256) ∙ mod-eq_of_lt (omega (arith, low, mod-lt s some))

bytes_some : (k : ℕ) → 0 < 256 ^ k
bytes_some zero = omega arith
bytes_some (suc k) = rw (pow-suc 256 k) (omega (arith, bytes_some k))

printed : (k s : ℕ) → from_highest k (highest_bytes k s) ≡ s % 256 ^ k
unfolding from_highest highest_bytes
printed zero s = omega arith
printed (suc k) s = rw (printed k s, pow-suc 256 k) (sym (byte_more s (256 ^ k) (bytes_some k)))

-- What is printed of a set of 64 bits is what it is taken from.
pub printed_back : (s : ℕ) → s < 2 ^ 64 → set_in (highest_bytes 8 s) ≡ s
printed_back s h = printed 8 s ∙ mod-eq_of_lt h
