-- A set of numbers as bits: which bit is 1, how a number more changes it, and how many ones it has, each by one law over the width. Assumes nothing.
use mathlib.Core.Path.{◌≡◌, refl, sym, ap, ◌∙◌}
use mathlib.Core.Bool.{Bool, true, false, cond}
use mathlib.Core.List.{List, [], ◌∷◌, ◌++◌}
use Prim.Native.Nat.{ℕ, zero, suc, ◌+◌, ◌-◌, ◌*◌, ◌/◌, ◌%◌, ◌^◌, ◌≤◌, ◌<◌}
use native.Mathlib.Nat.{add-zero, zero-mul, one-mul, zero-add, pow-suc}
use native.Mathlib.Omega.{arith}
use borrow.Author.Tests.{eq-eqb, ne_eqb, eqb-true, eqb-false, ltb-true, lt-ltb}
use lib.Dec.{eqb, ltb}
use lib.ListN.{length}
use lib.Pow.{pow_pos, pow-lt, high, low, field, mod-mod-pow}
use lib.Bits.{bit_or, or_block, or_zero_r}
use lib.Count.{ones, ones_cat}
use Rattle.model.specs.Lists.{every}
use Rattle.model.specs.Block.{Block}
use Rattle.model.specs.Packet.{Packet, carriable}
use Rattle.model.specs.Services.{among, once, bits_of, numbers_of, services_of, distinct_services}
use Rattle.model.proofs.Cases.{by_test, both, and_both}
use Rattle.model.proofs.Blocks.{carriable_facts}
use Rattle.model.proofs.Packets.{Valid}

-- whether it is, as a bit
abbrev bit_for : Bool → ℕ
bit_for b = cond b 1 0

-- the highest bit stands before the others
bits_top : (w : ℕ) (ns : List ℕ) → bits_of (suc w) ns ≡ bit_for (among ns w) * 2 ^ w + bits_of w ns
unfolding bits_of
bits_top w ns = by_test (among ns w) (λ e. rw (e, one-mul)) (λ e. rw (e, zero-mul))

bits_small : (w : ℕ) (ns : List ℕ) → bits_of w ns < 2 ^ w
unfolding bits_of
bits_small zero ns = omega arith
bits_small (suc w) ns =
    let r = bits_small w ns in
    let two : 2 ^ suc w ≡ 2 ^ w * 2 = pow-suc 2 w in
    by_test (among ns w) (λ e. rw e (omega arith)) (λ e. rw e (omega arith))

-- the bit at the width's end, and one before it
bit_end : (w : ℕ) (ns : List ℕ) → bits_of (suc w) ns / 2 ^ w % 2 ≡ bit_for (among ns w)
bit_end w ns = rw (bits_top w ns, high (bit_for (among ns w)) w (bits_small w ns)) (by_test (among ns w) (λ q. rw q) (λ q. rw q))

bit_before : (w : ℕ) (ns : List ℕ) (k : ℕ) → k < w → bits_of (suc w) ns / 2 ^ k % 2 ≡ bits_of w ns / 2 ^ k % 2
bit_before w ns k l =
    let n : ℕ = bits_of (suc w) ns in
    let j : ℕ = w - k - 1 in
    let e : w ≡ (j + 1) + k = omega arith in
    let r : n % 2 ^ w ≡ bits_of w ns = ap (λ (x : ℕ). x % 2 ^ w) (bits_top w ns) ∙ low (bit_for (among ns w)) w (bits_small w ns) in
    sym (mod-mod-pow (n / 2 ^ k) j 1) ∙ ap (λ (x : ℕ). x % 2) (sym (field n (j + 1) k) ∙ ap (λ (x : ℕ). n % 2 ^ x / 2 ^ k) (sym e) ∙ ap (λ (x : ℕ). x / 2 ^ k) r)

-- no number has a bit among none
pub bits_none : (w : ℕ) → bits_of w [] ≡ 0
unfolding bits_of among
bits_none zero = refl
bits_none (suc w) = zero-add (bits_of w []) ∙ bits_none w

-- Bit k of the set is 1 exactly where k is among the numbers.
pub bit_among : (w : ℕ) (ns : List ℕ) (k : ℕ) → k < w → bits_of w ns / 2 ^ k % 2 ≡ bit_for (among ns k)
bit_among zero ns k h = absurd (omega arith)
bit_among (suc w) ns k h =
    by_test (eqb k w) (λ e. rw (eqb-true k w e) (bit_end w ns))
    (λ e. let l : k < w = omega (arith, eqb-false k w e) in bit_before w ns k l ∙ bit_among w ns k l)

-- numbers among which the same stand have one set
bits_as : (w : ℕ) (ms ns : List ℕ) → ((k : ℕ) → k < w → among ms k ≡ among ns k) → bits_of w ms ≡ bits_of w ns
unfolding bits_of
bits_as zero ms ns h = refl
bits_as (suc w) ms ns h = rw (h w (omega arith), bits_as w ms ns (λ k l. h k (omega arith)))

-- a number more
module _ (n : ℕ) (ns : List ℕ) where
  among_other : (k : ℕ) → (n ≡ k → ⊥) → among (n ∷ ns) k ≡ among ns k
  unfolding among
  among_other k h = rw (ne_eqb n k h)

  among_here : among (n ∷ ns) n ≡ true
  unfolding among
  among_here = rw (eq-eqb n n refl)

  -- one that is past the width has no bit
  pub bits_past : (w : ℕ) → w ≤ n → bits_of w (n ∷ ns) ≡ bits_of w ns
  bits_past w h = bits_as w (n ∷ ns) ns (λ k l. among_other k (λ e. omega arith))

  -- one at the width's end, and one before it
  with_end : bits_of (suc n) (n ∷ ns) ≡ bit_or (bits_of (suc n) ns) (2 ^ n)
  with_end =
      let one : 2 ^ n ≡ 1 * 2 ^ n + 0 = rw (one-mul, add-zero) in
      let c : ℕ = bit_for (among ns n) in
      let or_one : bit_or c 1 ≡ 1 = by_test (among ns n) (λ q. rw q) (λ q. rw q) in
      let or_is : bit_or (c * 2 ^ n + bits_of n ns) (2 ^ n) ≡ 1 * 2 ^ n + bits_of n ns =
      ap (bit_or (c * 2 ^ n + bits_of n ns)) one ∙ or_block n c 1 (bits_of n ns) 0 (bits_small n ns) (pow_pos n) ∙ rw (or_one, or_zero_r) in
      bits_top n (n ∷ ns) ∙ (rw (among_here, bits_past n (omega arith))) ∙ sym (ap (λ (x : ℕ). bit_or x (2 ^ n)) (bits_top n ns) ∙ or_is)

  with_before : (w : ℕ) → n < w → bits_of w (n ∷ ns) ≡ bit_or (bits_of w ns) (2 ^ n) → bits_of (suc w) (n ∷ ns) ≡ bit_or (bits_of (suc w) ns) (2 ^ n)
  with_before w l below =
      let none : 2 ^ n ≡ 0 * 2 ^ w + 2 ^ n = rw (zero-mul, zero-add) in
      let c : ℕ = bit_for (among ns w) in
      let or_is : bit_or (c * 2 ^ w + bits_of w ns) (2 ^ n) ≡ c * 2 ^ w + bit_or (bits_of w ns) (2 ^ n) =
      ap (bit_or (c * 2 ^ w + bits_of w ns)) none ∙ or_block w c 0 (bits_of w ns) (2 ^ n) (bits_small w ns) (pow-lt l) ∙ rw or_zero_r in
      bits_top w (n ∷ ns) ∙ (rw (among_other w (λ e. omega arith), below)) ∙ sym (ap (λ (x : ℕ). bit_or x (2 ^ n)) (bits_top w ns) ∙ or_is)

  -- one that is below it has its own
  pub bits_with : (w : ℕ) → n < w → bits_of w (n ∷ ns) ≡ bit_or (bits_of w ns) (2 ^ n)
  bits_with zero h = absurd (omega arith)
  bits_with (suc w) h =
      by_test (eqb n w) (λ e. rw (← eqb-true n w e) with_end)
      (λ e. let l : n < w = omega (arith, eqb-false n w e) in with_before w l (bits_with w l))

-- at whichever end it stands
among_last : (ns : List ℕ) (n k : ℕ) → among (ns ++ (n ∷ [])) k ≡ among (n ∷ ns) k
unfolding among
among_last [] n k = refl
among_last (m ∷ ns) n k = rw (among_last ns n k) (by_test (eqb m k) (λ e. rw e (by_test (eqb n k) (λ f. rw f) (λ f. rw f))) (λ e. rw e))

pub bits_last : (w : ℕ) (ns : List ℕ) (n : ℕ) → bits_of w (ns ++ (n ∷ [])) ≡ bits_of w (n ∷ ns)
bits_last w ns n = bits_as w (ns ++ (n ∷ [])) (n ∷ ns) (λ k _. among_last ns n k)

-- the ones, bit by bit
ones_top : (w : ℕ) (ns : List ℕ) → ones (bits_of (suc w) ns) ≡ bit_for (among ns w) + ones (bits_of w ns)
unfolding ones
ones_top w ns =
    ap ones (bits_top w ns) ∙ ones_cat w (bit_for (among ns w)) (bits_of w ns) (bits_small w ns)
    ∙ by_test (among ns w) (λ e. rw e) (λ e. rw e)

-- a number that was not among the others makes one more
ones_end : (n : ℕ) (ns : List ℕ) → among ns n ≡ false → ones (bits_of (suc n) (n ∷ ns)) ≡ 1 + ones (bits_of (suc n) ns)
ones_end n ns none =
    let free : ones (bits_of (suc n) ns) ≡ ones (bits_of n ns) = ones_top n ns ∙ rw (none, zero-add) in
    ones_top n (n ∷ ns) ∙ rw (among_here n ns, bits_past n ns n (omega arith), free)

ones_more : (w n : ℕ) (ns : List ℕ) → n < w → among ns n ≡ false → ones (bits_of w (n ∷ ns)) ≡ 1 + ones (bits_of w ns)
ones_more zero n ns h none = absurd (omega arith)
ones_more (suc w) n ns h none =
    by_test (eqb n w)
    (λ e. rw (← eqb-true n w e) (ones_end n ns none))
    (λ e. let l : n < w = omega (arith, eqb-false n w e) in
    ones_top w (n ∷ ns) ∙ rw (among_other n ns w (λ q. omega arith)) (omega (arith, ones_more w n ns l none, ones_top w ns)))

-- one that was changes nothing
bits_again : (w n : ℕ) (ns : List ℕ) → among ns n ≡ true → bits_of w (n ∷ ns) ≡ bits_of w ns
bits_again w n ns e = bits_as w (n ∷ ns) ns (λ k _. by_test (eqb n k) (λ q. same k (eqb-true n k q)) (λ q. among_other n ns k (eqb-false n k q)))
  where
    same : (k : ℕ) → n ≡ k → among (n ∷ ns) k ≡ among ns k
    same k q = rw (← q, among_here n ns, e)

-- The law of ones, over the width: a set of numbers that are all below it has as many ones as there are different numbers.
pub ones_once : (w : ℕ) (ns : List ℕ) → every (λ n. ltb n w) ns ≡ true → ones (bits_of w ns) ≡ length (once ns)
unfolding every once ones
ones_once w [] h = ap ones (bits_none w)
ones_once w (n ∷ ns) h =
    let t = both (ltb n w) (every (λ k. ltb k w) ns) h in
    by_test (among ns n)
    (λ e. rw e (ap ones (bits_again w n ns e) ∙ ones_once w ns t.1))
    (λ e. rw e (ones_more w n ns (ltb-true n w t.0) e ∙ omega (arith, ones_once w ns t.1)))

-- the blocks of a packet have numbers below 64
low_numbers : (bs : List Block) → every carriable bs ≡ true → every (λ n. ltb n 64) (numbers_of bs) ≡ true
unfolding every
low_numbers [] h = refl
low_numbers (b ∷ bs) h =
    let t = both (carriable b) (every carriable bs) h in
    and_both (ltb b.number 64) (every (λ n. ltb n 64) (numbers_of bs)) (lt-ltb b.number 64 (omega (arith, (carriable_facts b t.0).known))) (low_numbers bs t.1)

-- so that a packet within the limits has as many services as its set has ones [P16]
pub services_counted : (p : Packet) → Valid p → ones (services_of p) ≡ distinct_services p
unfolding services_of distinct_services
services_counted p v = ones_once 64 (numbers_of p.blocks) (low_numbers p.blocks v.blocks)
