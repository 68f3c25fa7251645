-- The slots pass their test as the definition tells: the first four of the queue, the others, and the one being sent. Assumes nothing.
use mathlib.Core.Path.{◌≡◌, refl, sym, ap, ◌∙◌}
use mathlib.Core.Bool.{Bool, true, false, not, ◌&&◌, ◌||◌, true≢false}
use mathlib.Core.List.{List, [], ◌∷◌, map}
use Prim.Native.Nat.{ℕ, zero, suc, ◌+◌, ◌-◌, ◌%◌, ◌≤◌, ◌<◌}
use native.Mathlib.Numerals.{add-one}
use native.Mathlib.Omega.{arith}
use borrow.Author.Tests.{ne_eqb, eqb-true, eqb-false, le-leb, lt-leb, leb-false, lt-ltb, not-true}
use lib.Dec.{eqb, leb, ltb}
use lib.ListN.{length, take, drop, get_or, length-map}
use lib.Seq.{take-take, slice-cons, slice_empty}
use Rattle.std.specs.List.{list_all}
use Rattle.model.specs.Lists.{every}
use Rattle.model.proofs.Cases.{by_test, both}
use Rattle.slots.specs.Slot.{no_slot, written_length, written_slot}
use Rattle.slots.proofs.Written.{carried}
use Rattle.slots.specs.Row.{valid_sending, valid_slots}
use Rattle.slots.specs.Steps.{written_if, sends_whole}
use Rattle.slots.specs.declared.Slot.{Slot}

-- the length of an array of slots, from what owning it tells
pub length_mapped : (X Y : Type 0) (f : X → Y) (l : List X) (n : ℕ) → length (map f l) ≡ n → length l ≡ n
length_mapped X Y f l n e = sym (length-map l f) ∙ e

-- what `iter().all(..)` tells is the test of each
pub every_all : (l : List Slot) → list_all written_slot l ≡ every written_slot l
unfolding every
every_all [] = refl
every_all (s ∷ l) = ap (λ (b : Bool). written_slot s && b) (every_all l)

-- no conjunction with what is false
pub and_false : (x : Bool) → x && false ≡ false
and_false true = refl
and_false false = refl

-- a conjunction with what is true
and_true : (r : Bool) → r && true ≡ r
and_true true = refl
and_true false = refl

-- the packet being sent, by the tests on the way
module _ (s : Slot) (sent : ℕ) where
  -- a packet that is too long is none, and of one that is not too much has left
  not_sending : sends_whole s.len sent ≡ false → valid_sending s sent ≡ false
  unfolding sends_whole valid_sending
  not_sending e =
      by_test (leb s.len 128)
      (λ t. let f : eqb (sent % 2) 0 && leb sent (written_length s) ≡ false = rw t at e in rw f (and_false (eqb s.len 0 || written_slot s)))
      (λ t. let over : 128 < s.len = leb-false s.len 128 t in
      let n : eqb s.len 0 ≡ false = ne_eqb s.len 0 (λ z. omega arith) in
      by_test (written_slot s) (λ k. absurd (omega (arith, (carried s k).most))) (λ k. rw (n, k)))

  -- the slot decides
  sending_by : sends_whole s.len sent ≡ true → written_if (ltb 0 s.len) s ≡ valid_sending s sent
  unfolding sends_whole valid_sending
  sending_by e =
      let t = (both (leb s.len 128) (eqb (sent % 2) 0 && leb sent (written_length s)) e).1 in
      by_test (eqb s.len 0)
      (λ z. let y : s.len ≡ 0 = eqb-true s.len 0 z in rw (z, t, y))
      (λ z. let y : ltb 0 s.len ≡ true = lt-ltb 0 s.len (omega (arith, eqb-false s.len 0 z)) in rw (z, t, y) (sym (and_true (written_slot s))))

-- all the slots, by the tests on the way
module _ (s : Slot) (sent : ℕ) (l : List Slot) (n : ℕ) where
  -- too many wait
  pub over_packets : 16 < n → false ≡ valid_slots s sent l n
  unfolding valid_slots
  over_packets a = simp (lt-leb _ _ a)

  -- no packet that can be sent
  pub bad_sending : {r : Bool} → n ≤ 16 → r ≡ sends_whole s.len sent → r ≡ false → false ≡ valid_slots s sent l n
  unfolding valid_slots
  bad_sending a z e = simp (le-leb _ _ a, not_sending s sent (sym z ∙ e))

  -- the slots decide
  pub all_packets : {q r : Bool} → n ≤ 16 → q ≡ sends_whole s.len sent → q ≡ true
      → r ≡ (written_if (ltb 0 s.len) s && every written_slot (take n l)) → r ≡ valid_slots s sent l n
  unfolding valid_slots
  all_packets a z e f = f ∙ simp (le-leb _ _ a, sending_by s sent (sym z ∙ e))
