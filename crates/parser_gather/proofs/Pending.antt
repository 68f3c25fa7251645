-- Laws of pending bytes within the limits, and of gathering if asked, one for each way out of a function. Assumes nothing.
use mathlib.Core.Path.{◌≡◌, sym, ◌∙◌}
use mathlib.Core.List.{List}
use mathlib.Core.Bool.{and-false, Bool, true, false, ◌&&◌}
use Prim.Native.Nat.{ℕ, ◌%◌, ◌≤◌, ◌<◌}
use native.Mathlib.Omega.{arith}
use lib.ListN.{length, get_or, take}
use lib.Seq.{get_or-take, length-take-le}
use lib.Dec.{eqb, leb, ltb}
use borrow.Author.Tests.{eq-eqb, ne_eqb, eqb-true, eqb-false, le-ltb, lt-leb, le-leb, leb-true, leb-false}
use Rattle.model.specs.Packet.{packet_size}
use Rattle.model.specs.Demux.{valid_pending}
use Rattle.model.proofs.Cases.{by_test, both}
use Rattle.model.proofs.Limits.{size_most}
use Rattle.slots.specs.declared.Slot.{Slot}
use Rattle.parser_gather.specs.Tests.{pending_fine, ready_for}
use Rattle.parser_gather.specs.Gather.{Left, left_gathered, left_after}

module _ (n : ℕ) (l : List ℕ) where
  -- no bytes
  pub fine_none : n ≡ 0 → true ≡ pending_fine n l
  unfolding pending_fine
  fine_none e = simp (eq-eqb _ _ e)

  module _ (some : n ≡ 0 → ⊥) where
    -- an odd number
    pub fine_odd : (n % 2 ≡ 0 → ⊥) → false ≡ pending_fine n l
    unfolding pending_fine
    fine_odd o = simp (ne_eqb _ _ some, ne_eqb _ _ o)

    -- an even number, below the packet's size or not
    pub fine_even : (z : ℕ) → n % 2 ≡ 0 → z ≡ packet_size (get_or l 0 0) → ltb n z ≡ pending_fine n l
    unfolding pending_fine
    fine_even z o e = simp (ne_eqb _ _ some, eq-eqb _ _ o, e)

  -- of 128 places it is the model's test, and that there are so many bytes
  pub fine_pending : length l ≡ 128 → pending_fine n l ≡ leb n 128 && valid_pending (take n l)
  unfolding pending_fine valid_pending
  fine_pending long =
      by_test (eqb n 0)
      (λ z. let o : n ≡ 0 = eqb-true _ _ z in rw o)
      (λ z. let some : n ≡ 0 → ⊥ = eqb-false _ _ z in
      by_test (leb n 128)
      (λ t. let many : length (take n l) ≡ n = length-take-le n l (omega (arith, leb-true n 128 t)) in
      rw (t, many, z, get_or-take n l 0 0 (omega (arith, some))))
      (λ t. rw (t, z, le-ltb n (packet_size (get_or l 0 0)) (omega (arith, leb-false n 128 t, size_most (get_or l 0 0)))) (and-false (eqb (n % 2) 0))))

-- whether packets can be gathered
module _ (f count n : ℕ) (l : List ℕ) where
  -- a place that is not one of 32
  pub ready_first : 32 ≤ f → false ≡ ready_for f count n l
  unfolding ready_for
  ready_first h = rw (lt-leb f 31 h)

  module _ (within : f < 32) where
    -- too many slots
    pub ready_count : 32 < count → false ≡ ready_for f count n l
    unfolding ready_for
    ready_count h = rw (le-leb f 31 (omega arith), lt-leb count 32 h)

    -- pending bytes within the limits or not
    pub ready_pending : (r : Bool) → count ≤ 32 → r ≡ pending_fine n l → r ≡ ready_for f count n l
    unfolding ready_for
    ready_pending r h e = rw (le-leb f 31 (omega arith), le-leb count 32 h) e

  -- what is known then
  module _ (b : Bool) (tested : b ≡ ready_for f count n l) (yes : b ≡ true) where
    -- the test, taken apart
    ready_facts : (leb f 31 ≡ true) × (leb count 32 && pending_fine n l ≡ true)
    unfolding ready_for
    ready_facts = both _ _ (sym tested ∙ yes)

    -- the place
    pub ready_within : f < 32
    ready_within = omega (arith, leb-true f 31 ready_facts.0)

    -- the slots
    pub ready_few : count ≤ 32
    ready_few = leb-true _ _ (both (leb count 32) (pending_fine n l) ready_facts.1).0

    -- the pending bytes
    pub ready_fine : pending_fine n l ≡ true
    ready_fine = (both (leb count 32) (pending_fine n l) ready_facts.1).1

-- gathering a frame
module _ (f count : ℕ) (slots : List Slot) (n : ℕ) (l frame : List ℕ) (b : Bool) (tested : b ≡ ready_for f count n l) where
  -- outside the limits
  pub gather_unready : b ≡ false → record { pending = n; bytes = l; count = count; slots = slots } ≡ left_after f count slots n l frame
  unfolding left_after
  gather_unready e = rw (← tested, e)

  -- packets are gathered
  pub gather_ready : (g : Left) → b ≡ true → g ≡ left_gathered f count slots n l frame → g ≡ left_after f count slots n l frame
  unfolding left_after
  gather_ready g e q = rw (← tested, e) q
