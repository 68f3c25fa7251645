-- Laws of slots within the limits, one for each way out of a function. Assumes nothing.
use mathlib.Core.Path.{◌≡◌, sym, ◌∙◌}
use mathlib.Core.List.{List}
use mathlib.Core.Bool.{Bool, true, false, ◌&&◌}
use Prim.Native.Nat.{ℕ, suc, ◌+◌, ◌-◌, ◌%◌, ◌≤◌, ◌<◌}
use native.Mathlib.Omega.{arith}
use lib.ListN.{get_or, take}
use borrow.Author.Tests.{lt-leb, le-leb, leb-true}
use Rattle.model.specs.Lists.{every}
use Rattle.model.specs.Packet.{reads}
use Rattle.model.proofs.Cases.{both}
use Rattle.slots.specs.Slot.{no_slot}
use Rattle.slots.specs.declared.Slot.{Slot}
use Rattle.parser_rings.specs.Ring.{slot_fine, ring_from}
use Rattle.parser_rings.specs.Tests.{ring_fine}

module _ (s : Slot) where
  -- longer than its places
  pub slot_long : 128 < s.len → false ≡ slot_fine s
  unfolding slot_fine
  slot_long h = simp (lt-leb _ _ h)

  -- within them
  pub slot_within : (r : Bool) → s.len ≤ 128 → r ≡ reads (take s.len s.bytes) → r ≡ slot_fine s
  unfolding slot_fine
  slot_within r h e = simp (le-leb _ _ h, e)

-- For the loop over the slots: the answer for all slots stays that for those that are left.
module _ (l : List Slot) (first n i : ℕ) where
  -- none is left
  pub slots_done : n ≤ i → every slot_fine (ring_from (first + i) (n - i) l) ≡ true
  unfolding every ring_from
  slots_done h = let z : n - i ≡ 0 = omega arith in rw z

  module _ (h : i < n) where
    -- the next one, and those behind it
    slots_here : every slot_fine (ring_from (first + i) (n - i) l)
        ≡ slot_fine (get_or l ((first + i) % 32) no_slot) && every slot_fine (ring_from (first + (i + 1)) (n - (i + 1)) l)
    unfolding every ring_from
    slots_here =
        let z : n - i ≡ suc (n - (i + 1)) = omega arith in
        let w : first + i + 1 ≡ first + (i + 1) = omega arith in
        rw (z, w)

    -- it reads
    pub slots_again : true ≡ slot_fine (get_or l ((first + i) % 32) no_slot)
        → every slot_fine (ring_from (first + (i + 1)) (n - (i + 1)) l) ≡ every slot_fine (ring_from (first + i) (n - i) l)
    slots_again t = sym (slots_here ∙ rw (← t))

    -- it does not
    pub slots_bad : false ≡ slot_fine (get_or l ((first + i) % 32) no_slot) → false ≡ every slot_fine (ring_from (first + i) (n - i) l)
    slots_bad t = sym (slots_here ∙ rw (← t))

-- the ring's test
module _ (f n : ℕ) (l : List Slot) where
  -- a place that is not one of 32
  pub ring_first : 32 ≤ f → false ≡ ring_fine f n l
  unfolding ring_fine
  ring_first h = rw (lt-leb f 31 h)

  module _ (within : f < 32) where
    -- too many
    pub ring_count : 32 < n → false ≡ ring_fine f n l
    unfolding ring_fine
    ring_count h = rw (le-leb f 31 (omega arith), lt-leb n 32 h)

    -- all are left
    pub ring_start : n ≤ 32 → every slot_fine (ring_from (f + 0) (n - 0) l) ≡ ring_fine f n l
    unfolding ring_fine
    ring_start h =
        let z : f + 0 ≡ f = omega arith in
        let w : n - 0 ≡ n = omega arith in
        rw (z, w, le-leb f 31 (omega arith), le-leb n 32 h)

-- what a ring within the limits keeps
pub record RingFine (f n : ℕ) (l : List Slot) : Type 0 where
  pub first : f ≤ 31
  pub count : n ≤ 32
  pub reading : every slot_fine (ring_from f n l) ≡ true

module _ (f n : ℕ) (l : List Slot) where
  -- from the test
  pub ring_facts : ring_fine f n l ≡ true → RingFine f n l
  unfolding ring_fine
  ring_facts e =
      let g = both _ _ e in
      let h = both _ _ g.1 in
      record { first = leb-true _ _ g.0; count = leb-true _ _ h.0; reading = h.1 }

  -- to the test
  pub facts_ring : RingFine f n l → ring_fine f n l ≡ true
  unfolding ring_fine
  facts_ring v = rw (le-leb _ _ v.first, le-leb _ _ v.count, v.reading)
