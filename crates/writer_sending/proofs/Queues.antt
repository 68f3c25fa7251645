-- The slots of the queue, one after another: how loops over them go on. Assumes nothing.
use mathlib.Core.Path.{◌≡◌, refl, sym, ap, ◌∙◌}
use mathlib.Core.List.{List, [], ◌∷◌}
use Prim.Native.Nat.{ℕ, zero, suc, ◌+◌, ◌-◌, ◌*◌, ◌≤◌, ◌<◌, min}
use native.Mathlib.Numerals.{add-one}
use native.Mathlib.Omega.{arith}
use borrow.Author.Tests.{le-leb, lt-leb}
use lib.ListN.{length, take, drop, get_or, set, length-take, drop_of_length-le}
use lib.Seq.{drop-cons, get_or-take, sets, take-nil, get_or-set_other}
use Rattle.slots.specs.Slot.{no_slot}
use Rattle.slots.specs.declared.Slot.{Slot}
use Rattle.writer_frames.specs.declared.Frame.{Frame}
use Rattle.writer_sending.specs.Slots.{summed, left_of, carried_by, finished, onward, sent_over}
use Rattle.writer_sending.specs.declared.Sending.{Sending}

-- what is laid behind the first place
sets_behind : {A : Type 0} (x : A) (l : List A) (i : ℕ) (vs : List A) → sets (x ∷ l) (suc i) vs ≡ x ∷ sets l i vs
sets_behind x l i [] = refl
sets_behind x l i (v ∷ vs) = sets_behind x (set l i v) (suc i) vs

-- the front of a list laid over itself changes nothing
pub sets_own : {A : Type 0} (l : List A) (n : ℕ) → sets l 0 (take n l) ≡ l
sets_own [] n = rw (take-nil n)
sets_own (x ∷ l) zero = refl
sets_own (x ∷ l) (suc n) = sets_behind x l 0 (take n l) ∙ ap (λ r. x ∷ r) (sets_own l n)

module _ (l : List Slot) (count : ℕ) (n : length l ≡ 16) where
  -- the slot at a place that is taken
  next_slot : (i : ℕ) → i < min count 16 → drop i (take count l) ≡ get_or l i no_slot ∷ drop (i + 1) (take count l)
  next_slot i h =
      rw (add-one i) (drop-cons (take count l) i no_slot (omega (arith, length-take count l)) ∙ rw (get_or-take count l i no_slot (omega arith)))

  -- behind the last
  no_slot_left : (i : ℕ) → min count 16 ≤ i → drop i (take count l) ≡ []
  no_slot_left i h = drop_of_length-le (take count l) {i = i} (omega (arith, length-take count l))

  -- the invariant of a sum over the slots: with what is left of them it stays the whole sum
  pub record Summing (f : Slot → ℕ) (sum₀ sum i : ℕ) : Type 0 where
    pub some : i ≤ min count 16
    pub few : sum ≤ sum₀ + 128 * i
    pub same : sum + summed f (drop i (take count l)) ≡ sum₀ + summed f (take count l)

  -- before the first
  pub summing_none : (f : Slot → ℕ) (sum : ℕ) → Summing f sum sum 0
  summing_none f sum = record { some = omega arith; few = omega arith; same = refl }

  -- one more
  pub summing_more : (f : Slot → ℕ) (sum₀ sum i k : ℕ) → i < min count 16 → k ≡ f (get_or l i no_slot) → k ≤ 128 → Summing f sum₀ sum i → Summing f sum₀ (sum + k) (i + 1)
  unfolding summed
  summing_more f sum₀ sum i k h e m s =
      let w : summed f (drop i (take count l)) ≡ f (get_or l i no_slot) + summed f (drop (i + 1) (take count l)) = rw (next_slot i h) in
      let some = s.some in
      let few = s.few in
      record { some = omega arith; few = omega arith; same = omega (arith, w, e, s.same) }

  -- after the last
  pub summing_done : (f : Slot → ℕ) (sum₀ sum i : ℕ) → min count 16 ≤ i → Summing f sum₀ sum i → (sum ≡ sum₀ + summed f (take count l)) × (sum ≤ sum₀ + 2048)
  unfolding summed
  summing_done f sum₀ sum i h s =
      let z : summed f (drop i (take count l)) ≡ 0 = rw (no_slot_left i h) in
      let some = s.some in
      (omega (arith, z, s.same), omega (arith, s.few))

  -- the invariant of the packets that are sent one after another: what will have been sent stays the same
  pub record Running (s₀ s : Sending) (m₀ m i : ℕ) : Type 0 where
    pub some : i ≤ min count 16
    pub at : s.next ≡ i
    pub same : sent_over (drop i (take count l)) m s ≡ sent_over (take count l) m₀ s₀

  module _ (s₀ s : Sending) (m₀ m i : ℕ) (w : Running s₀ s m₀ m i) where
    -- one packet more
    pub running_more : (k : ℕ) (f : Frame) → i < min count 16 → k ≡ left_of s → k < m → f ≡ (carried_by k s).frame
        → Running s₀ (record { slot = get_or l i no_slot; sent = 0; next = i + 1; frame = f }) m₀ (m - k) (i + 1)
    unfolding sent_over
    running_more k f h e g z =
        let a : sent_over (drop i (take count l)) m s ≡ sent_over (drop (i + 1) (take count l)) (m - left_of s) (onward (get_or l i no_slot) s) =
        rw (next_slot i h, lt-leb m (left_of s) (omega (arith, e))) in
        record { some = omega arith; at = refl; same = let n : s.next + 1 ≡ i + 1 = omega (arith, w.at) in rw (z, e) (sym (rw n at a) ∙ w.same) }

    -- the packet being sent has enough
    pub running_within : (r : Sending) → i < min count 16 → m ≤ left_of s → r ≡ finished s m → r ≡ sent_over (take count l) m₀ s₀
    unfolding sent_over
    running_within r h g e = let a : sent_over (drop i (take count l)) m s ≡ finished s m = rw (next_slot i h, le-leb m (left_of s) g) in e ∙ sym a ∙ w.same

    -- the last packet was begun
    pub running_last : (r : Sending) → min count 16 ≤ i → r ≡ finished s m → r ≡ sent_over (take count l) m₀ s₀
    unfolding sent_over
    running_last r h e = let a : sent_over (drop i (take count l)) m s ≡ finished s m = rw (no_slot_left i h) in e ∙ sym a ∙ w.same

  -- the invariant of the slots that move down, `begun` places each: those that are still to move stand where they stood
  pub record Moving (begun i : ℕ) (now : List Slot) : Type 0 where
    pub rest : (k : ℕ) → i ≤ k → get_or now k no_slot ≡ get_or l k no_slot
    pub same : sets now (i - begun) (drop i (take count l)) ≡ sets l 0 (drop begun (take count l))

  -- before the first
  pub moving_first : (begun i : ℕ) → i ≡ begun → Moving begun i l
  moving_first begun i e = let z : i - begun ≡ 0 = omega arith in record { rest = λ k h. refl; same = rw (z, e) }

  -- none moves where none was begun
  pub moving_none : (begun i : ℕ) → begun ≡ 0 → min count 16 ≤ i → Moving begun i l
  moving_none begun i e h = record { rest = λ k h. refl; same = rw (no_slot_left i h, e) (sym (sets_own l count)) }

  -- one more
  pub moving_more : (begun i : ℕ) (now : List Slot) → begun ≤ i → i < min count 16 → Moving begun i now → Moving begun (i + 1) (set now (i - begun) (get_or now i no_slot))
  moving_more begun i now some h m =
      let e : i + 1 - begun ≡ suc (i - begun) = omega arith in
      record {
        rest = λ k g. get_or-set_other now (i - begun) k (get_or now i no_slot) no_slot (λ z. omega arith) ∙ m.rest k (omega arith);
        same = rw (e, m.rest i (omega arith)) (rw (next_slot i h) at m.same);
      }

  -- after the last
  pub moving_done : (begun i : ℕ) (now : List Slot) → min count 16 ≤ i → Moving begun i now → now ≡ sets l 0 (drop begun (take count l))
  moving_done begun i now h m = rw (no_slot_left i h) at m.same
