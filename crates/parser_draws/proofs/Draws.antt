-- Laws of taking an item, one for each way out of a function. Assumes nothing.
use mathlib.Core.Path.{◌≡◌, refl, sym, ap, ◌∙◌}
use mathlib.Core.List.{List, ◌∷◌, ◌++◌}
use mathlib.Core.Bool.{Bool, true, false, true≢false}
use Prim.Native.Nat.{ℕ, suc, ◌+◌, ◌-◌, ◌%◌, ◌≤◌, ◌<◌}
use native.Mathlib.Numerals.{add-one}
use native.Mathlib.Omega.{arith}
use lib.ListN.{length, get_or, take, drop, set, length-take, length-drop}
use lib.Seq.{drop-cons, take-suc, append_snoc, set_at, get_or-drop, get_or-append-add}
use borrow.Author.Tests.{eq-eqb, ne_eqb, le-leb, lt-leb}
use Rattle.std.specs.Prelude.{Option, Some, None, cond, is_none, unwrap_or}
use Rattle.model.proofs.Cases.{by_test}
use Rattle.caption.specs.declared.Cea608.TheVariants.{Field1, Field2}
use Rattle.model.specs.Said.{Said, Outcome, gave, refused, is_given, mapped, after}
use Rattle.model.specs.Packet.{Packet, read_packet, reads}
use Rattle.packet.specs.Packet.{blank, laid}
use Rattle.packet.specs.declared.DTVCCPacket.{DTVCCPacket}
use Rattle.slots.specs.declared.Slot.{Slot}
use Rattle.parser_rings.specs.Ring.{slot_run, slot_fine}
use Rattle.parser_rings.proofs.Slots.{slot_long, slot_within}
use Rattle.parser_draws.specs.Take.{slid, first_pair, packet_at, next_head, has_pair, has_packet, head_slot, head_run}

-- the pair at the head
module _ (l : List ℕ) where
  -- field 1
  pub pair_first : get_or l 0 0 ≡ 0 → Field1 (get_or l 1 0) (get_or l 2 0) ≡ first_pair l
  unfolding first_pair
  pair_first e = simp (eq-eqb _ _ e)

  -- field 2
  pub pair_second : (get_or l 0 0 ≡ 0 → ⊥) → Field2 (get_or l 1 0) (get_or l 2 0) ≡ first_pair l
  unfolding first_pair
  pair_second e = simp (ne_eqb _ _ e)

-- a loop that moves elements down by k places
module _ {A : Type 0} (k : ℕ) (l : List A) (z : A) (i : ℕ) where
  -- what was moved
  front : i + k ≤ length l → length (take i (drop k l)) ≡ i
  front h = simp (length-take, length-drop) (omega arith)

  -- what is moved next is as it was
  slid_next : i + k ≤ length l → get_or (slid k i l) (i + k) z ≡ get_or l (i + k) z
  unfolding slid
  slid_next h =
      ap (λ (m : ℕ). get_or (take i (drop k l) ++ drop i l) (m + k) z) (sym (front h))
      ∙ get_or-append-add (take i (drop k l)) (drop i l) k z
      ∙ get_or-drop i l k z

  -- one place more
  slid_step : (x : A) → i + k < length l → x ≡ get_or l (i + k) z → set (slid k i l) i x ≡ slid k (i + 1) l
  unfolding slid
  slid_step x h e =
      ap (λ (r : List A). set (take i (drop k l) ++ r) i x) (drop-cons l i z lt)
      ∙ set_at (take i (drop k l)) (get_or l i z) (drop (suc i) l) x i (front (omega arith))
      ∙ sym back
    where
      lt : i < length l
      lt = omega arith

      lt1 : i < length (drop k l)
      lt1 = simp length-drop (omega arith)

      comm : k + i ≡ i + k
      comm = omega arith

      same : get_or (drop k l) i z ≡ x
      same = get_or-drop k l i z ∙ ap (λ (m : ℕ). get_or l m z) comm ∙ sym e

      back : take (i + 1) (drop k l) ++ drop (i + 1) l ≡ take i (drop k l) ++ x ∷ drop (suc i) l
      back =
          ap (λ (m : ℕ). take m (drop k l) ++ drop m l) (add-one i)
          ∙ ap (λ (r : List A). r ++ drop (suc i) l) (take-suc (drop k l) i z lt1)
          ∙ append_snoc (take i (drop k l)) (get_or (drop k l) i z) (drop (suc i) l)
          ∙ ap (λ (v : A). take i (drop k l) ++ v ∷ drop (suc i) l) same

  -- a turn
  pub slid_again : (a : List A) (n m : ℕ) → i < n → n + k ≤ m → length l ≡ m → a ≡ slid k i l → set a i (get_or a (i + k) z) ≡ slid k (i + 1) l
  slid_again a n m h r q e = rw e (slid_step (get_or (slid k i l) (i + k) z) (omega arith) (slid_next (omega arith)))

-- the start
pub slid_none : {A : Type 0} (k : ℕ) (l : List A) → l ≡ slid k 0 l
unfolding slid
slid_none k l = refl

-- the end
pub slid_done : {A : Type 0} (k : ℕ) (l a : List A) (i n : ℕ) → a ≡ slid k i l → i ≤ n → n ≤ i → a ≡ slid k n l
slid_done k l a i n e h j = let q : i ≡ n = omega arith in rw q at e

-- what is given where a test holds
module _ {A : Type 0} (b : Bool) (x : A) (o : Option A) (e : o ≡ cond b (Some x) None) where
  -- something
  pub some_given : (y : A) → o ≡ Some y → (b ≡ true) × (y ≡ x)
  some_given y q =
      by_test b
      (λ t. let w : Some y ≡ Some x = sym q ∙ e ∙ rw t in (t, ap (λ (z : Option A). unwrap_or z y) w))
      (λ t. let w : Some y ≡ None = sym q ∙ e ∙ rw t in absurd (true≢false (sym (ap is_none w))))

  -- nothing
  pub not_given : ((y : A) → o ≡ Some y → ⊥) → b ≡ false
  not_given n = by_test b (λ t. absurd (n x (e ∙ rw t))) (λ t. t)

  pub none_given : o ≡ None → b ≡ false
  none_given q = by_test b (λ t. let w : None ≡ Some x = sym q ∙ e ∙ rw t in absurd (true≢false (ap is_none w))) (λ t. t)

-- what reading gives
outcome_some : (o : Outcome Packet) (x : DTVCCPacket) → gave x ≡ mapped laid o → (is_given o ≡ true) × (x ≡ after blank (mapped laid o))
outcome_some (gave p) x e = (refl, ap (after blank) e)
outcome_some (refused why) x e = absurd (true≢false (ap is_given e))

outcome_none : (o : Outcome Packet) (why : Said) → refused why ≡ mapped laid o → is_given o ≡ false
outcome_none (gave p) why e = absurd (true≢false (sym (ap is_given e)))
outcome_none (refused other) why e = refl

-- a slot, read
module _ (s : Slot) where
  -- what a slot is read as
  abbrev pub ReadAs : Option DTVCCPacket → Type 0
  ReadAs o = o ≡ cond (slot_fine s) (Some (packet_at (slot_run s))) None

  -- longer than its places
  pub read_long : 128 < s.len → ReadAs None
  read_long h = rw (← slot_long s h)

  -- within them, by what reading it answers
  module _ (h : s.len ≤ 128) where
    -- a packet
    pub read_some : (x : DTVCCPacket) → gave x ≡ mapped laid (read_packet (slot_run s)) → ReadAs (Some x)
    unfolding packet_at reads
    read_some x e = let g = outcome_some (read_packet (slot_run s)) x e in rw (← slot_within s true h (sym g.0), g.1)

    -- none
    pub read_none : (why : Said) → refused why ≡ mapped laid (read_packet (slot_run s)) → ReadAs None
    unfolding reads
    read_none why e = rw (← slot_within s false h (sym (outcome_none (read_packet (slot_run s)) why e)))

-- whether the list has a pair
module _ (n : ℕ) where
  -- none
  pub pair_none : n ≡ 0 → has_pair n ≡ false
  unfolding has_pair
  pair_none z = rw (eq-eqb _ _ z)

  -- more than there are places for
  pub pair_over : 31 < n → has_pair n ≡ false
  unfolding has_pair
  pair_over h = rw (ne_eqb n 0 (λ z. omega arith), lt-leb n 31 h)

  -- one
  pub pair_some : (n ≡ 0 → ⊥) → n ≤ 31 → has_pair n ≡ true
  unfolding has_pair
  pair_some z h = rw (ne_eqb n 0 z, le-leb n 31 h)

  -- so there is one
  pub has_some : has_pair n ≡ true → n ≡ 0 → ⊥
  has_some e z = true≢false (sym e ∙ pair_none z)

-- whether the ring has a packet
module _ (f n : ℕ) (l : List Slot) where
  -- none waits
  pub packet_none : n ≡ 0 → has_packet f n l ≡ false
  unfolding has_packet
  packet_none z = rw (eq-eqb _ _ z)

  module _ (some : n ≡ 0 → ⊥) where
    -- the head is at no place
    pub packet_nowhere : 31 < f → has_packet f n l ≡ false
    unfolding has_packet
    packet_nowhere h = rw (ne_eqb n 0 some, lt-leb f 31 h)

    -- the slot there reads
    pub packet_some : f ≤ 31 → slot_fine (head_slot f l) ≡ true → has_packet f n l ≡ true
    unfolding has_packet
    packet_some h e = rw (ne_eqb n 0 some, le-leb f 31 h) e

    -- the slot there, read
    module _ (within : f ≤ 31) (o : Option DTVCCPacket) (read : ReadAs (head_slot f l) o) where
      by_slot : (b : Bool) → slot_fine (head_slot f l) ≡ b → has_packet f n l ≡ b
      unfolding has_packet
      by_slot b e = rw (ne_eqb n 0 some, le-leb f 31 within) e

      -- it is no packet
      pub packet_unread : o ≡ None → has_packet f n l ≡ false
      packet_unread e = by_slot false (none_given _ _ o read e)

      -- it is one
      pub packet_reads : (x : DTVCCPacket) → o ≡ Some x → (has_packet f n l ≡ true) × (x ≡ packet_at (head_run f l))
      packet_reads x e = let g = some_given _ _ o read x e in (by_slot true g.0, g.1)

  -- so one waits
  pub has_waiting : has_packet f n l ≡ true → n ≡ 0 → ⊥
  has_waiting e z = true≢false (sym e ∙ packet_none z)

-- the place of the head afterwards
module _ (f n : ℕ) (some : n ≡ 0 → ⊥) where
  -- the last was taken
  pub head_last : n - 1 ≡ 0 → 0 ≡ next_head f n
  unfolding next_head
  head_last z = rw (eq-eqb n 1 (omega (arith, some)))

  -- others are left
  pub head_next : (n - 1 ≡ 0 → ⊥) → (f + 1) % 32 ≡ next_head f n
  unfolding next_head
  head_next z = rw (ne_eqb n 1 (λ o. z (omega (arith, o))))
