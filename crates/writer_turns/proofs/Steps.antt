-- The turns: what a turn does to the queues and the frame is what the model's turn does. Assumes nothing.
use mathlib.Core.Path.{◌≡◌, refl, sym, ap, ◌∙◌}
use mathlib.Core.Bool.{Bool, true, false, cond, not}
use mathlib.Core.List.{List, [], ◌∷◌}
use Prim.Native.Nat.{ℕ, zero, suc, ◌+◌, ◌-◌, ◌*◌, ◌/◌, ◌≤◌, ◌<◌}
use native.Mathlib.Nat.{add-zero}
use native.Mathlib.Omega.{arith}
use borrow.Author.Tests.{le-leb, lt-leb}
use lib.Dec.{leb}
use lib.ListN.{length, get_or, take, drop}
use lib.Seq.{sets}
use Rattle.model.specs.Frame.{Pair, pair, tri, flat}
use Rattle.model.specs.Mux.{Turned, turn1, turn2, sent_before}
use Rattle.model.proofs.Cases.{by_cond}
use Rattle.writer_frames.specs.Frame as frames
use Rattle.writer_frames.proofs.Stores.{fits_true}
use Rattle.writer_queues.specs.Queue.{pairs_of, queue_of, queue_over, down_to}
use Rattle.writer_turns.specs.Turn.{fits, turns_by, turns_from, taken_from}
use Rattle.writer_turns.specs.Step.{Fits, Done}
use Rattle.writer_queues.proofs.Queues.{Sized, no_pairs, some_pairs, pairs_length, queue_length, down_is}
use Rattle.writer_turns.specs.declared.Course.{Course}
use Rattle.writer_queues.specs.declared.PairQueue.{PairQueue}
use Rattle.writer_turns.specs.declared.Turns.{Turns}

-- what the model's turns leave of a queue: what stood last
abbrev Back : List Pair → List Pair → Type 0
Back q r = (length r ≤ length q) × (r ≡ drop (length q - length r) q)

-- all of it is left
back_same : (q : List Pair) → Back q q
back_same q = let e : length q - length q ≡ 0 = omega arith in (omega arith, rw e)

-- one pair has left
back_more : (x : Pair) (q r : List Pair) → Back q r → Back (x ∷ q) r
back_more x q r (h, e) = let d : suc (length q) - length r ≡ suc (length q - length r) = omega arith in (omega arith, rw d e)

-- what n turns leave
record Leaves (q1 q2 : List Pair) (r : Turned) : Type 0 where
  back1 : Back q1 r.queue1
  back2 : Back q2 r.queue2

mutual
  unfolding turn1

  -- from a field 1 turn on
  leaves1 : (n : ℕ) (pad : Bool) (q1 q2 : List Pair) → Leaves q1 q2 (turn1 n pad q1 q2)
  leaves1 zero pad q1 q2 = record { back1 = back_same q1; back2 = back_same q2 }
  leaves1 (suc n) pad (pair a b ∷ q1) q2 = let l = leaves2 n pad q1 q2 in record { back1 = back_more (pair a b) q1 _ l.back1; back2 = l.back2 }
  leaves1 (suc n) pad [] (x ∷ q2) = let l = leaves2 n pad [] (x ∷ q2) in record { back1 = l.back1; back2 = l.back2 }
  leaves1 (suc n) true [] [] = let l = leaves2 n true [] [] in record { back1 = l.back1; back2 = l.back2 }
  leaves1 (suc n) false [] [] = let l = leaves2 n false [] [] in record { back1 = l.back1; back2 = l.back2 }

  -- from a field 2 turn on
  leaves2 : (n : ℕ) (pad : Bool) (q1 q2 : List Pair) → Leaves q1 q2 (turn2 n pad q1 q2)
  leaves2 zero pad q1 q2 = record { back1 = back_same q1; back2 = back_same q2 }
  leaves2 (suc n) pad q1 (pair a b ∷ q2) = let l = leaves1 n pad q1 q2 in record { back1 = l.back1; back2 = back_more (pair a b) q2 _ l.back2 }
  leaves2 (suc n) true q1 [] = let l = leaves1 n true q1 [] in record { back1 = l.back1; back2 = l.back2 }
  leaves2 (suc n) false q1 [] = let l = leaves1 n false q1 [] in record { back1 = l.back1; back2 = l.back2 }

-- a triple is stored, and then those of the turns that are left
sent_done : (h a b len : ℕ) (f g : List ℕ) (m : Turned) {r : Course} {l : List ℕ} → len + 3 ≤ 95 → g ≡ cond (leb len 92) (sets f len (h ∷ a ∷ b ∷ [])) f
    → Done m (len + 3) g r l → Done (sent_before (tri h a b) m) len f r l
unfolding flat
sent_done h a b len f g m k e d =
    let s : len + 3 ≡ suc (suc (suc len)) = omega arith in
    let t : len + 3 + length (flat m.out) ≡ len + suc (suc (suc (length (flat m.out)))) = omega arith in
    record { course = d.course ∙ rw t; stored = d.stored ∙ rw (e, le-leb len 92 (omega arith), s) }

-- Turns of a frame that has `len` bytes: one law for each way out, in the order of the tests.
module _ (pad : Bool) (q1 q2 : List ℕ) (len : ℕ) (f : List ℕ) where
  -- what turns from field 1's on are to do
  abbrev From1 : ℕ → Course → List ℕ → Type 0
  From1 n r l = Done (turn1 n pad (pairs_of q1) (pairs_of q2)) len f r l

  -- and from field 2's on
  abbrev From2 : ℕ → Course → List ℕ → Type 0
  From2 n r l = Done (turn2 n pad (pairs_of q1) (pairs_of q2)) len f r l

  -- a triple that is put into the frame
  abbrev Put : List ℕ → ℕ → ℕ → ℕ → Type 0
  Put g h a b = g ≡ cond (leb len 92) (sets f len (h ∷ a ∷ b ∷ [])) f

  -- no turn is left, and field 1 has the next
  pub none_left1 : (n : ℕ) → n ≡ 0 → Done (turn1 n pad (pairs_of q1) (pairs_of q2)) len f (record { left1 = length q1 / 2; left2 = length q2 / 2; field2_next = false; len = len }) f
  unfolding turn1 flat
  none_left1 n e = rw e (record { course = rw (pairs_length q1, pairs_length q2, add-zero len); stored = refl })

  -- no turn is left, and field 2 has the next
  pub none_left2 : (n : ℕ) → n ≡ 0 → Done (turn2 n pad (pairs_of q1) (pairs_of q2)) len f (record { left1 = length q1 / 2; left2 = length q2 / 2; field2_next = true; len = len }) f
  unfolding turn1 flat
  none_left2 n e = rw e (record { course = rw (pairs_length q1, pairs_length q2, add-zero len); stored = refl })

  module _ (n : ℕ) (some : n ≡ 0 → ⊥) (room : len + 3 * n ≤ 95) where
    -- a turn, and those that are left
    one_more : n ≡ suc (n - 1)
    one_more = omega (arith, some)

    -- there is room for its triple
    one_room : len + 3 ≤ 95
    one_room = omega (arith, some, room)

    -- field 1 has a pair
    pub pair1 : {g : List ℕ} {r : Course} {l : List ℕ} → 1 < length q1 → Put g 0xFC (get_or q1 0 0) (get_or q1 1 0)
        → Done (turn2 (n - 1) pad (pairs_of (take (length q1 - 2) (drop 2 q1))) (pairs_of q2)) (len + 3) g r l → From1 n r l
    unfolding turn1
    pair1 {g} h e d = rw (one_more, some_pairs q1 h) (sent_done _ _ _ len f g _ one_room e d)

    -- field 1 has none, and field 2 has one
    pub empty1 : {g : List ℕ} {r : Course} {l : List ℕ} → length q1 ≤ 1 → 1 < length q2 → Put g 0xFC 0x80 0x80 → Done (turn2 (n - 1) pad (pairs_of q1) (pairs_of q2)) (len + 3) g r l → From1 n r l
    unfolding turn1
    empty1 {g} h k e d = rw (one_more, no_pairs q1 h, some_pairs q2 k) (sent_done _ _ _ len f g _ one_room e (rw (no_pairs q1 h, some_pairs q2 k) at d))

    -- neither has one, and there is padding
    pub padded1 : {g : List ℕ} {r : Course} {l : List ℕ} → length q1 ≤ 1 → length q2 ≤ 1 → pad ≡ true → Put g 0xF8 0x80 0x80
        → Done (turn2 (n - 1) pad (pairs_of q1) (pairs_of q2)) (len + 3) g r l → From1 n r l
    unfolding turn1
    padded1 {g} h k p e d = rw (one_more, no_pairs q1 h, no_pairs q2 k, p) (sent_done _ _ _ len f g _ one_room e (rw (no_pairs q1 h, no_pairs q2 k, p) at d))

    -- there is none
    pub nothing1 : {r : Course} {l : List ℕ} → length q1 ≤ 1 → length q2 ≤ 1 → pad ≡ false → From2 (n - 1) r l → From1 n r l
    unfolding turn1
    nothing1 h k p d = rw (one_more, no_pairs q1 h, no_pairs q2 k, p) (rw (no_pairs q1 h, no_pairs q2 k, p) at d)

    -- field 2 has a pair
    pub pair2 : {g : List ℕ} {r : Course} {l : List ℕ} → 1 < length q2 → Put g 0xFD (get_or q2 0 0) (get_or q2 1 0)
        → Done (turn1 (n - 1) pad (pairs_of q1) (pairs_of (take (length q2 - 2) (drop 2 q2)))) (len + 3) g r l → From2 n r l
    unfolding turn1
    pair2 {g} h e d = rw (one_more, some_pairs q2 h) (sent_done _ _ _ len f g _ one_room e d)

    -- field 2 has none, and there is padding
    pub padded2 : {g : List ℕ} {r : Course} {l : List ℕ} → length q2 ≤ 1 → pad ≡ true → Put g 0xF9 0x80 0x80 → Done (turn1 (n - 1) pad (pairs_of q1) (pairs_of q2)) (len + 3) g r l → From2 n r l
    unfolding turn1
    padded2 {g} h p e d = rw (one_more, no_pairs q2 h, p) (sent_done _ _ _ len f g _ one_room e (rw (no_pairs q2 h, p) at d))

    -- there is none
    pub nothing2 : {r : Course} {l : List ℕ} → length q2 ≤ 1 → pad ≡ false → Done (turn1 (n - 1) pad (pairs_of q1) (pairs_of q2)) len f r l → From2 n r l
    unfolding turn1
    nothing2 h p d = rw (one_more, no_pairs q2 h, p) (rw (no_pairs q2 h, p) at d)

-- the turns of a frame, from the field whose turn is next
module _ (t : Turns) (n : ℕ) (pad : Bool) where
  -- nothing is done where the turns do not fit
  pub no_fit : {r : Turns} → fits t n ≡ false → r ≡ t → r ≡ cond (fits t n) (taken_from n pad t) t
  no_fit e f = f ∙ rw e

  -- too many pairs in queue 1
  pub over1 : 64 < t.field1.count → fits t n ≡ false
  unfolding fits
  over1 h = simp (lt-leb _ _ h)

  -- too many pairs in queue 2
  pub over2 : t.field1.count ≤ 64 → 64 < t.field2.count → fits t n ≡ false
  unfolding fits
  over2 g h = simp (le-leb _ _ g, lt-leb _ _ h)

  -- no room for the turns
  pub over3 : t.field1.count ≤ 64 → t.field2.count ≤ 64 → frames.fits t.frame n ≡ false → fits t n ≡ false
  unfolding fits
  over3 f g h = simp (le-leb _ _ f, le-leb _ _ g, h)

  -- what fits passes the test
  pub fit : Fits t n → fits t n ≡ true
  unfolding fits
  fit f = simp (le-leb _ _ f.first, le-leb _ _ f.second, fits_true t.frame n f.room)

  -- the bytes of the pairs that are queued
  abbrev lent : PairQueue → List Pair
  lent q = pairs_of (take (2 * q.count - 0) (drop 0 q.bytes))

  -- the turns of queues that are lent as the bytes of their pairs
  pub lent_turns : {len : ℕ} {f g : List ℕ} {c : Course} → Done (turns_by (not t.field2_next) n pad (lent t.field1) (lent t.field2)) len f c g
      → Done (turns_from n pad t) len f c g
  unfolding turns_from queue_of
  lent_turns d =
      let z : 2 * t.field1.count - 0 ≡ 2 * t.field1.count = omega arith in
      let w : 2 * t.field2.count - 0 ≡ 2 * t.field2.count = omega arith in
      rw (z, w) at d

  -- what the model's turns leave stands where it is said to stand
  module _ (f : Fits t n) (one : Sized t.field1) (two : Sized t.field2) where
    -- the turns that fit
    abbrev turns : Turned
    turns = turns_from n pad t

    -- they leave no more than there was
    leaves_from : Leaves (queue_of t.field1) (queue_of t.field2) turns
    unfolding turns_from
    leaves_from =
        by_cond (λ (m : Turned). Leaves (queue_of t.field1) (queue_of t.field2) m) (not t.field2_next)
        (λ _. leaves1 n pad (queue_of t.field1) (queue_of t.field2))
        (λ _. leaves2 n pad (queue_of t.field1) (queue_of t.field2))

    -- no queue has more left than it had
    pub few_left : {len : ℕ} {f g : List ℕ} {c : Course} → Done turns len f c g → (c.left1 ≤ t.field1.count) × (c.left2 ≤ t.field2.count)
    few_left d = let l = leaves_from in
        rw d.course (omega (arith, l.back1.0, queue_length t.field1 one), omega (arith, l.back2.0, queue_length t.field2 two))

    -- what is left of a queue stands in its first places
    left_over : (q : PairQueue) (m : List Pair) → Sized q → Back (queue_of q) m → queue_over q (drop (q.count - length m) (queue_of q)) ≡ queue_over q m
    left_over q m s b = ap (queue_over q) (sym (rw (queue_length q s) at b.1))

    -- the triples are in the frame, and the queues are moved down to what is left
    pub took : {c : Course} {g : List ℕ} {q p : PairQueue} → Done turns t.frame.len t.frame.bytes c g
        → q ≡ down_to t.field1 c.left1 → p ≡ down_to t.field2 c.left2
        → ◌≡◌ {A = Turns} (record { field1 = q; field2 = p; field2_next = c.field2_next; frame = record { bytes = g; len = c.len } }) (cond (fits t n) (taken_from n pad t) t)
    took {c} d h k =
        let l = leaves_from in
        let b = few_left d in
        let one' = h ∙ down_is t.field1 c.left1 one.few b.0 in
        let two' = k ∙ down_is t.field2 c.left2 two.few b.1 in
        rw (fit f, one', two', d.course, d.stored, left_over t.field1 turns.queue1 one l.back1, left_over t.field2 turns.queue2 two l.back2)

-- the next turn is remembered as the other field's
pub not_not : (b : Bool) → not (not b) ≡ b
not_not true = refl
not_not false = refl
