-- What the flat bytes of a queue are in the model: a pair pushed stands last, and the last pairs stand first once others have left. Assumes nothing.
use mathlib.Core.Path.{◌≡◌, refl, sym, ap, ◌∙◌}
use mathlib.Core.Bool.{Bool, true, false}
use mathlib.Core.List.{List, [], ◌∷◌, ◌++◌}
use Prim.Native.Nat.{ℕ, zero, suc, ◌+◌, ◌-◌, ◌*◌, ◌/◌, ◌%◌, ◌≤◌, ◌<◌}
use native.Mathlib.Nat.{zero-add}
use native.Mathlib.Numerals.{add-one}
use native.Mathlib.Omega.{arith}
use borrow.Author.Tests.{le-leb, lt-leb}
use lib.Dec.{leb}
use lib.ListN.{length, set, take, drop, get_or, length-append, length-drop, take-append-drop}
use lib.Seq.{length-take-le, take_at, take_all, sets, length-sets}
use Rattle.model.specs.Said.{Outcome, gave, refused, mapped, bad_value, full}
use Rattle.model.specs.Frame.{Pair, pair}
use Rattle.model.specs.Mux.{is_null, push_pair, queued}
use Rattle.basics.proofs.Runs.{sets_append, sets_front}
use Rattle.writer_queues.specs.Queue.{pairs_of, queue_of, pair_bytes, queue_over, push_outcome, down_to}
use Rattle.writer_queues.specs.declared.PairQueue.{PairQueue}

-- a pair in the first place that is free
abbrev pub pushed : PairQueue → ℕ → ℕ → PairQueue
pushed q a b = record { bytes = set (set q.bytes (2 * q.count) a) (2 * q.count + 1) b; count = q.count + 1 }

-- too few bytes for a pair
pub no_pairs : (l : List ℕ) → length l ≤ 1 → pairs_of l ≡ []
unfolding pairs_of
no_pairs [] h = refl
no_pairs (a ∷ []) h = refl
no_pairs (a ∷ b ∷ l) h = absurd (omega arith)

-- the first pair of bytes, and the others
pub some_pairs : (l : List ℕ) → 1 < length l → pairs_of l ≡ pair (get_or l 0 0) (get_or l 1 0) ∷ pairs_of (take (length l - 2) (drop 2 l))
unfolding pairs_of
some_pairs [] h = absurd (omega arith)
some_pairs (a ∷ []) h = absurd (omega arith)
some_pairs (a ∷ b ∷ l) h = rw (take_all (suc (suc (length l)) - 2) l (omega arith))

-- two bytes a pair
pub pairs_length : (l : List ℕ) → length (pairs_of l) ≡ length l / 2
unfolding pairs_of
pairs_length [] = refl
pairs_length (a ∷ []) = refl
pairs_length (a ∷ b ∷ l) = omega (arith, pairs_length l)

-- whole pairs, and their bytes
pairs_bytes : (l : List ℕ) → length l % 2 ≡ 0 → pair_bytes (pairs_of l) ≡ l
unfolding pairs_of pair_bytes
pairs_bytes [] e = refl
pairs_bytes (x ∷ []) e = absurd (omega arith)
pairs_bytes (x ∷ y ∷ l) e = ap (λ (r : List ℕ). x ∷ y ∷ r) (pairs_bytes l (omega arith))

-- the bytes of pairs, and the pairs
bytes_pairs : (ps : List Pair) → pairs_of (pair_bytes ps) ≡ ps
unfolding pairs_of pair_bytes
bytes_pairs [] = refl
bytes_pairs (pair a b ∷ ps) = ap (λ (r : List Pair). pair a b ∷ r) (bytes_pairs ps)

-- pairs behind pairs
bytes_append : (ps qs : List Pair) → pair_bytes (ps ++ qs) ≡ pair_bytes ps ++ pair_bytes qs
unfolding pair_bytes
bytes_append [] qs = refl
bytes_append (pair a b ∷ ps) qs = ap (λ (r : List ℕ). a ∷ b ∷ r) (bytes_append ps qs)

-- a pair is two bytes
bytes_length : (ps : List Pair) → length (pair_bytes ps) ≡ 2 * length ps
unfolding pair_bytes
bytes_length [] = refl
bytes_length (pair a b ∷ ps) = omega (arith, bytes_length ps)

-- a queue within its limits
pub record Sized (q : PairQueue) : Type 0 where
  pub few : q.count ≤ 64
  pub flat : length q.bytes ≡ 128

-- a queue whose pairs are there
module _ (q : PairQueue) (h : 2 * q.count ≤ length q.bytes) where
  -- their bytes
  taken : length (take (2 * q.count) q.bytes) ≡ 2 * q.count
  taken = length-take-le (2 * q.count) q.bytes h

  -- as many pairs as are counted
  pub count_length : length (queue_of q) ≡ q.count
  unfolding queue_of
  count_length = omega (arith, taken, pairs_length (take (2 * q.count) q.bytes))

  -- the bytes of the pairs that are queued
  queue_bytes : pair_bytes (queue_of q) ≡ take (2 * q.count) q.bytes
  unfolding queue_of
  queue_bytes = pairs_bytes (take (2 * q.count) q.bytes) (omega (arith, taken))

  -- the pairs that are queued are in their places
  pub over_same : queue_over q (queue_of q) ≡ q
  unfolding queue_over
  over_same =
      rw (count_length, queue_bytes, sets_front q.bytes (take (2 * q.count) q.bytes) (omega (arith, taken)), taken, take-append-drop (2 * q.count) q.bytes)

module _ (q : PairQueue) (s : Sized q) where
  -- its pairs are there
  there : 2 * q.count ≤ length q.bytes
  there = omega (arith, s.few, s.flat)

  -- as many pairs as are counted
  pub queue_length : length (queue_of q) ≡ q.count
  queue_length = count_length q there

  -- one more pair stands behind them
  pub over_pushed : (a b : ℕ) → q.count < 64 → queue_over q (queue_of q ++ (pair a b ∷ [])) ≡ pushed q a b
  unfolding queue_over pair_bytes
  over_pushed a b h =
      let g = s.flat in
      let n : ℕ = 2 * q.count in
      let l : length (take n q.bytes) ≡ n = length-take-le n q.bytes (omega arith) in
      let c : length (queue_of q ++ (pair a b ∷ [])) ≡ q.count + 1 = simp (length-append, queue_length) in
      let z : sets q.bytes 0 (take n q.bytes) ≡ q.bytes = sets_front q.bytes (take n q.bytes) (omega arith) ∙ rw l (take-append-drop n q.bytes) in
      rw (c, bytes_append (queue_of q) (pair a b ∷ []), queue_bytes q there, sets_append (take n q.bytes) (a ∷ b ∷ []) q.bytes 0, z, l, zero-add n, add-one n)

  -- pairs in the places of the queue
  module _ (ps : List Pair) (few : length ps ≤ 64) where
    -- are queued
    pub over_queue : queue_of (queue_over q ps) ≡ ps
    unfolding queue_of queue_over
    over_queue =
        let b = bytes_length ps in
        rw (sets_front q.bytes (pair_bytes ps) (omega (arith, s.flat)), take_at (pair_bytes ps) (drop (length (pair_bytes ps)) q.bytes) (2 * length ps) b) (bytes_pairs ps)

    -- within the limits
    pub over_sized : Sized (queue_over q ps)
    unfolding queue_over
    over_sized = record { few = few; flat = length-sets q.bytes 0 (pair_bytes ps) ∙ s.flat }

-- the pairs behind the first k
pairs_behind : (k n : ℕ) (l : List ℕ) → 2 * (k + n) ≤ length l → drop k (pairs_of (take (2 * (k + n)) l)) ≡ pairs_of (take (2 * n) (drop (2 * k) l))
unfolding pairs_of
pairs_behind zero n l h = rw (zero-add n)
pairs_behind (suc k) n [] h = absurd (omega arith)
pairs_behind (suc k) n (a ∷ []) h = absurd (omega arith)
pairs_behind (suc k) n (a ∷ b ∷ l) h =
    let e : 2 * (suc k + n) ≡ suc (suc (2 * (k + n))) = omega arith in
    let f : 2 * suc k ≡ suc (suc (2 * k)) = omega arith in
    rw (e, f) (pairs_behind k n l (omega arith))

-- the last pairs of a queue in its first places
pub down_bytes : (q : PairQueue) (n : ℕ) {d : List ℕ} → Sized q → n ≤ q.count → d ≡ sets q.bytes 0 (take (2 * n) (drop (2 * (q.count - n)) q.bytes))
    → ◌≡◌ {A = PairQueue} (record { bytes = d; count = n }) (queue_over q (drop (q.count - n) (queue_of q)))
unfolding queue_over queue_of
down_bytes q n s h e =
    let k : ℕ = q.count - n in
    let c : 2 * q.count ≡ 2 * (k + n) = omega arith in
    let half : 2 * n / 2 ≡ n = omega arith in
    let l : length (take (2 * n) (drop (2 * k) q.bytes)) ≡ 2 * n = length-take-le (2 * n) (drop (2 * k) q.bytes) (omega (arith, length-drop (2 * k) q.bytes, s.few, s.flat)) in
    let p : drop k (pairs_of (take (2 * q.count) q.bytes)) ≡ pairs_of (take (2 * n) (drop (2 * k) q.bytes)) = rw c (pairs_behind k n q.bytes (omega (arith, s.few, s.flat))) in
    rw (e, p, pairs_bytes (take (2 * n) (drop (2 * k) q.bytes)) (omega (arith, l)), pairs_length (take (2 * n) (drop (2 * k) q.bytes)), l, half)

-- A queue counted down: one law for each way out.
module _ (q : PairQueue) (n : ℕ) where
  -- more pairs than places
  pub down_over : 64 < q.count → q ≡ down_to q n
  unfolding down_to
  down_over h = simp (lt-leb _ _ h)

  -- fewer than are to be left
  pub down_few : q.count ≤ 64 → q.count < n → q ≡ down_to q n
  unfolding down_to
  down_few g h = simp (le-leb _ _ g, lt-leb _ _ h)

  -- the last ones are left
  pub down_is : q.count ≤ 64 → n ≤ q.count → down_to q n ≡ queue_over q (drop (q.count - n) (queue_of q))
  unfolding down_to
  down_is g h = simp (le-leb _ _ g, le-leb _ _ h)

-- One law for each way out of a push, in the order of the tests.
module _ (q : PairQueue) (a b : ℕ) where
  -- the queue with the pair
  abbrev Pushed : Outcome PairQueue → Type 0
  Pushed o = o ≡ mapped (queue_over q) (push_outcome q a b)

  -- more pairs than places
  pub push_over : 64 < q.count → Pushed (refused bad_value)
  push_over h = simp (lt-leb _ _ h)

  -- the pair that is dropped
  pub push_null : {n : Bool} → Sized q → n ≡ is_null (pair a b) → n ≡ true → Pushed (gave q)
  unfolding push_pair
  push_null s e t =
      let i : is_null (pair a b) ≡ true = sym e ∙ t in
      rw (le-leb _ _ s.few, i, over_same q (there q s))

  -- no place left
  pub push_full : {n : Bool} → Sized q → n ≡ is_null (pair a b) → n ≡ false → q.count ≡ 64 → Pushed (refused full)
  unfolding push_pair queued
  push_full s e t h =
      let i : is_null (pair a b) ≡ false = sym e ∙ t in
      let f : leb 64 q.count ≡ true = le-leb 64 q.count (omega arith) in
      rw (le-leb _ _ s.few, i, queue_length q s, f)

  -- a place is left
  pub push_free : {n : Bool} {r : PairQueue} → Sized q → n ≡ is_null (pair a b) → n ≡ false → (q.count ≡ 64 → ⊥) → r ≡ pushed q a b → Pushed (gave r)
  unfolding push_pair queued
  push_free s e t h p =
      let i : is_null (pair a b) ≡ false = sym e ∙ t in
      let f : q.count < 64 = omega (arith, s.few) in
      let g : leb 64 q.count ≡ false = lt-leb 64 q.count f in
      rw (le-leb _ _ s.few, i, queue_length q s, g, over_pushed q s a b f, p)
