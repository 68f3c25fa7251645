-- The triples that carry a packet's bytes: the next one, how many there are, and what is left after some. Assumes nothing.
use mathlib.Core.Path.{◌≡◌, refl, ap, ◌∙◌}
use mathlib.Core.Bool.{cond, ◌&&◌}
use mathlib.Core.List.{List, [], ◌∷◌}
use Prim.Native.Nat.{ℕ, zero, suc, ◌+◌, ◌-◌, ◌*◌, ◌/◌, ◌%◌, ◌≤◌}
use native.Mathlib.Omega.{arith}
use borrow.Author.Tests.{ne_eqb, le-leb}
use lib.ListN.{length, take, drop, get_or, length-drop, length-take, drop_of_length-le}
use lib.Seq.{get_or-take, drop-drop, length-take-le}
use Rattle.model.specs.Packet.{most_packet}
use Rattle.model.specs.Frame.{Triple, tri, flat}
use Rattle.model.specs.Mux.{started, continued}
use Rattle.model.proofs.Frames.{flat_length}
use Rattle.model.proofs.Sends.{started_length}
use Rattle.writer_frames.specs.Frame.{appended, mark, triples_at, fits, carries}
use Rattle.writer_frames.proofs.Stores.{fits_true, carries_true}
use Rattle.writer_frames.specs.declared.Frame.{Frame}
use Rattle.slots.specs.Slot.{written_length, written_bytes}
use Rattle.slots.specs.declared.Slot.{Slot}
use Rattle.writer_sending.specs.Slots.{triples_left}

-- the triples of a packet's bytes of which the first `at` have left
abbrev pub left_from : ℕ → List ℕ → List Triple
left_from at d = drop (at / 2) (started d)

-- the packet being sent, of which `sent` bytes have left
pub record Held (s : Slot) (sent : ℕ) : Type 0 where
  pub most : s.len ≤ 128
  pub whole : length (written_bytes s) ≡ written_length s
  pub even : sent % 2 ≡ 0
  pub within : sent ≤ written_length s

-- the triple at a place, of a packet that was begun
continued_at : (k : ℕ) (d : List ℕ) → 2 * k + 2 ≤ length d → drop k (continued d) ≡ tri 0xFE (get_or d (2 * k) 0) (get_or d (2 * k + 1) 0) ∷ drop (suc k) (continued d)
unfolding continued
continued_at k [] h = absurd (omega arith)
continued_at k (a ∷ []) h = absurd (omega arith)
continued_at zero (a ∷ b ∷ d) h = refl
continued_at (suc k) (a ∷ b ∷ d) h =
    let e : 2 * suc k ≡ suc (suc (2 * k)) = omega arith in
    let f : suc (suc (2 * k)) + 1 ≡ suc (suc (2 * k + 1)) = omega arith in
    rw (e, f) (continued_at k d (omega arith))

-- the triple at a place, of a packet
started_at : (k : ℕ) (d : List ℕ) → 2 * k + 2 ≤ length d → drop k (started d) ≡ tri (mark (2 * k)) (get_or d (2 * k) 0) (get_or d (2 * k + 1) 0) ∷ drop (suc k) (started d)
unfolding started
started_at k [] h = absurd (omega arith)
started_at k (a ∷ []) h = absurd (omega arith)
started_at zero (a ∷ b ∷ d) h = refl
started_at (suc k) (a ∷ b ∷ d) h =
    let e : 2 * suc k ≡ suc (suc (2 * k)) = omega arith in
    let f : suc (suc (2 * k)) + 1 ≡ suc (suc (2 * k + 1)) = omega arith in
    rw (ne_eqb (2 * suc k) 0 (λ z. omega arith), e, f) (continued_at k d (omega arith))

-- the triple that leaves next
pub left_next : (at : ℕ) (d : List ℕ) → at % 2 ≡ 0 → at + 2 ≤ length d → left_from at d ≡ tri (mark at) (get_or d at 0) (get_or d (at + 1) 0) ∷ left_from (at + 2) d
left_next at d v h =
    let e : 2 * (at / 2) ≡ at = omega arith in
    let f : (at + 2) / 2 ≡ suc (at / 2) = omega arith in
    rw f (rw e at (started_at (at / 2) d (omega arith)))

-- nothing is left
pub left_end : (at : ℕ) (d : List ℕ) → at % 2 ≡ 0 → length d ≤ at → left_from at d ≡ []
left_end at d v h = drop_of_length-le (started d) {i = at / 2} (omega (arith, started_length d))

-- what is left after k triples
pub left_drop : (k at : ℕ) (d : List ℕ) → drop k (left_from at d) ≡ left_from (at + 2 * k) d
left_drop k at d = let e : (at + 2 * k) / 2 ≡ at / 2 + k = omega arith in rw e (drop-drop k (at / 2) (started d))

-- a packet of which `sent` bytes have left
module _ (s : Slot) (sent : ℕ) (h : Held s sent) where
  -- how many triples are left
  pub left_length : length (left_from sent (written_bytes s)) ≡ (written_length s - sent) / 2
  left_length =
      let e = h.even in
      let w = h.within in
      length-drop (sent / 2) (started (written_bytes s)) ∙ (omega (arith, started_length (written_bytes s), h.whole))

  -- as the code finds it
  pub left_triples : triples_left s.len sent ≡ (written_length s - sent) / 2
  unfolding triples_left
  left_triples = rw (le-leb s.len most_packet h.most)

  -- so many bytes of a frame take n of them
  pub put_length : (n : ℕ) → sent + 2 * n ≤ written_length s → length (flat (take n (left_from sent (written_bytes s)))) ≡ 3 * n
  put_length n k =
      flat_length (take n (left_from sent (written_bytes s)))
      ∙ ap (λ j. 3 * j) (length-take-le n (left_from sent (written_bytes s)) (omega (arith, left_length)))

-- the triples that a frame takes from a slot
carried_take : (n at : ℕ) (d : List ℕ) (m : ℕ) → at % 2 ≡ 0 → at + 2 * n ≤ m → m ≤ length d → triples_at n at d ≡ take n (left_from at (take m d))
unfolding triples_at
carried_take zero at d m v h k = refl
carried_take (suc n) at d m v h k =
    let l : length (take m d) ≡ m = length-take-le m d k in
    rw (left_next at (take m d) v (omega arith), get_or-take m d at 0 (omega arith), get_or-take m d (at + 1) 0 (omega arith), carried_take n (at + 2) d m (omega arith) (omega arith) k)

-- the frame takes those of the model
pub carried : (f : Frame) (s : Slot) (sent n : ℕ) → Held s sent → sent + 2 * n ≤ written_length s → f.len + 3 * n ≤ 95
    → cond (fits f n && carries sent n) (appended f (flat (triples_at n sent s.bytes))) f ≡ appended f (flat (take n (left_from sent (written_bytes s))))
unfolding written_bytes
carried f s sent n h there room =
    let most = h.most in
    let l : written_length s ≤ length s.bytes = omega (arith, h.whole, length-take (written_length s) s.bytes) in
    rw (fits_true f n room, carries_true sent n (omega arith), carried_take n sent s.bytes (written_length s) h.even there l)
