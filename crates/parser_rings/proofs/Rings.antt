-- The ring of waiting slots: runs laid behind the last, and one slot from the front. Assumes nothing.
use mathlib.Core.Path.{◌≡◌, refl, ap, ◌∙◌}
use mathlib.Core.List.{List, [], ◌∷◌, ◌++◌, map, append_assoc, append-nil}
use mathlib.Core.Bool.{true, false≢true}
use Prim.Native.Nat.{ℕ, zero, suc, ◌+◌, ◌%◌, ◌≤◌, ◌<◌}
use native.Mathlib.Numerals.{add-one}
use native.Mathlib.Omega.{arith}
use lib.ListN.{length, get_or, set, replicate, length-set}
use lib.Seq.{get_or-set_same, get_or-set_other}
use lib.Dec.{eqb, ltb}
use borrow.Author.Tests.{le-leb, eqb-true, ltb-false}
use Rattle.model.specs.Lists.{every}
use Rattle.model.specs.Packet.{packet_size, read_by, read_packet, reads}
use Rattle.model.proofs.Cases.{by_test}
use Rattle.model.proofs.Limits.{size_most}
use Rattle.model.proofs.Frames.{Read, none, also}
use Rattle.slots.specs.Slot.{no_slot, slot_with}
use Rattle.slots.specs.declared.Slot.{Slot}
use Rattle.parser_rings.specs.Ring.{ring_from, slot_run, slot_fine, set_round}
use Rattle.parser_rings.proofs.Places.{take_sets, zeros}

-- the slot of a run
abbrev pub slot_of_run : List ℕ → Slot
slot_of_run g = slot_with (length g) g

-- places that are the same once round
pub ring_round : (n a b : ℕ) (l : List Slot) → a % 32 ≡ b % 32 → ring_from a n l ≡ ring_from b n l
unfolding ring_from
ring_round zero a b l e = refl
ring_round (suc n) a b l e = rw (e, ring_round n (a + 1) (b + 1) l (omega arith))

-- as many slots as are asked
pub ring_length : (n a : ℕ) (l : List Slot) → length (ring_from a n l) ≡ n
unfolding ring_from
ring_length zero a l = refl
ring_length (suc n) a l = ap suc (ring_length n (a + 1) l)

-- a slot put behind n others, fewer than 32
ring_snoc : (n a k : ℕ) (l : List Slot) (s : Slot) → k ≡ (a + n) % 32 → n < 32 → length l ≡ 32 → ring_from a (suc n) (set l k s) ≡ ring_from a n l ++ s ∷ []
unfolding ring_from
ring_snoc zero a k l s e h q =
    let z : a % 32 ≡ k = omega arith in
    let i : k < length l = omega arith in
    rw (z, get_or-set_same l k s no_slot i)
ring_snoc (suc n) a k l s e h q =
    let d : a % 32 ≡ k → ⊥ = λ z. omega arith in
    rw (get_or-set_other l k (a % 32) s no_slot d) (ap (λ (r : List Slot). get_or l (a % 32) no_slot ∷ r) (ring_snoc n (a + 1) k l s (omega arith) (omega arith) q))

-- the places stay as many
pub round_length : (at : ℕ) (l : List Slot) (gs : List (List ℕ)) → length (set_round at l gs) ≡ length l
unfolding set_round
round_length at l [] = refl
round_length at l (g ∷ gs) = round_length (at + 1) (set l (at % 32) (slot_of_run g)) gs ∙ length-set l (at % 32) (slot_of_run g)

-- runs laid behind n slots, together no more than 32
pub ring_laid : (n f : ℕ) (l : List Slot) (gs : List (List ℕ)) → n + length gs ≤ 32 → length l ≡ 32
    → ring_from f (n + length gs) (set_round (f + n) l gs) ≡ ring_from f n l ++ map slot_of_run gs
unfolding set_round
ring_laid n f l [] h q = let z : n + 0 ≡ n = omega arith in rw (z, append-nil (ring_from f n l))
ring_laid n f l (g ∷ gs) h q =
    let z : n + suc (length gs) ≡ n + 1 + length gs = omega arith in
    let w : f + n + 1 ≡ f + (n + 1) = omega arith in
    let s : Slot = slot_of_run g in
    rw (z, w)
    (ring_laid (n + 1) f (set l ((f + n) % 32) s) gs (omega arith) (length-set l ((f + n) % 32) s ∙ q)
    ∙ rw (add-one n, ring_snoc n f ((f + n) % 32) l s refl (omega arith) q) (append_assoc (ring_from f n l) (s ∷ []) (map slot_of_run gs)))

-- a run that reads has at most 128 bytes
reads_short : (g : List ℕ) → reads g ≡ true → length g ≤ 128
unfolding reads read_packet read_by
reads_short g e =
    by_test (eqb (length g) 0)
    (λ z. omega (arith, eqb-true (length g) 0 z))
    (λ z. by_test (ltb (packet_size (get_or g 0 0)) (length g))
    (λ w. absurd (false≢true (rw (z, w) at e)))
    (λ w. omega (arith, ltb-false (packet_size (get_or g 0 0)) (length g) w, size_most (get_or g 0 0))))

-- it is the run of its slot
run_slot : (g : List ℕ) → reads g ≡ true → slot_run (slot_of_run g) ≡ g
run_slot g e = take_sets (replicate 128 0) g (omega (arith, zeros, reads_short g e))

-- and so of runs that read,
pub runs_again : {gs : List (List ℕ)} → Read gs → map slot_run (map slot_of_run gs) ≡ gs
runs_again none = refl
runs_again (also {g} {gs} e r) = rw (run_slot g e, runs_again r)

-- whose slots do
pub runs_fine : {gs : List (List ℕ)} → Read gs → every slot_fine (map slot_of_run gs) ≡ true
unfolding every slot_fine
runs_fine none = refl
runs_fine (also {g} {gs} e r) = rw (le-leb (length g) 128 (reads_short g e), run_slot g e, e) (runs_fine r)
