-- A packet that is pushed: what its length tells, and one law for each way out. Assumes nothing.
use mathlib.Core.Path.{◌≡◌, refl, sym, ap, ◌∙◌}
use mathlib.Core.Bool.{Bool, true, false, true≢false}
use mathlib.Core.List.{List, [], ◌∷◌, ◌++◌}
use Prim.Native.Nat.{ℕ, ◌≤◌, ◌<◌}
use native.Mathlib.Omega.{arith}
use borrow.Author.Tests.{ne_eqb, eqb-true, eqb-false, le-leb, lt-leb, le-ltb}
use lib.Dec.{eqb, ltb}
use lib.ListN.{length, drop, replicate}
use Rattle.model.specs.Said.{Said, Outcome, gave, refused, is_given, says, after, checked, full, put_into}
use Rattle.model.specs.Packet.{Packet, packet_length, written_packet}
use Rattle.model.proofs.Cases.{by_test}
use Rattle.model.proofs.Packets.{Shape, shape, length_some, length_empty}
use Rattle.basics.proofs.Runs.{sets_front}
use Rattle.packet.specs.Packet.{packet_of, valid_dtvcc, asked, written}
use Rattle.packet.proofs.Holds.{within_facts, held_valid}
use Rattle.packet.specs.declared.DTVCCPacket.{DTVCCPacket}
use Rattle.slots.specs.Slot.{slot_of}
use Rattle.slots.specs.declared.Slot.{Slot}
use Rattle.writer_storing.specs.Placing.{placing}

-- what a length that was asked for tells
pub length_given : (v : Bool) (n m : ℕ) → gave n ≡ checked v (gave m) → (v ≡ true) × (n ≡ m)
length_given true n m e = (refl, (cc))
length_given false n m e = absurd (true≢false (ap is_given e))

-- a refusal is that of all that is asked
pub length_refused : {A : Type 0} (v : Bool) (why : Said) (m : ℕ) (o : Outcome A) → refused why ≡ checked v (gave m) → checked v o ≡ refused why
length_refused true why m o e = absurd (true≢false (sym (ap is_given e)))
length_refused false why m o e = ap refused (sym (ap says e))

-- a length is 0 for an empty packet alone
pub empty_blocks : (p : Packet) → packet_length p ≡ 0 → length p.blocks ≡ 0
empty_blocks p e =
    by_test (eqb (length p.blocks) 0) (λ t. eqb-true _ _ t)
    (λ t. let h : 1 ≤ length p.blocks = omega (arith, eqb-false (length p.blocks) 0 t) in absurd (omega (arith, length_some p h)))

-- any other has a block
pub some_blocks : (p : Packet) → (packet_length p ≡ 0 → ⊥) → 1 ≤ length p.blocks
some_blocks p n =
    by_test (eqb (length p.blocks) 0) (λ t. absurd (n (length_empty p (eqb-true _ _ t)))) (λ t. omega (arith, eqb-false (length p.blocks) 0 t))

-- the slot that a packet was written into
slot_written : (d : DTVCCPacket) (v : valid_dtvcc d ≡ true) → (packet_length (packet_of d) ≡ 0 → ⊥) → (out : List ℕ)
    → out ≡ after (replicate 128 0) (written d (replicate 128 0)) → (len : ℕ) → len ≡ packet_length (packet_of d)
    → ◌≡◌ {A = Slot} (record { len = len; bytes = out }) (slot_of (packet_of d))
unfolding put_into
slot_written d v n out w len l =
    let b : List ℕ = written_packet (packet_of d) in
    let h : Shape (packet_of d) = shape (packet_of d) (held_valid d (within_facts d v)) (some_blocks (packet_of d) n) in
    let k : ltb 128 (length b) ≡ false = le-ltb 128 (length b) h.most in
    let o : out ≡ b ++ drop (length b) (replicate 128 0) = w ∙ rw (v, k) in
    rw (l, o, sets_front (replicate 128 0) b h.most)

-- one law for each way out, in the order of the tests
module _ (n : ℕ) (d : DTVCCPacket) where
  -- a packet outside its limits
  pub places_bad : {why : Said} → refused why ≡ asked d packet_length → placing n d ≡ refused why
  unfolding placing
  places_bad {why} e = length_refused (valid_dtvcc d) why (packet_length (packet_of d)) _ e

  module _ {len : ℕ} (e : gave len ≡ asked d packet_length) where
    -- the packet is within its limits, and this is its length
    given : (valid_dtvcc d ≡ true) × (len ≡ packet_length (packet_of d))
    given = length_given _ len _ e

    -- an empty packet
    pub places_empty : len ≡ 0 → placing n d ≡ gave []
    unfolding placing
    places_empty k = let g = given in rw (g.0, ← g.1, k)

    module _ (some : len ≡ 0 → ⊥) where
      -- no place is left
      pub places_full : 16 ≤ n → placing n d ≡ refused full
      unfolding placing
      places_full h = let g = given in rw (g.0, ← g.1, ne_eqb len 0 some, le-leb 16 n h)

      -- one is
      pub places_next : n < 16 → (out : List ℕ) → out ≡ after (replicate 128 0) (written d (replicate 128 0)) → placing n d ≡ gave (record { len = len; bytes = out } ∷ [])
      unfolding placing
      places_next h out w = let g = given in
          let u : eqb (packet_length (packet_of d)) 0 ≡ false = ne_eqb (packet_length (packet_of d)) 0 (λ k. some (g.1 ∙ k)) in
          rw (g.0, u, lt-leb 16 n h, slot_written d g.0 (λ k. some (g.1 ∙ k)) out w len g.1)
