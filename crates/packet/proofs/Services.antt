-- What the answers tell of the services of a packet, whatever results their contracts allow. Assumes nothing.
use mathlib.Core.Path.{◌≡◌, sym, ap, ◌∙◌}
use mathlib.Core.Bool.{Bool, true, false, cond, and-true, and-false, true≢false}
use mathlib.Core.List.{List}
use Prim.Native.Nat.{ℕ, ◌/◌, ◌%◌, ◌^◌, ◌<◌}
use borrow.Author.Tests.{eq-eqb, ne_eqb}
use lib.Count.{ones}
use lib.ListN.{length}
use Rattle.std.specs.Prelude.{Result, Ok, Err}
use Rattle.model.specs.Said.{Outcome, gave, refused, says, after, mapped, checked}
use Rattle.model.specs.Packet.{Packet}
use Rattle.model.specs.Services.{among, numbers_of, services_of, distinct_services}
use Rattle.model.proofs.Cases.{by_test}
use Rattle.model.proofs.Services.{bit_among}
use Rattle.caption.specs.declared.Refusal.{Refusal}
use Rattle.caption.specs.declared.Refusal.TheVariants.{BadValue}
use Rattle.caption.specs.Answers.{outcome}
use Rattle.caption.proofs.Outcomes.{outcome_injective, says_injective, given_valid}
use Rattle.packet_entries.specs.Fields.{valid_fields}
use Rattle.packet.specs.declared.DTVCCPacket.{DTVCCPacket}
use Rattle.packet.specs.Packet.{packet_of, valid_dtvcc, over, laid, left, asked, bytes_of, written}
use Rattle.packet.specs.Replies.{fields_of}
use Rattle.packet.proofs.Holds.{services_held}
use Rattle.packet.proofs.Measures.{ones_are}

-- what is told of a packet, by the test of its limits
pub told : {A : Type 0} (v : Bool) (x : A) (r : Result A Refusal) → outcome r ≡ checked v (gave x) → r ≡ cond v (Ok x) (Err BadValue)
told true x r e = outcome_injective r (Ok x) e
told false x r e = outcome_injective r (Err BadValue) e

-- the set and the count that are told of a packet
module _ (p : DTVCCPacket) (r : Result ℕ Refusal) (is_set : outcome r ≡ asked p services_of) (s : ℕ) (is : r ≡ Ok s) where
  here : gave s ≡ asked p services_of
  here = rw is at is_set

  valid : valid_dtvcc p ≡ true
  valid = given_valid _ _ _ here

  same : s ≡ services_of (packet_of p)
  same = let e : gave s ≡ gave (services_of (packet_of p)) = rw valid at here in cc

  -- Bit k of the set is 1 exactly if one of the blocks has number k [P15].
  pub set_bit : (k : ℕ) → k < 64 → s / 2 ^ k % 2 ≡ cond (among (numbers_of (packet_of p).blocks) k) 1 0
  unfolding services_of
  set_bit k h = ap (λ (x : ℕ). x / 2 ^ k % 2) same ∙ bit_among 64 (numbers_of (packet_of p).blocks) k h

  -- The count told beside it is the number of its ones [P16].
  pub set_ones : (c : Result ℕ Refusal) → outcome c ≡ asked p distinct_services → c ≡ Ok (ones s)
  set_ones c e =
      let many : ones s ≡ distinct_services (packet_of p) = ap ones (same ∙ sym (services_held p valid)) ∙ ones_are p valid in
      told (valid_dtvcc p) _ c e ∙ rw (valid, many)

-- The packet behind a call has the set of its own services, if the one before it has: every push keeps this [P15].
pub set_kept : (o : Outcome Packet) (old now : DTVCCPacket) → packet_of now ≡ after (packet_of old) o → now ≡ left old o
    → old.services ≡ services_of (packet_of old) → now.services ≡ services_of (packet_of now)
unfolding over
set_kept (gave q) old now m a k = ap (λ (d : DTVCCPacket). d.services) a ∙ ap services_of (sym m)
set_kept (refused why) old now m a k = rw a k

-- so has one that is made or read [P14] [P3] [T1]
pub made_set : (o : Outcome Packet) (x : DTVCCPacket) → mapped packet_of (gave x) ≡ o → gave x ≡ mapped laid o → x.services ≡ services_of (packet_of x)
unfolding over
made_set o x m a =
    let there : gave x ≡ gave (laid (packet_of x)) = rw (sym m) at a in
    let same : x ≡ laid (packet_of x) = cc in
    ap (λ (d : DTVCCPacket). d.services) same

-- A packet whose set is not that of its services: what is told or counted of it, a push and a write are refused with 11, and nothing changes [P15].
module _ (p : DTVCCPacket) (wrong : p.services ≡ services_of (packet_of p) → ⊥) where
  invalid : valid_dtvcc p ≡ false
  unfolding valid_dtvcc valid_fields
  invalid = rw (ne_eqb p.services (services_of (packet_of p)) wrong) (and-false (valid_fields (fields_of p)))

  -- whatever is asked of it
  pub wrong_told : {A : Type 0} (f : Packet → A) (r : Result A Refusal) → outcome r ≡ asked p f → r ≡ Err BadValue
  wrong_told f r e = outcome_injective r (Err BadValue) (e ∙ rw invalid)

  -- a push to it, whatever else is tested
  pub wrong_pushed : (v : Bool) → (v ≡ true → valid_dtvcc p ≡ true) → (o : Outcome Packet) (r : Result (Unit {0}) Refusal) (now : DTVCCPacket)
      → says (outcome r) ≡ says (checked v o) → now ≡ left p (checked v o) → (r ≡ Err BadValue) × (now ≡ p)
  wrong_pushed v only o r now a k =
      let f : v ≡ false = by_test v (λ t. absurd (true≢false (sym (only t) ∙ invalid))) (λ f. f) in
      (says_injective r (Err BadValue) (a ∙ rw f), k ∙ rw f)

  -- writing it
  pub wrong_written : (out end : List ℕ) (c : Result ℕ Refusal) → outcome c ≡ mapped (λ _. length (bytes_of p)) (written p out) → end ≡ after out (written p out)
      → (c ≡ Err BadValue) × (end ≡ out)
  wrong_written out end c a k = (outcome_injective c (Err BadValue) (a ∙ rw invalid), k ∙ rw invalid)

-- With the set of its services it breaks a limit only where its places or the packet in them do [P1].
pub own_set : (p : DTVCCPacket) → p.services ≡ services_of (packet_of p) → valid_dtvcc p ≡ valid_fields (fields_of p)
unfolding valid_dtvcc valid_fields
own_set p e = rw (eq-eqb p.services (services_of (packet_of p)) e) (and-true (valid_fields (fields_of p)))
