-- What is measured of a packet, by each way out. Assumes nothing.
use mathlib.Core.Path.{◌≡◌, refl, sym, ap, ◌∙◌}
use mathlib.Core.Bool.{Bool, true, false}
use mathlib.Core.List.{[]}
use Prim.Native.Nat.{ℕ, ◌≤◌, ◌<◌}
use native.Mathlib.Omega.{arith}
use lib.Count.{ones}
use lib.ListN.{length}
use borrow.Author.Tests.{lt-ltb, le-ltb}
use Rattle.std.specs.Prelude.{Option, Some, None, Result, Ok, Err, is_ok}
use Rattle.caption.specs.declared.Refusal.{Refusal}
use Rattle.caption.specs.Answers.{outcome}
use Rattle.caption.proofs.Outcomes.{given_valid}
use Rattle.model.specs.Lists.{every}
use Rattle.model.specs.Said.{gave, refused, is_given, checked, bad_value, bad_number}
use Rattle.model.specs.Packet.{Packet, new_packet, packet_length}
use Rattle.model.specs.Services.{distinct_services}
use Rattle.model.proofs.Packets.{Valid, length_empty}
use Rattle.model.proofs.Services.{services_counted}
use Rattle.packet_entries.specs.declared.Extent.{Extent}
use Rattle.packet_entries.specs.Extent.{Sized, extent_as}
use Rattle.packet_entries.proofs.Holds.{blocks_count, tests_agree}
use Rattle.packet_entries.proofs.Walks as walks
use Rattle.packet_entries.proofs.Measures.{sized_valid, sized_length}
use Rattle.packet.specs.declared.DTVCCPacket.{DTVCCPacket}
use Rattle.packet.specs.Packet.{packet_of, valid_dtvcc, asked}
use Rattle.packet.specs.Replies.{fields_of, entries_of, agrees}
use Rattle.packet.proofs.Holds.{Places, within_facts, held_valid, services_held, agreed_valid}

-- a new packet
pub new_bad : (q : ℕ) → 3 < q → new_packet q ≡ refused bad_number
unfolding new_packet
new_bad q h = simp (lt-ltb _ _ h)

pub new_good : (q : ℕ) → q ≤ 3 → new_packet q ≡ gave (record { sequence = q; blocks = [] })
unfolding new_packet
new_good q h = simp (le-ltb _ _ h)

-- which is within the limits
pub new_valid : (q : ℕ) → q ≤ 3 → Valid (record { sequence = q; blocks = [] })
unfolding every
new_valid q h = record { sequence = h; blocks = refl; length = omega (arith, length_empty (record { sequence = q; blocks = [] }) refl) }

-- a value that is asked of a packet
module _ {A : Type 0} (p : DTVCCPacket) (f : Packet → A) where
  pub asked_is : (x : A) → valid_dtvcc p ≡ true → x ≡ f (packet_of p) → gave x ≡ asked p f
  asked_is x v e = rw v (ap gave e)

  pub asked_bad : valid_dtvcc p ≡ false → refused bad_value ≡ asked p f
  asked_bad v = rw v

  -- what is worked out of it alone
  pub asked_then : {B : Type 0} (g : A → B) (x : A) → gave x ≡ asked p f → gave (g x) ≡ asked p (λ q. g (f q))
  asked_then g x e =
      let v : valid_dtvcc p ≡ true = given_valid _ _ _ e in
      let same : gave x ≡ gave (f (packet_of p)) = rw v at e in
      let k : x ≡ f (packet_of p) = cc in
      rw v (ap (λ y. gave (g y)) k)

  -- whether it is given tells whether a limit is broken
  pub asked_ok : (r : Result A Refusal) → outcome r ≡ asked p f → is_ok r ≡ valid_dtvcc p
  asked_ok r e = ok r ∙ ap is_given e ∙ given (valid_dtvcc p)
    where
      ok : (r : Result A Refusal) → is_ok r ≡ is_given (outcome r)
      ok (Ok x) = refl
      ok (Err why) = refl

      given : (v : Bool) → is_given (checked v (gave (f (packet_of p)))) ≡ v
      given true = refl
      given false = refl

module _ (p : DTVCCPacket) where
  -- the count is the number of blocks
  pub count_is : p.count ≡ length (packet_of p).blocks
  count_is = sym (blocks_count (fields_of p))

  -- the ones of the set are as many as the services
  pub ones_are : valid_dtvcc p ≡ true → ones p.services ≡ distinct_services (packet_of p)
  ones_are v = ap ones (services_held p v) ∙ services_counted (packet_of p) (held_valid p (within_facts p v))

  -- where the set is that of the services the extent tells whether a limit is broken, and the length
  module _ (places : Places p) (agreed : agrees p ≡ true) (x : Option Extent) (is : x ≡ extent_as p.seq_no p.count (entries_of p)) where
    pub no_extent : x ≡ None → valid_dtvcc p ≡ false
    no_extent q = agreed_valid p places agreed ∙ tests_agree (fields_of p) places.payload ∙ walks.extent_invalid (fields_of p) x is q

    module _ (e : Extent) (q : x ≡ Some e) where
      sized : Sized (fields_of p) e.length e.used
      sized = walks.extent_sized (fields_of p) x is e q

      pub extent_valid : valid_dtvcc p ≡ true
      extent_valid = agreed_valid p places agreed ∙ sized_valid (fields_of p) e.length e.used sized places.payload

      pub extent_length : e.length ≡ packet_length (packet_of p)
      extent_length = sym (sized_length (fields_of p) e.length e.used sized places.payload)

-- the length of a packet that breaks no limit
pub length_most : (p : DTVCCPacket) (n : ℕ) → gave n ≡ asked p packet_length → n ≤ 128
length_most p n e =
    let v : valid_dtvcc p ≡ true = given_valid _ _ _ e in
    let same : gave n ≡ gave (packet_length (packet_of p)) = rw v at e in
    let k : n ≡ packet_length (packet_of p) = cc in
    omega (arith, k, (held_valid p (within_facts p v)).length)
