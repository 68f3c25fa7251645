-- What a valid `DTVCCPacket` holds is a packet within the limits, and a packet laid over any other is the packet held. Assumes nothing.
use mathlib.Core.Path.{◌≡◌, refl, sym, ap, ◌∙◌}
use mathlib.Core.Bool.{Bool, true, false, ◌&&◌, and_comm, and-false}
use Prim.Native.Nat.{ℕ, ◌≤◌}
use native.Mathlib.Omega.{arith}
use lib.Dec.{eqb, leb}
use lib.ListN.{length-replicate}
use borrow.Author.Tests.{eq-eqb, eqb-true, leb-true}
use Rattle.model.specs.Packet.{Packet}
use Rattle.model.specs.Services.{among, bits_of, services_of}
use Rattle.model.proofs.Cases.{by_test, both, and_both}
use Rattle.model.proofs.Packets.{Valid}
use Rattle.model.proofs.Limits.{few_blocks}
use Rattle.packet_services.specs.Services.{services_to}
use Rattle.packet_services.proofs.Services.{set_few}
use Rattle.packet_entries.specs.Fields as fields
use Rattle.packet_entries.proofs.Entries.{held_numbers}
use Rattle.packet_entries.proofs.Holds as held
use Rattle.packet.specs.declared.DTVCCPacket.{DTVCCPacket}
use Rattle.packet.specs.Packet.{packet_of, over, blank, valid_dtvcc}
use Rattle.packet.specs.Replies.{fields_of, packet_at, packet_from, agrees}

-- the places of the three arrays
abbrev pub Places : DTVCCPacket → Type 0
Places p = fields.Places (fields_of p)

-- the empty places have their lengths
pub blank_places : Places blank
blank_places = record { numbers = length-replicate {A = ℕ} 63 0; sizes = length-replicate {A = ℕ} 63 0; payload = length-replicate {A = ℕ} 127 0 }

-- a valid packet, as facts
abbrev pub Within : DTVCCPacket → Type 0
Within p = held.Held (fields_of p)

-- validity: of the places, and of the set
abbrev set_held : DTVCCPacket → Bool
set_held p = eqb p.services (services_of (packet_of p))

valid_parts : (p : DTVCCPacket) → valid_dtvcc p ≡ true → (fields.valid_fields (fields_of p) ≡ true) × (set_held p ≡ true)
unfolding valid_dtvcc fields.valid_fields
valid_parts p e = both (fields.valid_fields (fields_of p)) (set_held p) e

pub within_facts : (p : DTVCCPacket) → valid_dtvcc p ≡ true → Within p
within_facts p e = held.held_facts (fields_of p) (valid_parts p e).0

-- the set of a valid packet is that of its services [P15]
pub services_held : (p : DTVCCPacket) → valid_dtvcc p ≡ true → p.services ≡ services_of (packet_of p)
services_held p e = eqb-true p.services (services_of (packet_of p)) (valid_parts p e).1

-- so that the packet that it holds is within the limits [P1]
pub held_valid : (p : DTVCCPacket) → Within p → Valid (packet_of p)
held_valid p w = w.packet

-- and its entries are within the limits
pub entries_within : (p : DTVCCPacket) → Within p → Places p → held.Within (fields_of p)
entries_within p w places = held.held_within (fields_of p) w places.payload

-- the set of the numbers in their places is that of the services
set_is : (p : DTVCCPacket) → Places p → p.count ≤ 63 → services_to p.count p.numbers ≡ services_of (packet_of p)
unfolding services_of
set_is p places few =
    set_few p.numbers p.count few ∙ ap (bits_of 64) (sym (held_numbers p.count p.numbers p.sizes p.payload (omega (arith, places.numbers))))

-- so that validity is that of the places, where the sets agree, and nowhere else
module _ (p : DTVCCPacket) (places : Places p) where
  valid_as : valid_dtvcc p ≡ agrees p && fields.valid_fields (fields_of p)
  unfolding valid_dtvcc fields.valid_fields agrees
  valid_as =
      by_test (leb p.count 63)
      (λ e. rw (set_is p places (leb-true _ _ e)) (and_comm (fields.valid_fields (fields_of p)) (set_held p)))
      (λ e. rw e (sym (and-false (agrees p))))

  pub agreed_valid : agrees p ≡ true → valid_dtvcc p ≡ fields.valid_fields (fields_of p)
  agreed_valid e = valid_as ∙ rw e

  pub disagreed_invalid : agrees p ≡ false → valid_dtvcc p ≡ false
  disagreed_invalid e = valid_as ∙ rw e

-- a packet laid over any places is what is then held, breaks no limit and keeps the places
module _ (old : DTVCCPacket) (places : Places old) (p : Packet) (v : Valid p) where
  pub over_holds : packet_of (over old p) ≡ p
  unfolding over fields.laid_over
  over_holds = held.over_holds (fields_of old) places p v

  pub over_valid : valid_dtvcc (over old p) ≡ true
  unfolding over fields.laid_over valid_dtvcc fields.valid_fields
  over_valid = and_both _ _ (held.over_valid (fields_of old) places p v) (eq-eqb _ _ (ap services_of (sym over_holds)))

  pub over_places : Places (over old p)
  unfolding over fields.laid_over
  over_places = held.over_places (fields_of old) places p v

  -- the set of its numbers there is that of its services
  pub over_from : packet_from (fields.laid_over (fields_of old) p) ≡ over old p
  unfolding over fields.laid_over
  over_from = ap (λ (s : ℕ). packet_at s (fields.laid_over (fields_of old) p)) (set_is (over old p) over_places (few_blocks p v) ∙ ap services_of over_holds)

-- and that of no numbers is empty
pub blank_from : packet_from (fields_of blank) ≡ blank
unfolding services_to bits_of among
blank_from = refl
