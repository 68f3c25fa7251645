-- What the sums of places within the limits say of the packet that they hold. Assumes nothing.
use mathlib.Core.Path.{◌≡◌, sym, ◌∙◌}
use mathlib.Core.Bool.{true}
use Prim.Native.Nat.{ℕ, ◌≤◌}
use native.Mathlib.Omega.{arith}
use lib.Dec.{eqb}
use lib.ListN.{length}
use Rattle.model.specs.Packet.{packet_length}
use Rattle.model.proofs.Cases.{by_cond}
use Rattle.packet_entries.specs.Fields.{Fields, packet_in, valid_fields}
use Rattle.packet_entries.specs.Extent.{length_with, Sized}
use Rattle.packet_entries.proofs.Holds.{Within, within_facts, within_valid, length_held}

-- the length of a packet is at most 128
pub length_few : (count lengths : ℕ) → lengths ≤ 127 → length_with count lengths ≤ 128
length_few count lengths h = by_cond (λ k. k ≤ 128) (eqb count 0) (λ _. omega arith) (λ _. omega arith)

module _ (p : Fields) (n u : ℕ) (s : Sized p n u) where
  pub sized_within : Within p
  sized_within = within_facts p s.valid

  pub length_small : n ≤ 128
  length_small = rw s.length_is (length_few p.count _ sized_within.lengths)

  pub sized_valid : length p.payload ≡ 127 → valid_fields p ≡ true
  sized_valid full = within_valid p sized_within full

  pub sized_length : length p.payload ≡ 127 → packet_length (packet_in p) ≡ n
  sized_length full = length_held p sized_within full ∙ sym s.length_is
