-- What a reader answers to bytes, and whether they read. Assumes nothing.
use mathlib.Core.Path.{◌≡◌, refl, sym, ap, ◌∙◌}
use mathlib.Core.Bool.{Bool, true, false}
use mathlib.Core.List.{List}
use Prim.Native.Nat.{ℕ}
use lib.ListN.{length, get_or}
use borrow.Author.Tests.{eq-eqb, ne_eqb}
use Rattle.model.specs.Said.{refused, is_given, mapped, packet_length_wrong}
use Rattle.model.specs.Packet.{Way, packet_size, plainly, read_by, read_packet, reads}
use Rattle.packet_moves.specs.Moves.{packet_with, blocks_at}
use Rattle.packet_moves.proofs.Moves.{given_mapped}

-- what a reader answers to bytes d
module _ (way : Way) (d : List ℕ) where
  pub none_by : length d ≡ 0 → read_by way d ≡ refused (packet_length_wrong 1 0 0)
  unfolding read_by
  none_by z = simp (eq-eqb (length d) 0 z)

  module _ (some : length d ≡ 0 → ⊥) (size : ℕ) (is : size ≡ packet_size (get_or d 0 0)) where
    pub wrong_by : way.wrong size (length d) ≡ true → read_by way d ≡ refused (packet_length_wrong size (length d) 0)
    unfolding read_by
    wrong_by w = simp (ne_eqb (length d) 0 some, ← is, w)

    pub blocks_by : way.wrong size (length d) ≡ false → read_by way d ≡ mapped (packet_with d) (blocks_at way d 1)
    unfolding read_by
    blocks_by w = simp (ne_eqb (length d) 0 some, ← is, w)

-- whether bytes read, by what the plain reader answers
module _ (d : List ℕ) where
  reads_by : reads d ≡ is_given (read_by plainly d)
  unfolding reads read_packet
  reads_by = refl

  -- no bytes do not read
  pub none_reads : length d ≡ 0 → false ≡ reads d
  none_reads z = sym (reads_by ∙ ap is_given (none_by plainly d z))

  module _ (some : length d ≡ 0 → ⊥) (size : ℕ) (is : size ≡ packet_size (get_or d 0 0)) where
    -- nor do more than the header says
    pub long_reads : plainly.wrong size (length d) ≡ true → false ≡ reads d
    long_reads w = sym (reads_by ∙ ap is_given (wrong_by plainly d some size is w))

    -- others do where their blocks do
    pub blocks_reads : plainly.wrong size (length d) ≡ false → (r : Bool) → r ≡ is_given (blocks_at plainly d 1) → r ≡ reads d
    blocks_reads w r k =
        k ∙ sym (reads_by ∙ ap is_given (blocks_by plainly d some size is w) ∙ given_mapped (packet_with d) (blocks_at plainly d 1))
