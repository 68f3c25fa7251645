-- What reading a packet answers, by each way out. Assumes nothing.
use mathlib.Core.Path.{◌≡◌, sym, ap, ◌∙◌}
use mathlib.Core.Bool.{true, false}
use mathlib.Core.List.{List}
use Prim.Native.Nat.{ℕ}
use native.Mathlib.Omega.{arith}
use lib.ListN.{length, get_or, take}
use lib.Seq.{take_all}
use Rattle.model.specs.Said.{Said, Outcome, refused, mapped, packet_length_wrong}
use Rattle.model.specs.Packet.{Way, packet_size, read_by}
use Rattle.model.proofs.Limits.{size_most}
use Rattle.packet_moves.specs.Moves.{Goes, packet_with, blocks_at}
use Rattle.packet_moves.proofs.Fronts.{none_by, wrong_by, blocks_by}
use Rattle.packet_blocks.specs.declared.Filled.{Filled}
use Rattle.packet_blocks.specs.Reading.{filled_with}

module _ (way : Way) (d : List ℕ) where
  -- no bytes
  pub none_read : (n : ℕ) → n ≡ 0 → length d ≡ n → (why : Said) → why ≡ packet_length_wrong 1 n 0 → refused why ≡ mapped filled_with (read_by way d)
  none_read n z l why m = ap refused (m ∙ rw z) ∙ ap (mapped filled_with) (sym (none_by way d (l ∙ z)))

  module _ (some : length d ≡ 0 → ⊥) (size : ℕ) (is : size ≡ packet_size (get_or d 0 0)) where
    -- a wrong length
    pub wrong_read : way.wrong size (length d) ≡ true → (why : Said) → why ≡ packet_length_wrong size (length d) 0 → refused why ≡ mapped filled_with (read_by way d)
    wrong_read w why m = ap refused m ∙ ap (mapped filled_with) (sym (wrong_by way d some size is w))

    -- else the blocks tell the packet: there are no more than 128 bytes
    pub blocks_read : (step : ℕ → ℕ → ℕ → ℕ) → Goes way step → way.wrong size (length d) ≡ false → (r : Outcome Filled)
        → r ≡ mapped filled_with (mapped (packet_with d) (blocks_at way (take 128 d) 1)) → r ≡ mapped filled_with (read_by way d)
    blocks_read step goes w r k =
        let all : take 128 d ≡ d = take_all 128 d (omega (arith, goes.fits size (length d) w, is, size_most (get_or d 0 0))) in
        rw all at k ∙ ap (mapped filled_with) (sym (blocks_by way d some size is w))
