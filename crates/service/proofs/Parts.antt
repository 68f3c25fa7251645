-- The payload of the block at the head of some bytes, as a part of them. Assumes nothing.
use mathlib.Core.Path.{◌≡◌}
use mathlib.Core.List.{List, []}
use Prim.Native.Nat.{ℕ}
use lib.ListN.{take, drop}
use borrow.Author.Tests.{eq-eqb, ne_eqb}
use Rattle.std.specs.Prelude.{None}
use Rattle.model.specs.Block.{block_in, part_in}
use Rattle.service_headers.specs.Head.{header_of}
use Rattle.service_headers.proofs.Heads.{Headed}
use Rattle.service_headers.proofs.Headers.{header_none}

-- none where bytes are missing
pub part_short : (d : List ℕ) → header_of d ≡ None → [] ≡ part_in d
unfolding part_in
part_short d e = simp (header_none d e)

module _ (d : List ℕ) (n st sz : ℕ) (h : Headed d n st sz) where
  -- none where the number is 0
  pub part_null : n ≡ 0 → [] ≡ part_in d
  unfolding part_in block_in
  part_null z = simp (h.whole, h.number, eq-eqb n 0 z)

  -- else the payload
  pub part_some : (n ≡ 0 → ⊥) → take sz (drop st d) ≡ part_in d
  unfolding part_in block_in
  part_some z = simp (h.whole, h.number, ne_eqb n 0 z, h.start, h.size)
