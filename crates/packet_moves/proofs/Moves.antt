-- How the readers move from block to block. Assumes nothing.
use mathlib.Core.Path.{◌≡◌, refl, sym, ap, ◌∙◌}
use mathlib.Core.Bool.{Bool, true, false, true≢false}
use mathlib.Core.List.{List, [], ◌++◌}
use Prim.Native.Nat.{ℕ, ◌+◌, ◌-◌, ◌≤◌, ◌<◌}
use native.Mathlib.Omega.{arith}
use lib.Dec.{leb}
use lib.ListN.{length, take, drop, get_or, length-drop, drop_of_length-le}
use lib.Seq.{drop-drop}
use borrow.Author.Tests.{leb-true, leb-false}
use Rattle.model.specs.Said.{Outcome, gave, refused, is_given, mapped}
use Rattle.model.specs.Packet.{Way}
use Rattle.model.proofs.Cases.{by_test, mapped_by}
use Rattle.model.proofs.Blocks.{header_bytes}
use Rattle.model.proofs.Walk.{blocks_none, blocks_stop, blocks_next}
use Rattle.std.specs.Prelude.{Option, Some, None}
use Rattle.model.specs.Block.{short_at}
use Rattle.service_headers.specs.declared.Header.{Header}
use Rattle.service_headers.specs.Head.{header_of}
use Rattle.service_headers.proofs.Heads.{Headed}
use Rattle.service_headers.proofs.Headers.{header_known, read_cut}
use Rattle.packet_moves.specs.Moves.{Goes, kept_for, blocks_at, through_at}
use Rattle.packet_moves.specs.Goes.{part_length, read_is, kept_is}

-- what a header that was read leaves room for
pub head_room : (d : List ℕ) (head : Option Header) (hd : Header) → head ≡ header_of d → head ≡ Some hd → (hd.start ≤ 2) × (hd.size ≤ 31)
head_room d head hd e q = let h = header_known d hd (sym e ∙ q) in (omega (arith, h.start, header_bytes (get_or d 0 0)), h.small)

-- whether blocks read
pub given_mapped : {A B : Type 0} (f : A → B) (o : Outcome A) → is_given (mapped f o) ≡ is_given o
given_mapped f (gave x) = refl
given_mapped f (refused why) = refl

-- the bytes from `here` on
module _ (way : Way) (d : List ℕ) (here : ℕ) where
  -- no bytes are left
  from_none : length d ≤ here → blocks_at way d here ≡ gave []
  from_none h = rw (drop_of_length-le d h, blocks_none way here)

  -- or the reader is through with them
  pub from_through : through_at way d here ≡ true → blocks_at way d here ≡ gave []
  from_through e =
      by_test (leb (length d) here) (λ h. from_none (leb-true (length d) here h))
      (λ h. blocks_stop way here (drop here d) (simp h at e))

  pub given_through : through_at way d here ≡ true → true ≡ is_given (blocks_at way d here)
  given_through e = rw (from_through e)

  -- else some are left, and it does not stop there
  pub not_through : through_at way d here ≡ false → (here < length d) × (way.stops (drop here d) ≡ false)
  not_through e =
      by_test (leb (length d) here) (λ h. absurd (true≢false (simp h at e)))
      (λ h. (leb-false (length d) here h, simp h at e))

  -- then a header tells how it goes on
  module _ (step : ℕ → ℕ → ℕ → ℕ) (goes : Goes way step) (on : through_at way d here ≡ false) (head : Option Header) (is : head ≡ header_of (drop here d)) where
    some_left : 1 ≤ length (drop here d)
    some_left = rw length-drop (omega (arith, (not_through on).0))

    -- where there is none the block is refused
    pub refused_at : head ≡ None → blocks_at way d here ≡ refused (short_at here (drop here d))
    refused_at none =
        blocks_next way here (drop here d) some_left (not_through on).1 (goes.forward (drop here d)) ∙ rw (read_cut here (drop here d) (sym is ∙ none))

    pub given_short : head ≡ None → false ≡ is_given (blocks_at way d here)
    given_short none = rw (refused_at none)

    -- one that is there
    module _ (hd : Header) (q : head ≡ Some hd) where
      whole : header_of (drop here d) ≡ Some hd
      whole = sym is ∙ q

      abbrev pub body : List ℕ
      body = take hd.size (drop (here + hd.start) d)

      pub header : Headed (drop here d) hd.number hd.start hd.size
      header = header_known (drop here d) hd whole

      body_is : take hd.size (drop hd.start (drop here d)) ≡ body
      body_is = rw (drop-drop hd.start here d)

      pub body_length : length body ≡ hd.size
      body_length = ap length (sym body_is) ∙ part_length (drop here d) hd.number hd.start hd.size header

      -- the payload ends within the bytes
      pub reach : here + hd.start + hd.size ≤ length d
      reach = omega (arith, header.fits, length-drop here d, (not_through on).0)

      -- and the next place is within them too, and further on
      pub move_within : (here + step hd.number hd.start hd.size ≤ length d) × (1 ≤ step hd.number hd.start hd.size)
      move_within =
          let by = goes.by (drop here d) hd whole in
          (omega (arith, goes.within (drop here d) hd whole, by, length-drop here d, (not_through on).0), omega (arith, goes.forward (drop here d), by))

      -- the block is read, and then those from the next place on
      pub next_is : blocks_at way d here ≡ mapped (λ cs. kept_for hd.number body ++ cs) (blocks_at way d (here + step hd.number hd.start hd.size))
      next_is =
          blocks_next way here (drop here d) some_left (not_through on).1 (goes.forward (drop here d))
          ∙ rw (read_is (drop here d) hd.number hd.start hd.size header here, ← goes.by (drop here d) hd whole, drop-drop (step hd.number hd.start hd.size) here d)
          (mapped_by (λ cs. kept_is (drop here d) hd.number hd.start hd.size header cs ∙ rw body_is) (blocks_at way d (here + step hd.number hd.start hd.size)))

      -- so that the blocks read where those do
      pub given_next : (r : Bool) → r ≡ is_given (blocks_at way d (here + step hd.number hd.start hd.size)) → r ≡ is_given (blocks_at way d here)
      given_next r k = rw next_is (k ∙ sym (given_mapped (λ cs. kept_for hd.number body ++ cs) (blocks_at way d (here + step hd.number hd.start hd.size))))
