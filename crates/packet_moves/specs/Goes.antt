-- How the two readers move past a block, and that both move as `Goes` says. Assumes nothing.
use mathlib.Core.Path.{◌≡◌, sym, ap, ◌∙◌}
use mathlib.Core.Bool.{true, false, cond}
use mathlib.Core.List.{List, [], ◌++◌}
use Prim.Native.Nat.{ℕ, ◌+◌, ◌≤◌}
use native.Mathlib.Omega.{arith}
use lib.Dec.{eqb, ltb}
use lib.ListN.{length, take, drop, length-drop}
use lib.Seq.{length-take-le}
use borrow.Author.Tests.{eq-eqb, ne_eqb, eqb-true, eqb-false, ltb-false, not-false}
use Rattle.model.specs.Said.{gave}
use Rattle.model.specs.Block.{Block, block_in, read_block_at}
use Rattle.model.specs.Packet.{plainly, tidily, plain_move, tidy_move, kept}
use Rattle.model.proofs.Cases.{by_test, by_cond}
use Rattle.model.proofs.Blocks.{not_short, written_block_length, written_length}
use Rattle.model.proofs.Limits.{tidy_least, read_from}
use Rattle.service_headers.proofs.Heads.{Headed}
use Rattle.service_headers.proofs.Headers.{header_known}
use Rattle.packet_moves.specs.Moves.{plain_step, tidy_step, Goes, kept_for}

-- bytes whose header was read
module _ (d : List ℕ) (n st sz : ℕ) (h : Headed d n st sz) where
  abbrev pub part : List ℕ
  part = take sz (drop st d)

  pub part_length : length part ≡ sz
  part_length = length-take-le sz (drop st d) (rw length-drop (omega (arith, h.fits)))

  pub read_is : (offset : ℕ) → read_block_at offset d ≡ gave (block_in d)
  unfolding read_block_at
  read_is offset = simp h.whole

  block_null : n ≡ 0 → block_in d ≡ record { number = n; payload = [] }
  unfolding block_in
  block_null z = simp (h.number, z)

  block_named : (n ≡ 0 → ⊥) → block_in d ≡ record { number = n; payload = part }
  unfolding block_in
  block_named z = simp (h.number, ne_eqb n 0 z, h.start, h.size)

  -- which blocks are kept
  pub kept_is : (cs : List Block) → kept (block_in d) cs ≡ kept_for n part ++ cs
  unfolding kept_for
  kept_is cs =
      by_test (eqb n 0)
      (λ e. rw (block_null (eqb-true _ _ e), e))
      (λ e. rw (block_named (eqb-false _ _ e), e) (by_test (eqb (length part) 0) (λ z. rw z) (λ z. rw z)))
      -- how far the readers move on

  move_tidy : tidy_step n st sz ≡ tidy_move d
  unfolding tidy_move
  move_tidy = rw (h.start, h.size)

  move_plain : plain_step n st sz ≡ plain_move d
  unfolding plain_move
  move_plain =
      by_test (eqb n 0)
      (λ e. rw (e, block_null (eqb-true _ _ e)))
      (λ e. rw (e, block_named (eqb-false _ _ e))
      (by_test (eqb sz 0)
      (λ z. let q : eqb (length part) 0 ≡ true = eq-eqb _ _ (part_length ∙ eqb-true _ _ z) in rw (z, q))
      (λ z. let q : eqb (length part) 0 ≡ false = ne_eqb _ _ (λ w. eqb-false _ _ z (sym part_length ∙ w)) in
      let l : 1 ≤ length part = omega (arith, part_length, eqb-false sz 0 z) in
      rw (z, q) (sym (written_block_length (record { number = n; payload = part }) l ∙ written_length (record { number = n; payload = part }) ∙ ap (λ k. cond (ltb n 7) 1 2 + k) part_length)))))

-- the plain reader goes forward
plain_least : (d : List ℕ) → 1 ≤ plain_move d
unfolding plain_move
plain_least d =
    by_cond (λ k. 1 ≤ k) (eqb (length (block_in d).payload) 0) (λ _. omega arith)
    (λ e. let some : 1 ≤ length (block_in d).payload = omega (arith, eqb-false (length (block_in d).payload) 0 e) in
    omega (arith, written_block_length (block_in d) some, written_length (block_in d)))

-- and past the payload of a block that is kept
plain_past : (n st sz : ℕ) → (n ≡ 0 → ⊥) → (sz ≡ 0 → ⊥) → 1 + sz ≤ plain_step n st sz
plain_past n st sz a b = rw (ne_eqb n 0 a, ne_eqb sz 0 b) (by_cond (λ k. 1 + sz ≤ k + sz) (ltb n 7) (λ _. omega arith) (λ _. omega arith))

pub plain_goes : Goes plainly plain_step
plain_goes =
    record {
      by = λ d h e. move_plain d h.number h.start h.size (header_known d h e);
      forward = plain_least;
      within = λ d h e. (read_from d (not_short d (header_known d h e).whole)).plain.most;
      past = λ n st sz s. plain_past n st sz;
      fits = λ size actual w. ltb-false size actual w;
    }

pub tidy_goes : Goes tidily tidy_step
tidy_goes =
    record {
      by = λ d h e. move_tidy d h.number h.start h.size (header_known d h e);
      forward = tidy_least;
      within = λ d h e. (read_from d (not_short d (header_known d h e).whole)).tidy.most;
      past = λ n st sz s a b. omega (arith, s);
      fits = λ size actual w. omega (arith, eqb-true size actual (not-false _ w));
    }
