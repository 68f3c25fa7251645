-- The packets that a proposal describes break no limit exactly if those of all numbers do not: one without pieces has no blocks. Assumes nothing.
use mathlib.Core.Path.{◌≡◌, refl, sym, ap, ◌∙◌}
use mathlib.Core.Bool.{Bool, true, false, ◌&&◌}
use mathlib.Core.List.{List, [], ◌∷◌, flat_map}
use Prim.Native.Nat.{ℕ}
use native.Mathlib.Omega.{arith}
use lib.Dec.{eqb, ltb}
use borrow.Author.Tests.{eqb-true, eqb-false, ltb-true, ne_eqb}
use Rattle.model.specs.Lists.{every}
use Rattle.model.specs.Packet.{packet_length, valid_packet}
use Rattle.model.proofs.Cases.{by_test, both}
use Rattle.model_packing.specs.Pieces.{Piece, count_from, those, In, here, there}
use Rattle.model_packing.specs.Proposals.{most_numbers, lies_in, pieces_in, block_for, blocks_in, blank_packet, runs_fit, numbered, one_service, limits}
use Rattle.model_packing.proofs.Lists.{nothing_in, every_in, in_every, count_every, every_count}

-- two truths, each of which follows from the other
pub same_truth : (a b : Bool) → (a ≡ true → b ≡ true) → (b ≡ true → a ≡ true) → a ≡ b
same_truth true b f g = sym (f refl)
same_truth false true f g = g refl
same_truth false false f g = refl

module _ (services : List ℕ) (fill : Piece → List ℕ) (p : ℕ) where
  -- no piece lies in the packet
  abbrev pub Apart : List Piece → Type 0
  Apart ps = (q : Piece) → In q ps → q.packet ≡ p → ⊥

  pub none_in : (b : ℕ) (ps : List Piece) → Apart ps → pieces_in p b ps ≡ []
  unfolding those lies_in
  none_in b [] apart = refl
  none_in b (q ∷ qs) apart = rw (ne_eqb q.packet p (apart q (here refl))) (none_in b qs (λ r i. apart r (there i)))

  -- so it has no block
  no_blocks : (bs : List ℕ) (ps : List Piece) → Apart ps → flat_map (λ b. block_for services fill (pieces_in p b ps)) bs ≡ []
  unfolding flat_map block_for
  no_blocks [] ps apart = refl
  no_blocks (b ∷ bs) ps apart = rw (none_in b ps apart) (no_blocks bs ps apart)

  pub unused : (ps : List Piece) → Apart ps → blocks_in services fill ps p ≡ []
  unfolding blocks_in
  unused ps apart = no_blocks (count_from 0 most_numbers) ps apart

-- either some piece lies in a packet, or none does
pub by_piece : {P : Type 0} (p : ℕ) (ps : List Piece) → ((q : Piece) → In q ps → q.packet ≡ p → P) → (((q : Piece) → In q ps → q.packet ≡ p → ⊥) → P) → P
by_piece p [] some none = none (λ q i _. nothing_in [] refl i)
by_piece p (r ∷ ps) some none =
    by_test (eqb r.packet p)
    (λ e. some r (here refl) (eqb-true r.packet p e))
    (λ e. by_piece p ps (λ q i. some q (there i)) (λ f. none (apart e f)))
  where
    apart : eqb r.packet p ≡ false → ((q : Piece) → In q ps → q.packet ≡ p → ⊥) → (q : Piece) → In q (r ∷ ps) → q.packet ≡ p → ⊥
    apart e f q (here i) k = eqb-false r.packet p e (ap (λ (x : Piece). x.packet) (sym i) ∙ k)
    apart e f q (there i) k = f q i k

module _ (services lengths : List ℕ) (ps : List Piece) where
  -- the packet of a number breaks no limit
  abbrev pub sound : ℕ → Bool
  sound p = valid_packet (blank_packet services ps p)

  -- one without blocks
  sound_unused : (p : ℕ) → ((q : Piece) → In q ps → q.packet ≡ p → ⊥) → sound p ≡ true
  unfolding valid_packet every packet_length
  sound_unused p apart = rw (unused services _ p ps apart)

  sound_all : every (λ (q : Piece). sound q.packet) ps ≡ true → every sound (count_from 0 most_numbers) ≡ true
  sound_all e =
      count_every sound 0 most_numbers
      (λ p _ _. by_piece p ps
      (λ q i k. ap sound (sym k) ∙ every_in (λ (r : Piece). sound r.packet) ps e i)
      (sound_unused p))

  all_sound : every numbered ps ≡ true → every sound (count_from 0 most_numbers) ≡ true → every (λ (q : Piece). sound q.packet) ps ≡ true
  unfolding numbered
  all_sound n e =
      in_every (λ (q : Piece). sound q.packet) ps
      (λ q i. let t = both (ltb q.packet most_numbers) (ltb q.block most_numbers) (every_in numbered ps n i) in
      every_count sound 0 most_numbers q.packet e (omega arith) (omega (arith, ltb-true q.packet most_numbers t.0)))

  -- the limits, with the packets of all numbers in place of those that are described
  pub limits_all : limits services lengths ps ≡ runs_fit services lengths && (every numbered ps && (every (one_service services ps) ps && every sound (count_from 0 most_numbers)))
  unfolding limits
  limits_all =
      by_test (every numbered ps)
      (λ n. ap (λ (b : Bool). runs_fit services lengths && (every numbered ps && (every (one_service services ps) ps && b))) (same_truth _ _ sound_all (all_sound n)))
      (λ n. rw n)
