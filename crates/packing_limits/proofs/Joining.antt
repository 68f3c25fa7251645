-- Pieces that may each stand before those that follow it: their blocks are of one service each, and such are the pieces within the limits.
-- Assumes nothing.
use mathlib.Core.Path.{◌≡◌, refl, sym, ◌∙◌}
use mathlib.Core.Bool.{true}
use mathlib.Core.List.{List, [], ◌∷◌}
use Prim.Native.Nat.{ℕ, ◌+◌, ◌≤◌}
use native.Mathlib.Omega.{arith}
use lib.Dec.{eqb, leb}
use borrow.Author.Tests.{eqb-true, leb-true, eq-eqb, ne_eqb, le-leb}
use Rattle.model.specs.Lists.{every}
use Rattle.model.proofs.Cases.{by_test, both, and_both}
use Rattle.model_packing.specs.Pieces.{Piece, service_of, those, In, here, there}
use Rattle.model_packing.specs.Proposals.{lies_in, pieces_in, one_service}
use Rattle.model_packing.proofs.Lists.{in_every, those_in}
use Rattle.packing_limits.specs.Tables.{first_service, total_size, agrees, enters, joins, all_join}
use Rattle.packing_limits.proofs.Tabled.{lies_own, lies_facts}

-- a block with pieces that takes another is of its service
agrees_facts : (n s : ℕ) → agrees n s ≡ true → 1 ≤ n → n ≡ s
unfolding agrees
agrees_facts n s e h = eqb-true n s (rw (ne_eqb n 0 (λ z. omega arith)) at e)

module _ (services : List ℕ) where
  -- what is asked of a piece before others
  record Joined (q : Piece) (qs : List Piece) : Type 0 where
    named : 1 ≤ service_of services q.run
    alike : agrees (first_service services (pieces_in q.packet q.block qs)) (service_of services q.run) ≡ true
    small : total_size (pieces_in q.packet q.block qs) + q.size ≤ 31

  -- what passes the test is so,
  joined_facts : (q : Piece) (qs : List Piece) → joins services q qs ≡ true → Joined q qs
  unfolding joins enters
  joined_facts q qs e =
      let a = both (leb 1 (service_of services q.run)) _ e in
      let b = both (agrees (first_service services (pieces_in q.packet q.block qs)) (service_of services q.run)) _ a.1 in
      record { named = leb-true _ _ a.0; alike = b.0; small = leb-true _ _ b.1 }

  -- and what is so passes the test
  facts_joined : (q : Piece) (qs : List Piece) → Joined q qs → joins services q qs ≡ true
  unfolding joins enters
  facts_joined q qs f = simp (le-leb _ _ f.named, f.alike, le-leb _ _ f.small)

  -- each of them has a service, that of the first of its block
  pub joined_first : (ps : List Piece) → all_join services ps ≡ true → (r : Piece) → In r ps
      → (1 ≤ service_of services r.run) × (first_service services (pieces_in r.packet r.block ps) ≡ service_of services r.run)
  unfolding all_join first_service those
  joined_first [] e r x'' = elim x'' [ ]
  joined_first (q ∷ qs) e r (here p) =
      let f = joined_facts q qs (both (joins services q qs) (all_join services qs) e).0 in
      rw p (f.named, rw (lies_own q))
  joined_first (q ∷ qs) e r (there i) =
      let t = both (joins services q qs) (all_join services qs) e in
      let f = joined_facts q qs t.0 in
      let m = joined_first qs t.1 r i in (
        m.0,
        by_test (lies_in r.packet r.block q)
            (λ o.
            let w = lies_facts r.packet r.block q o in
            let a = rw (w.0, w.1, m.1) at f.alike in
            rw o (sym (agrees_facts _ _ a m.0)))
            (λ o. rw o m.1),
      )

  -- so that each block is of one service
  pub joined_one : (ps : List Piece) → all_join services ps ≡ true → every (one_service services ps) ps ≡ true
  unfolding one_service
  joined_one ps e =
      in_every (one_service services ps) ps
      (λ q i. in_every (λ (r : Piece). eqb (service_of services r.run) (service_of services q.run)) (pieces_in q.packet q.block ps)
      (λ r j.
      let t = those_in (lies_in q.packet q.block) ps j in
      let w = lies_facts q.packet q.block r t.1 in
      let m = rw (w.0, w.1) at (joined_first ps e r t.0).1 in
      eq-eqb (service_of services r.run) (service_of services q.run) (sym m ∙ (joined_first ps e q i).1)))

  -- the pieces within the limits of blocks
  pub record Sound (ps : List Piece) : Type 0 where
    pub named : (q : Piece) → In q ps → 1 ≤ service_of services q.run
    pub alike : (q r : Piece) → In q ps → In r ps → lies_in q.packet q.block r ≡ true → service_of services r.run ≡ service_of services q.run
    pub small : (q : Piece) → In q ps → total_size (pieces_in q.packet q.block ps) ≤ 31

  -- one piece more has no fewer bytes
  size_more : (p b : ℕ) (q : Piece) (qs : List Piece) → total_size (pieces_in p b qs) ≤ total_size (pieces_in p b (q ∷ qs))
  unfolding those total_size
  size_more p b q qs = by_test (lies_in p b q) (λ t. rw t (omega arith)) (λ f. rw f (omega arith))

  -- pieces of one service make a block of that service
  all_agree : (s : ℕ) (qs : List Piece) → ((r : Piece) → In r qs → service_of services r.run ≡ s) → agrees (first_service services qs) s ≡ true
  unfolding agrees first_service
  all_agree s [] f = refl
  all_agree s (r ∷ qs) f =
      let e : eqb (service_of services r.run) s ≡ true = eq-eqb _ _ (f r (here refl)) in
      by_test (eqb (service_of services r.run) 0) (λ t. rw t) (λ o. rw (o, e))

  -- each may stand before those that follow it
  pub sound_joins : (ps : List Piece) → Sound ps → all_join services ps ≡ true
  unfolding all_join those total_size
  sound_joins [] s = refl
  sound_joins (q ∷ qs) s =
      let most : total_size (pieces_in q.packet q.block (q ∷ qs)) ≤ 31 = s.small q (here refl) in
      let more : q.size + total_size (pieces_in q.packet q.block qs) ≤ 31 = rw (lies_own q) at most in
      let first : Joined q qs = record {
        named = s.named q (here refl);
        alike = all_agree (service_of services q.run) (pieces_in q.packet q.block qs)
            (λ r i. let t = those_in (lies_in q.packet q.block) qs i in s.alike q r (here refl) (there t.0) t.1);
        small = omega arith;
      } in
      let fewer : Sound qs = record {
        named = λ r i. s.named r (there i);
        alike = λ r x i j e. s.alike r x (there i) (there j) e;
        small = λ r i. omega (arith, s.small r (there i), size_more r.packet r.block q qs);
      } in
      and_both _ _ (facts_joined q qs first) (sound_joins qs fewer)
