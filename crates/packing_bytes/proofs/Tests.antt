-- The tests of a piece, of a byte and of two holders, way out by way out. Assumes nothing.
use mathlib.Core.Path.{◌≡◌, sym, ◌∙◌}
use mathlib.Core.Bool.{true, false}
use mathlib.Core.List.{List, [], ◌∷◌}
use Prim.Native.Nat.{ℕ, ◌+◌, ◌-◌, ◌*◌, ◌≤◌, ◌<◌}
use native.Mathlib.Omega.{arith}
use lib.Dec.{eqb, leb, ltb}
use lib.ListN.{length, get_or}
use borrow.Author.Tests.{eqb-true, eqb-false, leb-true, leb-false, ltb-true, ltb-false, eq-eqb, ne_eqb, le-leb, lt-leb, lt-ltb, le-ltb}
use Rattle.model.specs.Lists.{every, same}
use Rattle.model.proofs.Cases.{by_test}
use Rattle.model_packing.specs.Pieces.{byte, bytes_of, not_after}
use Rattle.model_packing.specs.Proposals.{inside}
use Rattle.model_packing.proofs.Lists.{every_in, in_bytes}
use Rattle.packing_bytes.specs.Table.{nth_piece, has_holder, sent_by, one_block, follows}

-- a piece of run r, with n bytes from byte f on
module _ (services lengths l : List ℕ) (i r f n : ℕ) (er : r ≡ get_or l (5 * i) 0) (ef : f ≡ get_or l (5 * i + 1) 0) (en : n ≡ get_or l (5 * i + 2) 0) where
  -- it is empty
  pub inside_empty : n < 1 → false ≡ inside services lengths (nth_piece l i)
  unfolding inside
  inside_empty h = simp (← en, lt-leb 1 n h)

  -- its run is not there
  pub inside_nowhere : 1 ≤ n → length services ≤ r → false ≡ inside services lengths (nth_piece l i)
  unfolding inside
  inside_nowhere g h = simp (← en, ← er, le-leb 1 n g, le-ltb r (length services) h)

  -- and else its bytes decide
  pub inside_there : (m : ℕ) → 1 ≤ n → r < length services → m ≡ get_or lengths r 0 → leb (f + n) m ≡ inside services lengths (nth_piece l i)
  unfolding inside
  inside_there m g h e = simp (← en, ← er, ← ef, ← e, le-leb 1 n g, lt-ltb r (length services) h)

-- where all bytes have a holder, that of a run with m bytes has one, and so has the first of its run
module _ (t : List ℕ) (r k : ℕ) (services lengths : List ℕ) (all : every (has_holder t) (bytes_of services lengths) ≡ true) (h : r < length services)
    (m : ℕ) (is : m ≡ get_or lengths r 0) (g : k < m)
  where
    held_until : (j : ℕ) → j ≤ k → 0 < get_or t (256 * r + j) 0
    unfolding has_holder
    held_until j f =
        ltb-true 0 (get_or t (256 * r + j) 0)
        (every_in (has_holder t) (bytes_of services lengths) all (in_bytes services lengths (byte r j) h (omega arith)))

    pub byte_held : 0 < get_or t (256 * r + k) 0
    byte_held = held_until k (omega arith)

    pub first_held : 0 < get_or t (256 * r) 0
    first_held = let z : 256 * r + 0 ≡ 256 * r = omega arith in rw z at (held_until 0 (omega arith))

-- two pieces, where each lies: 256 times its packet, and its block
module _ (p b q d : ℕ) (hb : b < 256) (hd : d < 256) where
  same_place : eqb (256 * p + b) (256 * q + d) ≡ same (p ∷ b ∷ []) (q ∷ d ∷ [])
  unfolding same
  same_place =
      by_test (eqb p q)
      (λ e. by_test (eqb b d)
      (λ f. rw (e, f) (eq-eqb (256 * p + b) (256 * q + d) (omega (arith, eqb-true p q e, eqb-true b d f))))
      (λ f. let n : b ≡ d → ⊥ = eqb-false b d f in rw (e, f) (ne_eqb (256 * p + b) (256 * q + d) (λ z. n (omega (arith, eqb-true p q e))))))
      (λ e. let n : p ≡ q → ⊥ = eqb-false p q e in rw e (ne_eqb (256 * p + b) (256 * q + d) (λ z. n (omega arith))))

  -- the order of two that lie in one place is that of the list
  same_order : (m n : ℕ) → 256 * p + b ≡ 256 * q + d → 0 < m → 0 < n → leb m n ≡ not_after (p ∷ b ∷ (m - 1) ∷ []) (q ∷ d ∷ (n - 1) ∷ [])
  unfolding not_after
  same_order m n e g h =
      let u : p ≡ q = omega arith in
      let v : b ≡ d = omega arith in
      rw (eq-eqb p q u, eq-eqb b d v)
      (by_test (eqb (m - 1) (n - 1))
      (λ z. let w = eqb-true (m - 1) (n - 1) z in rw (z, le-leb m n (omega arith)))
      (λ z. let w : m - 1 ≡ n - 1 → ⊥ = eqb-false (m - 1) (n - 1) z in
      by_test (leb m n)
      (λ y. let k = leb-true m n y in rw (z, y, lt-ltb (m - 1) (n - 1) (omega arith)))
      (λ y. let k = leb-false m n y in rw (z, y, le-ltb (m - 1) (n - 1) (omega arith)))))

  -- and else the one that lies first is sent first
  other_order : (m n : ℕ) → (256 * p + b ≡ 256 * q + d → ⊥) → ltb (256 * p + b) (256 * q + d) ≡ not_after (p ∷ b ∷ m ∷ []) (q ∷ d ∷ n ∷ [])
  unfolding not_after
  other_order m n f =
      by_test (eqb p q)
      (λ e. let u : p ≡ q = eqb-true p q e in
      let v : b ≡ d → ⊥ = λ z. f (omega arith) in
      rw (e, ne_eqb b d v)
      (by_test (ltb b d)
      (λ y. let k = ltb-true b d y in rw y (lt-ltb (256 * p + b) (256 * q + d) (omega arith)))
      (λ y. let k = ltb-false b d y in rw y (le-ltb (256 * p + b) (256 * q + d) (omega arith)))))
      (λ e. let u : p ≡ q → ⊥ = eqb-false p q e in
      rw e
      (by_test (ltb p q)
      (λ y. let k = ltb-true p q y in rw y (lt-ltb (256 * p + b) (256 * q + d) (omega arith)))
      (λ y. let k = ltb-false p q y in rw y (le-ltb (256 * p + b) (256 * q + d) (omega arith)))))

-- two cells, and where the pieces lie that they name
module _ (l : List ℕ) (g h x y : ℕ)
    (ex : x ≡ 256 * (nth_piece l (g - 1)).packet + (nth_piece l (g - 1)).block) (hx : (nth_piece l (g - 1)).block < 256)
    (ey : y ≡ 256 * (nth_piece l (h - 1)).packet + (nth_piece l (h - 1)).block) (hy : (nth_piece l (h - 1)).block < 256)
  where
    pub one_block_tested : eqb x y ≡ one_block l g h
    unfolding one_block sent_by
    one_block_tested = rw (ex, ey) (same_place (nth_piece l (g - 1)).packet (nth_piece l (g - 1)).block (nth_piece l (h - 1)).packet (nth_piece l (h - 1)).block hx hy)

    pub follows_same : (g ≡ 0 → ⊥) → 0 < h → x ≡ y → leb g h ≡ follows l g h
    unfolding follows sent_by
    follows_same f p e =
        rw (ne_eqb g 0 f)
        (same_order (nth_piece l (g - 1)).packet (nth_piece l (g - 1)).block (nth_piece l (h - 1)).packet (nth_piece l (h - 1)).block hx hy g h (sym ex ∙ e ∙ ey) (omega arith) p)

    pub follows_other : (g ≡ 0 → ⊥) → (x ≡ y → ⊥) → ltb x y ≡ follows l g h
    unfolding follows sent_by
    follows_other f n =
        rw (ne_eqb g 0 f, ex, ey)
        (other_order (nth_piece l (g - 1)).packet (nth_piece l (g - 1)).block (nth_piece l (h - 1)).packet (nth_piece l (h - 1)).block hx hy (g - 1) (h - 1) (λ z. n (ex ∙ z ∙ sym ey)))

-- a cell that names nothing
pub follows_none : (l : List ℕ) (g h : ℕ) → g ≡ 0 → true ≡ follows l g h
unfolding follows
follows_none l g h e = rw e
