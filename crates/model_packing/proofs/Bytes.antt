-- Bytes of pieces and of runs: their order, and the numbers that they are. Assumes nothing.
use mathlib.Core.Path.{◌≡◌, refl, sym, ap, ap₂, subst}
use mathlib.Core.Bool.{true}
use mathlib.Core.List.{List, [], ◌∷◌, map}
use Prim.Native.Nat.{ℕ, zero, suc, ◌+◌, ◌≤◌, ◌<◌}
use native.Mathlib.Omega.{arith}
use lib.Dec.{ltb}
use lib.ListN.{length, get_or, take, drop}
use lib.Seq.{drop-cons}
use borrow.Author.Tests.{eq-eqb, le-leb, lt-ltb, eqb-true, leb-true, ltb-true, ltb-false}
use Rattle.model.proofs.Cases.{by_test, both}
use Rattle.model_packing.specs.Pieces.{Piece, Byte, byte, count_from, run_bytes, bytes_of, In}
use Rattle.model_packing.specs.Proposals.{holds}
use Rattle.model_packing.proofs.Lists.{in_map, map_in, in_count, count_in}
use Rattle.model_packing.proofs.Sorted.{Sorted, sorted_map, sorted_flat_map, sorted_count}

-- a byte is earlier than another: its run is, or its place in the same run
pub data Earlier (x y : Byte) : Type 0 where
  by_run : x.run < y.run → Earlier x y
  by_place : x.run ≡ y.run → x.place < y.place → Earlier x y

-- no two bytes are each earlier than the other
pub earlier_one_way : (x y : Byte) → Earlier x y → Earlier y x → ⊥
earlier_one_way x y (by_run h) (by_run g) = omega arith
earlier_one_way x y (by_run h) (by_place e g) = omega arith
earlier_one_way x y (by_place e h) (by_run g) = omega arith
earlier_one_way x y (by_place e h) (by_place d g) = omega arith

-- two bytes are the same, or one is earlier than the other
pub by_order : {P : Type 0} (x y : Byte) → (x ≡ y → P) → (Earlier x y → P) → (Earlier y x → P) → P
by_order x y same less more =
    by_test (ltb x.run y.run) (λ e. less (by_run (ltb-true _ _ e)))
    (λ a. by_test (ltb y.run x.run) (λ e. more (by_run (ltb-true _ _ e)))
    (λ b. let r : x.run ≡ y.run = omega (arith, ltb-false x.run y.run a, ltb-false y.run x.run b) in
    by_test (ltb x.place y.place) (λ e. less (by_place r (ltb-true _ _ e)))
    (λ c. by_test (ltb y.place x.place) (λ e. more (by_place (sym r) (ltb-true _ _ e)))
    (λ d. same (ap₂ byte r (omega (arith, ltb-false x.place y.place c, ltb-false y.place x.place d)))))))

-- so many bytes of run r, from place a on
abbrev pub bytes_from : ℕ → ℕ → ℕ → List Byte
bytes_from r a n = map (byte r) (count_from a n)

-- they are of that run
pub bytes_run : (x : Byte) (r a n : ℕ) → In x (bytes_from r a n) → x.run ≡ r
bytes_run x r a n i = ap (λ (y : Byte). y.run) (map_in (byte r) (count_from a n) i).2

-- the bytes of a piece
abbrev pub piece_bytes : Piece → List Byte
piece_bytes q = bytes_from q.run q.first q.size

-- a piece has them,
pub in_piece : (x : Byte) (q : Piece) → holds x q ≡ true → In x (piece_bytes q)
unfolding holds
in_piece x q e =
    let f = both _ _ e in
    let g = both _ _ f.1 in
    let i : In x.place (count_from q.first q.size) = in_count x.place q.first q.size (leb-true _ _ g.0) (ltb-true _ _ g.1) in
    subst (λ (r : ℕ). In (byte r x.place) (piece_bytes q)) (eqb-true _ _ f.0) (in_map (byte q.run) (count_from q.first q.size) i)

-- and no others
pub piece_in : (x : Byte) (q : Piece) → In x (piece_bytes q) → (x.run ≡ q.run) × (q.first ≤ x.place) × (x.place < q.first + q.size)
piece_in x q i =
    let t = map_in (byte q.run) (count_from q.first q.size) i in
    let f = count_in t.0 q.first q.size t.1 in
    let p : x.place ≡ t.0 = ap (λ (y : Byte). y.place) t.2 in
    (bytes_run x q.run q.first q.size i, omega (arith, f.0), omega (arith, f.1))

-- so it holds them
pub piece_holds : (x : Byte) (q : Piece) → In x (piece_bytes q) → holds x q ≡ true
unfolding holds
piece_holds x q i = let f = piece_in x q i in simp (eq-eqb _ _ (sym f.0), le-leb _ _ f.1, lt-ltb _ _ f.2)

-- such bytes are in their order,
pub bytes_sorted : (r a n : ℕ) → Sorted Earlier (bytes_from r a n)
bytes_sorted r a n = sorted_map (byte r) (sorted_count a n) (λ k m h. by_place refl h)

-- and so are those of all runs
pub all_sorted : (services lengths : List ℕ) → Sorted Earlier (bytes_of services lengths)
unfolding bytes_of run_bytes
all_sorted services lengths =
    sorted_flat_map (run_bytes lengths) (sorted_count 0 (length services)) (λ r _. bytes_sorted r 0 (get_or lengths r 0))
    (λ r v x y h _ _ i j. by_run (omega (arith, bytes_run x r 0 (get_or lengths r 0) i, bytes_run y v 0 (get_or lengths v 0) j)))

-- the number that a byte is
abbrev pub number_at : List (List ℕ) → Byte → ℕ
number_at runs x = get_or (get_or runs x.run []) x.place 0

-- a part of a run is the numbers of its bytes
pub part_numbers : (runs : List (List ℕ)) (r a n : ℕ) → a + n ≤ length (get_or runs r []) → take n (drop a (get_or runs r [])) ≡ map (number_at runs) (bytes_from r a n)
unfolding count_from
part_numbers runs r a zero h = refl
part_numbers runs r a (suc n) h =
    rw (drop-cons (get_or runs r []) a 0 (omega arith)) (ap (λ (l : List ℕ). get_or (get_or runs r []) a 0 ∷ l) (part_numbers runs r (suc a) n (omega arith)))
