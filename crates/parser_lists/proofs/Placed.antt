-- The places of pairs, one behind the other, are those pairs. Assumes nothing.
use mathlib.Core.Path.{◌≡◌, refl, ap}
use mathlib.Core.List.{List, [], ◌∷◌, ◌++◌}
use Prim.Native.Nat.{ℕ, ◌*◌}
use native.Mathlib.Omega.{arith}
use lib.ListN.{length}
use Rattle.model.specs.Frame.{Cea608, field1, field2, pair}
use Rattle.parser_lists.specs.Pairs.{placed_all, pairs_of}

-- three places a pair
pub placed_length : (ps : List Cea608) → length (placed_all ps) ≡ 3 * length ps
unfolding placed_all
placed_length [] = refl
placed_length (field1 (pair a b) ∷ ps) = omega (arith, placed_length ps)
placed_length (field2 (pair a b) ∷ ps) = omega (arith, placed_length ps)

-- the places at the head are the pairs
pub pairs_placed : (ps : List Cea608) (rest : List ℕ) → pairs_of (length ps) (placed_all ps ++ rest) ≡ ps
unfolding placed_all pairs_of
pairs_placed [] rest = refl
pairs_placed (field1 (pair a b) ∷ ps) rest = ap (λ (l : List Cea608). field1 (pair a b) ∷ l) (pairs_placed ps rest)
pairs_placed (field2 (pair a b) ∷ ps) rest = ap (λ (l : List Cea608). field2 (pair a b) ∷ l) (pairs_placed ps rest)
