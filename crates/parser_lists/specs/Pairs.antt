-- The list of pairs as bytes: three places a pair, its field (0 for field 1, 1 for field 2) and its two bytes. Assumes nothing.
use Rattle.std.specs.Prelude.{List, [], ◌∷◌, cond, ℕ, zero, suc, get_or, drop, eqb}
use Rattle.model.specs.Frame.{pair, Cea608, field1, field2}

-- [F5] a pair with its field: the places of pairs, one behind the other
unfoldable pub placed_all : List Cea608 → List ℕ
placed_all [] = []
placed_all (field1 (pair a b) ∷ ps) = 0 ∷ a ∷ b ∷ placed_all ps
placed_all (field2 (pair a b) ∷ ps) = 1 ∷ a ∷ b ∷ placed_all ps

-- the pair that stands at the head of places
abbrev pub pair_at : List ℕ → Cea608
pair_at l = cond (eqb (get_or l 0 0) 0) (field1 (pair (get_or l 1 0) (get_or l 2 0))) (field2 (pair (get_or l 1 0) (get_or l 2 0)))

-- the first n pairs
unfoldable pub pairs_of : ℕ → List ℕ → List Cea608
pairs_of zero l = []
pairs_of (suc n) l = pair_at l ∷ pairs_of n (drop 3 l)
