-- How many triples a frame has. Assumes nothing.
use mathlib.Core.List.{List, [], ◌∷◌}
use Prim.Native.Nat.{ℕ, ◌*◌, ◌≤◌}
use native.Mathlib.Omega.{arith}
use lib.ListN.{length, drop, length-drop}
use Rattle.model.specs.Frame.{seen_all, triples_in}
use Rattle.parser_triples.specs.Walk.{seen_from}

-- three bytes a triple
triples_length : (d : List ℕ) → 3 * length (seen_all (triples_in d)) ≤ length d
unfolding seen_all triples_in
triples_length [] = omega arith
triples_length (a ∷ []) = omega arith
triples_length (a ∷ b ∷ []) = omega arith
triples_length (a ∷ b ∷ c ∷ d) = omega (arith, triples_length d)

-- a frame's triples have no more bytes than it
pub triples_within : (f : List ℕ) → 3 * length (seen_from 0 f) ≤ length f
triples_within f = omega (arith, triples_length (drop 2 f), length-drop 2 f)

-- a frame of at most 95 bytes has at most 31 triples
pub few_triples : (f : List ℕ) → length f ≤ 95 → length (seen_from 0 f) ≤ 31
few_triples f h = omega (arith, triples_length (drop 2 f), length-drop 2 f)
