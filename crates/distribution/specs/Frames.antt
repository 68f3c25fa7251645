-- What functions of this crate that are not public go by: no public contract reaches this file. Assumes nothing.
use Rattle.std.specs.Prelude.{List, ◌∷◌, ◌++◌, ℕ, ◌+◌, ◌*◌, take, drop}

-- an output with the frame of so many triples at its front: those behind the first nine bytes
abbrev pub frame_laid : ℕ → List ℕ → List ℕ → List ℕ
frame_laid n s out = ((0xC0 + n) ∷ 0xFF ∷ take (3 * n) (drop 9 s)) ++ drop (3 * n + 2) out
