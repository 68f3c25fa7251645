-- What is asked of the bytes of a proposal: rules Q2 to Q4 of docs/RULES.md, in the order of their refusals. Assumes nothing.
use Rattle.std.specs.Prelude.{List, [], ℕ}
use Rattle.model.specs.Said.{Said, accepted}
use Rattle.model_packing.specs.Pieces.{Piece}
use Rattle.model_packing.specs.Proposals.{bytes_first}

-- More than 256 runs are 26 [Q7]; then 23, 24 and 25 [Q2] [Q3] [Q4].
unfoldable pub bytes_said : List ℕ → List ℕ → List Piece → Said
bytes_said services lengths ps = bytes_first services lengths ps (accepted [])
