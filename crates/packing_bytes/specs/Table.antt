-- For functions that are not public: a table that tells of each byte which piece holds it. The byte at place k of run r stands in cell 256 r + k,
-- and the cell has one more than the place in the list of the piece, or 0 where no piece holds the byte. Assumes nothing.
use Rattle.std.specs.Prelude.{◌≡◌, Bool, true, false, cond, ◌&&◌, List, [], ◌∷◌, ℕ, zero, suc, ◌+◌, ◌-◌, ◌*◌, ◌≤◌, ◌<◌, eqb, ltb, length, get_or, set, take}
use Rattle.model.specs.Lists.{every, same}
use Rattle.model_packing.specs.Pieces.{Piece, Byte, byte, service_of, not_after}
use Rattle.model_packing.specs.Proposals.{inside, holds, holders, covers}

-- how many cells there are
abbrev pub cells : ℕ
cells = 65536

-- the piece whose five numbers are those from 5 times its place on
abbrev pub nth_piece : List ℕ → ℕ → Piece
nth_piece l i =
    record { run = get_or l (5 * i) 0; first = get_or l (5 * i + 1) 0; size = get_or l (5 * i + 2) 0; packet = get_or l (5 * i + 3) 0; block = get_or l (5 * i + 4) 0 }

-- the cell of its first byte
abbrev pub cell_of : Piece → ℕ
cell_of q = 256 * q.run + q.first

-- its bytes have places below 256, as all bytes of runs have
abbrev pub LowPiece : Piece → Type 0
LowPiece q = q.first + q.size < 256

-- a table that names no piece
pub record Empty (t : List ℕ) : Type 0 where
  pub long : length t ≡ cells
  pub zeros : (i : ℕ) → get_or t i 0 ≡ 0

-- whether so many cells, from a cell on, have 0, where each of them is filled before the next is asked for
unfoldable pub free : ℕ → ℕ → ℕ → List ℕ → Bool
free zero at v t = true
free (suc n) at v t = eqb (get_or t at 0) 0 && free n (suc at) v (set t at v)

-- the table with these cells filled
unfoldable pub filled : ℕ → ℕ → ℕ → List ℕ → List ℕ
filled zero at v t = t
filled (suc n) at v t = filled n (suc at) v (set t at v)

-- n cells of a table t, from a cell on, are filled with a value where all of them have 0: whether they have, and the table u
pub record Fills (n at v : ℕ) (t u : List ℕ) (r : Bool) : Type 0 where
  pub empty : r ≡ free n at v t
  pub done : r ≡ true → u ≡ filled n at v t

-- one more than the place of the first piece that holds a byte, in a list that is counted from i; 0 where none does
unfoldable pub holder_from : ℕ → List Piece → Byte → ℕ
holder_from i [] x = 0
holder_from i (q ∷ qs) x = cond (holds x q) (suc i) (holder_from (suc i) qs x)

-- a table that tells the holders of pieces that are counted from i: all of them are inside, and no byte is in two
pub record TellsHolders (services lengths t : List ℕ) (i : ℕ) (qs : List Piece) : Type 0 where
  pub long : length t ≡ cells
  pub within : every (inside services lengths) qs ≡ true
  pub single : (x : Byte) → holders x qs ≤ 1
  pub tells : (r k : ℕ) → r < 256 → k < 256 → get_or t (256 * r + k) 0 ≡ holder_from i qs (byte r k)

-- what filling a table with all pieces says: it tells of them, or they do not cover the bytes
pub record TellsOrNot (services lengths u : List ℕ) (ps : List Piece) (r : Bool) : Type 0 where
  pub tells : r ≡ true → TellsHolders services lengths u 0 ps
  pub uncovered : r ≡ false → covers services lengths ps ≡ false

-- runs that the table has cells for: 256 of them at the most, each with a service and a length of one byte
pub record FewRuns (services lengths : List ℕ) : Type 0 where
  pub few : length services ≤ 256
  pub named : (r : ℕ) → get_or services r 0 < 256
  pub short : (r : ℕ) → get_or lengths r 0 < 256

-- what a table tells of a byte
abbrev pub told : List ℕ → Byte → ℕ
told t x = get_or t (256 * x.run + x.place) 0

-- whether it tells a holder
unfoldable pub has_holder : List ℕ → Byte → Bool
has_holder t x = ltb 0 (told t x)

-- when the piece that a cell names is sent: its packet, its block, and its place
unfoldable pub sent_by : List ℕ → ℕ → List ℕ
sent_by l h = (nth_piece l (h - 1)).packet ∷ (nth_piece l (h - 1)).block ∷ (h - 1) ∷ []

-- whether two cells name pieces of one block
unfoldable pub one_block : List ℕ → ℕ → ℕ → Bool
one_block l g h = same (take 2 (sent_by l g)) (take 2 (sent_by l h))

-- whether a byte is in the block of the first byte of its run, by the table
unfoldable pub beside_first : List ℕ → List ℕ → Byte → Bool
beside_first l t x = one_block l (told t x) (told t (byte x.run 0))

-- whether what a cell names is not sent before what another names, if that names anything
unfoldable pub follows : List ℕ → ℕ → ℕ → Bool
follows l g h = cond (eqb g 0) true (not_after (sent_by l g) (sent_by l h))

-- whether no byte is sent before the last one of its service, where a list tells the holder of the last byte of each service
unfoldable pub follow : List ℕ → List ℕ → List ℕ → List ℕ → List Byte → Bool
follow services l t last [] = true
follow services l t last (x ∷ xs) =
    follows l (get_or last (service_of services x.run) 0) (told t x)
    && follow services l t (set last (service_of services x.run) (told t x)) xs
