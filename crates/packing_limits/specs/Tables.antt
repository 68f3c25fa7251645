-- The blocks of a proposal in two tables, for functions that are not public: at 256 places for each packet, the service and the bytes of each of its
-- blocks. Assumes nothing.
use Rattle.std.specs.Prelude.{◌≡◌, Bool, true, cond, ◌&&◌, ◌||◌, ℕ, ◌+◌, ◌*◌, ◌<◌, eqb, leb, length, get_or, set}
use mathlib.Core.List.{List, [], ◌∷◌, flat_map}
use Rattle.model.specs.Lists.{every}
use Rattle.model.specs.Block.{Block, block_length}
use Rattle.model.specs.Packet.{Packet, most_packet, carriable}
use Rattle.model_packing.specs.Pieces.{Piece, service_of, count_from}
use Rattle.model_packing.specs.Proposals.{most_numbers, pieces_in, zeros, numbered}

-- the piece whose five numbers stand from a place on
abbrev pub piece_at : List ℕ → ℕ → Piece
piece_at l o =
    record {
      run = get_or l o 0;
      first = get_or l (o + 1) 0;
      size = get_or l (o + 2) 0;
      packet = get_or l (o + 3) 0;
      block = get_or l (o + 4) 0;
    }

-- the place of a block in the tables
abbrev pub place_of : ℕ → ℕ → ℕ
place_of p b = 256 * p + b

-- the place of the block that a piece lies in, whose packet and block have numbers of one byte
pub record PlacedIn (q : Piece) (place : ℕ) : Type 0 where
  pub is : place ≡ place_of q.packet q.block
  pub packet : q.packet < 256
  pub block : q.block < 256

-- the service of the first of some pieces; 0 of none
unfoldable pub first_service : List ℕ → List Piece → ℕ
first_service services [] = 0
first_service services (q ∷ qs) = service_of services q.run

-- how many bytes some pieces have
unfoldable pub total_size : List Piece → ℕ
total_size [] = 0
total_size (q ∷ qs) = q.size + total_size qs

-- whether a block of this number takes a piece of that service: one without pieces has the number 0 and takes any
unfoldable pub agrees : ℕ → ℕ → Bool
agrees number service = eqb number 0 || eqb number service

-- whether a piece of this service and size may stand in the block of that number and so many bytes
unfoldable pub enters : ℕ → ℕ → ℕ → ℕ → Bool
enters service size number used = leb 1 service && (agrees number service && leb (used + size) 31)

-- a piece entered into the tables at the place of its block, where it may stand there: the answer, and the tables then
pub record Entered (service size place : ℕ) (ns ss : List ℕ) (r : Bool) (ms ts : List ℕ) : Type 0 where
  pub answer : r ≡ enters service size (get_or ns place 0) (get_or ss place 0)
  pub numbers : ms ≡ cond r (set ns place service) ns
  pub sizes : ts ≡ cond r (set ss place (get_or ss place 0 + size)) ss

-- the same of a piece of the list, whose packet and block have numbers of one byte
pub record EnteredPiece (services : List ℕ) (q : Piece) (ns ss : List ℕ) (r : Bool) (ms ts : List ℕ) : Type 0 where
  pub packet : q.packet < 256
  pub block : q.block < 256
  pub entered : Entered (service_of services q.run) q.size (place_of q.packet q.block) ns ss r ms ts

-- whether a piece may stand in its block before the others
unfoldable pub joins : List ℕ → Piece → List Piece → Bool
joins services q qs =
    enters (service_of services q.run) q.size (first_service services (pieces_in q.packet q.block qs)) (total_size (pieces_in q.packet q.block qs))

-- whether each piece may stand before those that follow it
unfoldable pub all_join : List ℕ → List Piece → Bool
all_join services [] = true
all_join services (q ∷ qs) = joins services q qs && all_join services qs

-- tables that tell the number and the bytes of each block of some pieces, whose packets and blocks have numbers of one byte
pub record Tables (services : List ℕ) (ps : List Piece) (ns ss : List ℕ) : Type 0 where
  pub long : (length ns ≡ 65536) × (length ss ≡ 65536)
  pub number : (p b : ℕ) → p < 256 → b < 256 → get_or ns (place_of p b) 0 ≡ first_service services (pieces_in p b ps)
  pub size : (p b : ℕ) → p < 256 → b < 256 → get_or ss (place_of p b) 0 ≡ total_size (pieces_in p b ps)
  pub bytes : every numbered ps ≡ true

-- the block at a place of the tables; none where the number is 0
unfoldable pub block_at : List ℕ → List ℕ → ℕ → List Block
block_at ns ss i = cond (eqb (get_or ns i 0) 0) [] (record { number = get_or ns i 0; payload = zeros (get_or ss i 0) } ∷ [])

-- those of packet p from block b on, n of them
unfoldable pub blocks_at : List ℕ → List ℕ → ℕ → ℕ → ℕ → List Block
blocks_at ns ss p b n = flat_map (λ k. block_at ns ss (place_of p k)) (count_from b n)

-- the packet that they make
abbrev pub packet_at : List ℕ → List ℕ → ℕ → Packet
packet_at ns ss p = record { sequence = 0; blocks = blocks_at ns ss p 0 most_numbers }

-- what blocks take of a packet: their lengths, and all of it for one that may not stand there
unfoldable pub taken : List Block → ℕ
taken [] = 0
taken (b ∷ bs) = cond (carriable b) (block_length b) most_packet + taken bs
