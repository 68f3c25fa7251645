-- When a proposal is accepted: rules Q2 to Q7 of docs/RULES.md, a definition for each refusal, and the check that asks for them in their order.
-- Assumes nothing.
use Rattle.std.specs.Prelude.{Bool, true, cond, ◌&&◌, ℕ, suc, ◌+◌, eqb, leb, ltb, length, get_or, take, replicate}
use mathlib.Core.List.{List, [], ◌∷◌, flat_map}
use Rattle.model.specs.Lists.{every, same}
use Rattle.model.specs.Said.{Said, accepted, bad_cover, out_of_order, run_split, over_limit}
use Rattle.model.specs.Block.{Block}
use Rattle.model.specs.Packet.{Packet, carriable, valid_packet}
use Rattle.model_packing.specs.Pieces.{Piece, Byte, byte, bytes_of, service_of, count_from, those, every_two, not_after}

-- a piece has a byte or more, its run is there, and so are all its bytes [Q2]
unfoldable pub inside : List ℕ → List ℕ → Piece → Bool
inside services lengths q = leb 1 q.size && (ltb q.run (length services) && leb (q.first + q.size) (get_or lengths q.run 0))

-- whether a byte is in a piece
unfoldable pub holds : Byte → Piece → Bool
holds x q = eqb q.run x.run && (leb q.first x.place && ltb x.place (q.first + q.size))

-- how many pieces a byte is in
unfoldable pub holders : Byte → List Piece → ℕ
holders x [] = 0
holders x (q ∷ qs) = cond (holds x q) 1 0 + holders x qs

-- whether it is in one
unfoldable pub held_once : List Piece → Byte → Bool
held_once ps x = eqb (holders x ps) 1

-- 23 unless every byte of every run is in one piece, and nothing else is in any; no piece is empty [Q2].
unfoldable pub covers : List ℕ → List ℕ → List Piece → Bool
covers services lengths ps = every (inside services lengths) ps && every (held_once ps) (bytes_of services lengths)

-- when a byte is sent: the packet and the block of the piece that it is in, and the place of that piece in a list that is counted from i [Q3]
unfoldable pub sent_from : ℕ → List Piece → Byte → List ℕ
sent_from i [] x = []
sent_from i (q ∷ qs) x = cond (holds x q) (q.packet ∷ q.block ∷ i ∷ []) (sent_from (suc i) qs x)

-- the same in the whole list [Q3]
abbrev pub sent : List Piece → Byte → List ℕ
sent ps x = sent_from 0 ps x

-- a byte is not sent after a later one of the same service [Q3]
unfoldable pub keeps_order : List ℕ → List Piece → Byte → Byte → Bool
keeps_order services ps x y = cond (eqb (service_of services x.run) (service_of services y.run)) (not_after (sent ps x) (sent ps y)) true

-- 24 unless the bytes of each service keep their order: by packet, then by block, then by the list [Q3].
unfoldable pub ordered : List ℕ → List ℕ → List Piece → Bool
ordered services lengths ps = every_two (keeps_order services ps) (bytes_of services lengths)

-- the packet and the block of a byte
abbrev pub block_sent_in : List Piece → Byte → List ℕ
block_sent_in ps x = take 2 (sent ps x)

-- a byte is in the block that the first byte of its run is in [Q4]
unfoldable pub with_first : List Piece → Byte → Bool
with_first ps x = same (block_sent_in ps x) (block_sent_in ps (byte x.run 0))

-- 25 unless each run is in one block [Q4].
unfoldable pub unsplit : List ℕ → List ℕ → List Piece → Bool
unsplit services lengths ps = every (with_first ps) (bytes_of services lengths)

-- packets and blocks have numbers of one byte, so that there are 256 of them at the most [Q1]
abbrev pub most_numbers : ℕ
most_numbers = 256

-- a piece lies in a block of a packet
unfoldable pub lies_in : ℕ → ℕ → Piece → Bool
lies_in p b q = eqb q.packet p && eqb q.block b

-- the pieces of a block, as the list has them [Q5]
abbrev pub pieces_in : ℕ → ℕ → List Piece → List Piece
pieces_in p b ps = those (lies_in p b) ps

-- the block of some pieces, where `fill` tells the bytes of a piece: the service of the first, and the bytes of all; none of no pieces [Q5]
unfoldable pub block_for : List ℕ → (Piece → List ℕ) → List Piece → List Block
block_for services fill [] = []
block_for services fill (q ∷ qs) = record { number = service_of services q.run; payload = flat_map fill (q ∷ qs) } ∷ []

-- The blocks of a packet, by their numbers; those that have pieces [Q5].
unfoldable pub blocks_in : List ℕ → (Piece → List ℕ) → List Piece → ℕ → List Block
blocks_in services fill ps p = flat_map (λ b. block_for services fill (pieces_in p b ps)) (count_from 0 most_numbers)

-- so many bytes, whatever they say
abbrev pub zeros : ℕ → List ℕ
zeros n = replicate n 0

-- a packet with such bytes in its pieces: its lengths are those of the packet, whatever the bytes say [Q6]
abbrev pub blank_packet : List ℕ → List Piece → ℕ → Packet
blank_packet services ps p = record { sequence = 0; blocks = blocks_in services (λ q. zeros q.size) ps p }

-- a run alone may stand in a packet as a block: its service is from 1 to 63, and it has 1 to 31 bytes [Q6]
unfoldable pub run_fits : List ℕ → List ℕ → ℕ → Bool
run_fits services lengths r = carriable (record { number = service_of services r; payload = zeros (get_or lengths r 0) })

-- all runs fit
unfoldable pub runs_fit : List ℕ → List ℕ → Bool
runs_fit services lengths = every (run_fits services lengths) (count_from 0 (length services))

-- the packet and the block of a piece have numbers of one byte [Q1]
unfoldable pub numbered : Piece → Bool
numbered q = ltb q.packet most_numbers && ltb q.block most_numbers

-- all pieces of its block are of its service [Q6]
unfoldable pub one_service : List ℕ → List Piece → Piece → Bool
one_service services ps q =
    every (λ (r : Piece). eqb (service_of services r.run) (service_of services q.run)) (pieces_in q.packet q.block ps)

-- 26 unless every run fits, every block is of one service, and every packet that is described breaks no limit: those of a packet and of its blocks [Q6].
unfoldable pub limits : List ℕ → List ℕ → List Piece → Bool
limits services lengths ps =
    runs_fit services lengths
    && (every numbered ps
    && (every (one_service services ps) ps
    && every (λ (q : Piece). valid_packet (blank_packet services ps q.packet)) ps))

-- the most runs of a proposal [Q7]
abbrev pub most_runs : ℕ
most_runs = 256

-- What a proposal is answered, where `last` is asked once its bytes are all there, in order and not split: more than 256 runs are 26; then come 23, 24
-- and 25, in this order [Q7].
unfoldable pub bytes_first : List ℕ → List ℕ → List Piece → Said → Said
bytes_first services lengths ps last =
    cond (ltb most_runs (length services)) over_limit
    (cond (covers services lengths ps)
    (cond (ordered services lengths ps)
    (cond (unsplit services lengths ps)
    last
    run_split)
    out_of_order)
    bad_cover)

-- What a proposal is answered: its bytes first, and then its limits, 26 [Q7].
unfoldable pub check_proposal : List ℕ → List ℕ → List Piece → Said
check_proposal services lengths ps = bytes_first services lengths ps (cond (limits services lengths ps) (accepted []) over_limit)
