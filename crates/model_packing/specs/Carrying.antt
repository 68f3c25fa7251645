-- What a proposal comes to when it is carried out: the packets that it fills with the bytes of runs, and what packets say to a service.
-- Assumes nothing.
use Rattle.std.specs.Prelude.{Bool, cond, ℕ, suc, eqb, leb, length, get_or, take, drop}
use mathlib.Core.List.{List, [], ◌∷◌, map, flat_map}
use Rattle.model.specs.Block.{Block}
use Rattle.model.specs.Packet.{Packet}
use Rattle.model_packing.specs.Pieces.{Piece, count_from, service_of, those}
use Rattle.model_packing.specs.Proposals.{most_numbers, blocks_in}

-- the bytes of a piece, out of the bytes of the runs [Q5]
unfoldable pub bytes_in : List (List ℕ) → Piece → List ℕ
bytes_in runs q = take q.size (drop q.first (get_or runs q.run []))

-- whether there is a block
abbrev pub some_block : List Block → Bool
some_block bs = leb 1 (length bs)

-- The blocks of each packet that a proposal fills, by the packets' numbers; those that have a block [Q5].
unfoldable pub proposed_packets : List ℕ → List (List ℕ) → List Piece → List (List Block)
proposed_packets services runs ps = those some_block (map (blocks_in services (bytes_in runs) ps) (count_from 0 most_numbers))

-- packets of such blocks, each with a sequence number that `sequence` tells of its place, counted from i
unfoldable pub sequenced_from : (ℕ → ℕ) → ℕ → List (List Block) → List Packet
sequenced_from sequence i [] = []
sequenced_from sequence i (bs ∷ l) = record { sequence = sequence i; blocks = bs } ∷ sequenced_from sequence (suc i) l

-- all bytes of a service, run by run, in the order of the runs
unfoldable pub spoken : ℕ → List ℕ → List (List ℕ) → List ℕ
spoken s services runs = flat_map (λ r. cond (eqb (service_of services r) s) (get_or runs r []) []) (count_from 0 (length services))

-- what blocks say to a service: the payloads of its number, one behind the other
unfoldable pub heard_in : ℕ → List Block → List ℕ
heard_in s bs = flat_map (λ (b : Block). cond (eqb b.number s) b.payload []) bs

-- what packets say to it
unfoldable pub heard : ℕ → List Packet → List ℕ
heard s packets = flat_map (λ (p : Packet). heard_in s p.blocks) packets
