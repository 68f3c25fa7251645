-- The examples of proposals that docs/RULES.md marks with a star, as one table with one statement: what the definitions compute is what the rule book
-- says. The jobs of docs/REFUSALS.md are rows of it. Assumes nothing.
use mathlib.Core.Path.{◌≡◌, refl}
use mathlib.Core.List.{List, [], ◌∷◌, map, flat_map}
use Prim.Native.Nat.{ℕ}
use lib.ListN.{replicate}
use Rattle.model.specs.Lists.{every, same}
use Rattle.model.specs.Said.{Outcome, gave, refused, put_into}
use Rattle.model.specs.Block.{written_header, written_block, block_length}
use Rattle.model.specs.Packet.{blocks_length, packet_length, carriable, valid_packet, latest_of, push_new, push_at, push_run_at, push_run_by}
use Rattle.model_packing.specs.Pieces.{pieces_of, numbers_of, count_from, run_bytes, bytes_of, those, every_two, not_after}
use Rattle.model_packing.specs.Proposals.{inside, holds, holders, held_once, covers, sent_from, keeps_order, ordered, with_first, unsplit, lies_in, block_for, blocks_in, run_fits, runs_fit, numbered, one_service, limits, check_proposal, bytes_first}
use Rattle.model_packing.specs.FirstCome.{placed, pieces_from, packets_from, packets_filled, packable, propose, Proposed}

-- runs, by their services and their lengths
pub record Runs : Type 0 where
  pub services : List ℕ
  pub lengths : List ℕ

abbrev runs : List ℕ → List ℕ → Runs
runs services lengths = record { services = services; lengths = lengths }

-- what a row asks: a proposal checked, or one made
pub data Input : Type 0 where
  checks : Runs → List ℕ → Input
  makes : Runs → Input

-- what the rule book says of it: the number of the answer, or how many packets, and the pieces
pub data Result : Type 0 where
  answers : ℕ → Result
  made : ℕ → List ℕ → Result

-- a proposal that is made to an output of 1280 bytes, or why none is
abbrev told : Outcome Proposed → Result
told (gave x) = made x.packets x.numbers
told (refused why) = answers why.number

-- what the definitions compute
abbrev answer : Input → Result
answer (checks r numbers) = answers (check_proposal r.services r.lengths (pieces_of numbers)).number
answer (makes r) = told (propose r.services r.lengths (replicate 1280 0))

-- an example of the rule book
pub record Row : Type 0 where
  pub input : Input
  pub result : Result

-- an input and its result
abbrev row : Input → Result → Row
row i r = record { input = i; result = r }

-- one run of two bytes, and two runs of one byte each
abbrev two : Runs
two = runs (1 ∷ []) (2 ∷ [])

abbrev twice : Runs
twice = runs (1 ∷ 1 ∷ []) (1 ∷ 1 ∷ [])

-- four runs whose packet has 128 bytes, and 129: by a byte more, and by the second byte of a header
abbrev four : ℕ → ℕ → Runs
four service length = runs (1 ∷ 2 ∷ 3 ∷ service ∷ []) (31 ∷ 31 ∷ 31 ∷ length ∷ [])

-- each of them whole in a block of its own
abbrev in_blocks : ℕ → List ℕ
in_blocks length = 0 ∷ 0 ∷ 31 ∷ 0 ∷ 0 ∷ 1 ∷ 0 ∷ 31 ∷ 0 ∷ 1 ∷ 2 ∷ 0 ∷ 31 ∷ 0 ∷ 2 ∷ 3 ∷ 0 ∷ length ∷ 0 ∷ 3 ∷ []

-- the starred examples, in the rule book's order
unfoldable pub table : List Row
table =
    row (checks two (0 ∷ 0 ∷ 2 ∷ 0 ∷ 0 ∷ [])) (answers 0)
    ∷ row (checks two (0 ∷ 0 ∷ 2 ∷ 255 ∷ 255 ∷ [])) (answers 0)
    ∷ row (checks two (0 ∷ 0 ∷ 1 ∷ 0 ∷ 0 ∷ 0 ∷ 1 ∷ 1 ∷ 0 ∷ 0 ∷ [])) (answers 0)
    ∷ row (checks two (0 ∷ 0 ∷ 2 ∷ 0 ∷ 0 ∷ 9 ∷ [])) (answers 0)
    ∷ row (checks (runs (1 ∷ []) (2 ∷ 9 ∷ [])) (0 ∷ 0 ∷ 2 ∷ 0 ∷ 0 ∷ [])) (answers 0)
    ∷ row (checks (runs [] []) []) (answers 0)
    ∷ row (checks twice (1 ∷ 0 ∷ 1 ∷ 0 ∷ 1 ∷ 0 ∷ 0 ∷ 1 ∷ 0 ∷ 0 ∷ [])) (answers 0)
    ∷ row (checks (runs (1 ∷ 2 ∷ []) (1 ∷ 1 ∷ [])) (0 ∷ 0 ∷ 1 ∷ 1 ∷ 0 ∷ 1 ∷ 0 ∷ 1 ∷ 0 ∷ 0 ∷ [])) (answers 0)
    ∷ row (checks (runs (1 ∷ 1 ∷ []) (16 ∷ 15 ∷ [])) (0 ∷ 0 ∷ 16 ∷ 0 ∷ 0 ∷ 1 ∷ 0 ∷ 15 ∷ 0 ∷ 0 ∷ [])) (answers 0)
    ∷ row (checks (four 4 30) (in_blocks 30)) (answers 0)
    ∷ row (checks (four 7 29) (in_blocks 29)) (answers 0)
    ∷ row (checks two (0 ∷ 0 ∷ 1 ∷ 0 ∷ 0 ∷ [])) (answers 23)
    ∷ row (checks two (0 ∷ 0 ∷ 2 ∷ 0 ∷ 0 ∷ 0 ∷ 1 ∷ 1 ∷ 0 ∷ 0 ∷ [])) (answers 23)
    ∷ row (checks two (0 ∷ 0 ∷ 3 ∷ 0 ∷ 0 ∷ [])) (answers 23)
    ∷ row (checks two (0 ∷ 0 ∷ 2 ∷ 0 ∷ 0 ∷ 0 ∷ 0 ∷ 0 ∷ 0 ∷ 0 ∷ [])) (answers 23)
    ∷ row (checks two (0 ∷ 0 ∷ 2 ∷ 0 ∷ 0 ∷ 1 ∷ 0 ∷ 1 ∷ 0 ∷ 0 ∷ [])) (answers 23)
    ∷ row (checks twice (0 ∷ 0 ∷ 1 ∷ 1 ∷ 0 ∷ 1 ∷ 0 ∷ 1 ∷ 0 ∷ 0 ∷ [])) (answers 24)
    ∷ row (checks twice (0 ∷ 0 ∷ 1 ∷ 0 ∷ 1 ∷ 1 ∷ 0 ∷ 1 ∷ 0 ∷ 0 ∷ [])) (answers 24)
    ∷ row (checks twice (1 ∷ 0 ∷ 1 ∷ 0 ∷ 0 ∷ 0 ∷ 0 ∷ 1 ∷ 0 ∷ 0 ∷ [])) (answers 24)
    ∷ row (checks two (0 ∷ 1 ∷ 1 ∷ 0 ∷ 0 ∷ 0 ∷ 0 ∷ 1 ∷ 0 ∷ 0 ∷ [])) (answers 24)
    ∷ row (checks two (0 ∷ 0 ∷ 1 ∷ 0 ∷ 0 ∷ 0 ∷ 1 ∷ 1 ∷ 0 ∷ 1 ∷ [])) (answers 25)
    ∷ row (checks two (0 ∷ 0 ∷ 1 ∷ 0 ∷ 0 ∷ 0 ∷ 1 ∷ 1 ∷ 1 ∷ 0 ∷ [])) (answers 25)
    ∷ row (checks two (0 ∷ 0 ∷ 1 ∷ 0 ∷ 1 ∷ 0 ∷ 1 ∷ 1 ∷ 0 ∷ 0 ∷ [])) (answers 24)
    ∷ row (checks (runs (replicate 256 1) (replicate 256 1)) []) (answers 23)
    ∷ row (checks (runs (1 ∷ 2 ∷ []) (1 ∷ 1 ∷ [])) (0 ∷ 0 ∷ 1 ∷ 0 ∷ 0 ∷ 1 ∷ 0 ∷ 1 ∷ 0 ∷ 0 ∷ [])) (answers 26)
    ∷ row (checks (runs (1 ∷ 1 ∷ []) (16 ∷ 16 ∷ [])) (0 ∷ 0 ∷ 16 ∷ 0 ∷ 0 ∷ 1 ∷ 0 ∷ 16 ∷ 0 ∷ 0 ∷ [])) (answers 26)
    ∷ row (checks (four 4 31) (in_blocks 31)) (answers 26)
    ∷ row (checks (four 7 30) (in_blocks 30)) (answers 26)
    ∷ row (checks (runs (1 ∷ []) (32 ∷ [])) (0 ∷ 0 ∷ 32 ∷ 0 ∷ 0 ∷ [])) (answers 26)
    ∷ row (checks (runs (1 ∷ []) (0 ∷ [])) []) (answers 26)
    ∷ row (checks (runs (1 ∷ []) []) []) (answers 26)
    ∷ row (checks (runs (0 ∷ []) (1 ∷ [])) (0 ∷ 0 ∷ 1 ∷ 0 ∷ 0 ∷ [])) (answers 26)
    ∷ row (checks (runs (64 ∷ []) (1 ∷ [])) (0 ∷ 0 ∷ 1 ∷ 0 ∷ 0 ∷ [])) (answers 26)
    ∷ row (checks (runs (replicate 257 1) (replicate 257 1)) []) (answers 26)
    ∷ row (makes (runs (1 ∷ 7 ∷ 1 ∷ []) (20 ∷ 10 ∷ 11 ∷ []))) (made 1 (0 ∷ 0 ∷ 20 ∷ 0 ∷ 0 ∷ 1 ∷ 0 ∷ 10 ∷ 0 ∷ 1 ∷ 2 ∷ 0 ∷ 11 ∷ 0 ∷ 0 ∷ []))
    ∷ row (makes (runs (1 ∷ 7 ∷ 1 ∷ []) (20 ∷ 10 ∷ 12 ∷ []))) (made 1 (0 ∷ 0 ∷ 20 ∷ 0 ∷ 0 ∷ 1 ∷ 0 ∷ 10 ∷ 0 ∷ 1 ∷ 2 ∷ 0 ∷ 12 ∷ 0 ∷ 2 ∷ []))
    ∷ row (makes (four 4 30)) (made 1 (in_blocks 30))
    ∷ row (makes (four 7 30)) (made 2 (0 ∷ 0 ∷ 31 ∷ 0 ∷ 0 ∷ 1 ∷ 0 ∷ 31 ∷ 0 ∷ 1 ∷ 2 ∷ 0 ∷ 31 ∷ 0 ∷ 2 ∷ 3 ∷ 0 ∷ 30 ∷ 1 ∷ 0 ∷ []))
    ∷ row (makes (runs [] [])) (made 0 [])
    ∷ row (makes (runs (1 ∷ []) (32 ∷ []))) (answers 26)
    ∷ row (makes (runs (replicate 257 1) (replicate 257 1))) (answers 26)
    ∷ []

-- the definitions give what the rule book says, row by row
pub examples : map (λ (r : Row). answer r.input) table ≡ map (λ (r : Row). r.result) table
unfolding table every same put_into written_header written_block block_length blocks_length packet_length carriable valid_packet latest_of push_new push_at push_run_at push_run_by flat_map pieces_of numbers_of count_from run_bytes bytes_of those every_two not_after inside holds holders held_once covers sent_from keeps_order ordered with_first unsplit lies_in block_for blocks_in run_fits runs_fit numbered one_service limits check_proposal bytes_first placed pieces_from packets_from packets_filled packable propose
examples = refl
