-- The first-come packer: rule Q8 of docs/RULES.md. Assumes nothing.
use Rattle.std.specs.Prelude.{Bool, cond, ◌&&◌, List, [], ◌∷◌, ℕ, zero, suc, leb, length, get_or}
use Rattle.std.proofs.Math.Option.{Option, none, some}
use Rattle.model.specs.Said.{Outcome, gave, refused, after, mapped, put_into, over_limit}
use Rattle.model.specs.Packet.{Packet, no_packet, latest, push_run}
use Rattle.model_packing.specs.Pieces.{Piece, numbers_of, service_of}
use Rattle.model_packing.specs.Proposals.{zeros, runs_fit, most_runs}

-- what the packer has: the packet that it fills, and how many there are before it
pub record Filling : Type 0 where
  pub before : ℕ
  pub packet : Packet

-- at first, a packet without blocks
abbrev pub start : Filling
start = record { before = 0; packet = no_packet }

-- the packet takes the run, or the next one does
abbrev pub filled_with : ℕ → List ℕ → Filling → Outcome Packet → Filling
filled_with s run at (gave p) = record { before = at.before; packet = p }
filled_with s run at (refused why) = record { before = suc at.before; packet = after no_packet (push_run s run no_packet) }

-- A run is pushed to the packet that is being filled, as runs are pushed to a packet [P11] [P12]; where that refuses, to a new one [Q8].
unfoldable pub placed : ℕ → List ℕ → Filling → Filling
placed s run at = filled_with s run at (push_run s run at.packet)

-- where a place is found; 0 where none is
abbrev pub place_or0 : Option ℕ → ℕ
place_or0 (some i) = i
place_or0 none = 0

-- run i, whole, in the block that took it: the latest of its service [Q8]
abbrev pub piece_for : ℕ → ℕ → ℕ → Filling → Piece
piece_for i s n at = record { run = i; first = 0; size = n; packet = at.before; block = place_or0 (latest s at.packet) }

-- what the packer has when run i is placed, of which it knows the service and the length alone
abbrev pub placed_run : List ℕ → List ℕ → ℕ → Filling → Filling
placed_run services lengths i at = placed (service_of services i) (zeros (get_or lengths i 0)) at

-- the pieces of k runs from run i on
unfoldable pub pieces_from : List ℕ → List ℕ → ℕ → ℕ → Filling → List Piece
pieces_from services lengths zero i at = []
pieces_from services lengths (suc k) i at =
    piece_for i (service_of services i) (get_or lengths i 0) (placed_run services lengths i at)
    ∷ pieces_from services lengths k (suc i) (placed_run services lengths i at)

-- how many packets there are when they are placed
unfoldable pub packets_from : List ℕ → List ℕ → ℕ → ℕ → Filling → ℕ
packets_from services lengths zero i at = suc at.before
packets_from services lengths (suc k) i at = packets_from services lengths k (suc i) (placed_run services lengths i at)

-- The proposal: the pieces of all runs [Q8],
abbrev pub first_come : List ℕ → List ℕ → List Piece
first_come services lengths = pieces_from services lengths (length services) 0 start

-- and how many packets it fills: none without a run
unfoldable pub packets_filled : List ℕ → List ℕ → ℕ
packets_filled [] lengths = 0
packets_filled (s ∷ services) lengths = packets_from (s ∷ services) lengths (length (s ∷ services)) 0 start

-- the runs that a proposal can be made for [Q8]
unfoldable pub packable : List ℕ → List ℕ → Bool
packable services lengths = leb (length services) most_runs && runs_fit services lengths

-- a proposal made: how many packets it fills, its numbers, and the lent output with them
pub record Proposed : Type 0 where
  pub packets : ℕ
  pub numbers : List ℕ
  pub out : List ℕ

-- A proposal is made: 26 where there are too many runs or one does not fit, then 9 [Q8].
unfoldable pub propose : List ℕ → List ℕ → List ℕ → Outcome Proposed
propose services lengths out =
    let numbers = numbers_of (first_come services lengths) in
    cond (packable services lengths)
    (mapped (λ o. record { packets = packets_filled services lengths; numbers = numbers; out = o }) (put_into out numbers))
    (refused over_limit)
