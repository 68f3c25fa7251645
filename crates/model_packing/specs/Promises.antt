-- What is promised of proposals, over the definitions: the words that the theorems of `proofs/` and those of the contracts end in. Assumes nothing.
use Rattle.std.specs.Prelude.{◌≡◌, true, ℕ, ◌≤◌, ◌<◌, ltb, length, get_or}
use mathlib.Core.List.{List, [], ◌++◌, map, flat_map}
use Rattle.model.specs.Lists.{every}
use Rattle.model.specs.Said.{gave}
use Rattle.model.specs.Block.{Block}
use Rattle.model.specs.Packet.{Packet, read_packet, read_tidy, written_packet, valid_packet}
use Rattle.model.specs.Demux.{packets_of}
use Rattle.model_packing.specs.Pieces.{Piece, service_of, In}
use Rattle.model_packing.specs.Carrying.{proposed_packets, sequenced_from, spoken, heard_in, heard}

-- a run stands whole in a block of a service, in one of some packets
pub record StandsWhole (run : List ℕ) (s : ℕ) (packets : List (List Block)) : Type 0 where
  pub blocks : List Block
  pub in_packets : In blocks packets
  pub block : Block
  pub in_blocks : In block blocks
  pub number : block.number ≡ s
  pub front : List ℕ
  pub back : List ℕ
  pub payload : block.payload ≡ front ++ (run ++ back)

-- a packet that can be sent: it is within the limits, and both readers give it back as it was written
pub record Sendable (p : Packet) : Type 0 where
  pub within_limits : valid_packet p ≡ true
  pub read_plainly : read_packet (written_packet p) ≡ gave p
  pub read_tidily : read_tidy (written_packet p) ≡ gave p

-- blocks that make such a packet with any sequence number
abbrev pub AnySendable : List Block → Type 0
AnySendable bs = (n : ℕ) → n ≤ 3 → Sendable (record { sequence = n; blocks = bs })

-- A proposal carried out with the bytes of runs: each of its packets can be sent; and where they are written, with any sequence numbers, and read
-- back, they say to each service all that is spoken to it, in order, once each; and each run stands whole in a block of its service.
pub record Delivers (services : List ℕ) (runs : List (List ℕ)) (ps : List Piece) : Type 0 where
  pub each_sendable : (bs : List Block) → In bs (proposed_packets services runs ps) → AnySendable bs
  pub heard_in_order : (sequence : ℕ → ℕ) → ((i : ℕ) → sequence i ≤ 3) → (s : ℕ)
      → heard s (packets_of (map written_packet (sequenced_from sequence 0 (proposed_packets services runs ps)))) ≡ spoken s services runs
  pub runs_whole : (r : ℕ) → r < length services → StandsWhole (get_or runs r []) (service_of services r) (proposed_packets services runs ps)

-- bytes of runs that some service would hear in another order than they are spoken to it
pub record Misheard (services lengths : List ℕ) (ps : List Piece) : Type 0 where
  pub runs : List (List ℕ)
  pub so_long : map length runs ≡ lengths
  pub all_bytes : every (every (λ b. ltb b 256)) runs ≡ true
  pub service : ℕ
  pub otherwise : flat_map (heard_in service) (proposed_packets services runs ps) ≡ spoken service services runs → ⊥

-- so many packets, by the pieces that name them
pub record NamesBelow (ps : List Piece) (n : ℕ) : Type 0 where
  -- no piece names one from there on,
  pub below : (q : Piece) → In q ps → q.packet < n
  -- and every one before is named
  pub reached : (p : ℕ) → p < n → (q : Piece) × In q ps × (q.packet ≡ p)
