-- The places of a packet: what three arrays of numbers, sizes and payloads hold, and when that breaks no limit. But for `blocks_held` this is for the
-- functions and the proofs of this crate, of `packet_blocks`, `packet_pushes` and `packet`, which says the same of its own struct, and of the set of services besides. Assumes nothing.
use Rattle.std.specs.Prelude.{◌≡◌, Bool, ◌&&◌, ℕ, zero, suc, ◌+◌, leb, length, get_or, take, drop, replicate}
use mathlib.Core.List.{List, [], ◌∷◌, map, flat_map, foldr}
use Rattle.std.proofs.lemmas.List.Edits.{sets}
use Rattle.model.specs.Block.{Block}
use Rattle.model.specs.Packet.{Packet, valid_packet}
use Rattle.model.specs.Services.{numbers_of}

-- the first k blocks of such arrays: block i has the i-th number and the next of the i-th size of payload
unfoldable pub blocks_held : ℕ → List ℕ → List ℕ → List ℕ → List Block
blocks_held zero ns ss d = []
blocks_held (suc k) ns ss d = record { number = get_or ns 0 0; payload = take (get_or ss 0 0) d } ∷ blocks_held k (drop 1 ns) (drop 1 ss) (drop (get_or ss 0 0) d)

-- a sequence number, how many blocks there are, and the three arrays
pub record Fields : Type 0 where
  pub seq_no : ℕ
  pub count : ℕ
  pub numbers : List ℕ
  pub sizes : List ℕ
  pub payload : List ℕ

-- places with these fields
abbrev pub fields : ℕ → ℕ → List ℕ → List ℕ → List ℕ → Fields
fields q k ns ss d = record { seq_no = q; count = k; numbers = ns; sizes = ss; payload = d }

-- the three arrays alone
pub record Arrays : Type 0 where
  pub numbers : List ℕ
  pub sizes : List ℕ
  pub payload : List ℕ

-- arrays of these numbers, sizes and payloads
abbrev pub arrays : List ℕ → List ℕ → List ℕ → Arrays
arrays ns ss d = record { numbers = ns; sizes = ss; payload = d }

-- those of places
abbrev pub arrays_of : Fields → Arrays
arrays_of p = record { numbers = p.numbers; sizes = p.sizes; payload = p.payload }

-- how many places the three arrays have
pub record Places (p : Fields) : Type 0 where
  pub numbers : length p.numbers ≡ 63
  pub sizes : length p.sizes ≡ 63
  pub payload : length p.payload ≡ 127

-- no packet: zeros in all places
abbrev pub zeros : Fields
zeros = fields 0 0 (replicate 63 0) (replicate 63 0) (replicate 127 0)

-- the packet that they hold
abbrev pub packet_in : Fields → Packet
packet_in p = record { sequence = p.seq_no; blocks = blocks_held p.count p.numbers p.sizes p.payload }

-- the sum of sizes
abbrev pub sum_of : List ℕ → ℕ
sum_of sizes = foldr ◌+◌ 0 sizes

-- whether the blocks and their payloads are in their places, and the packet breaks no limit
unfoldable pub valid_fields : Fields → Bool
valid_fields p = leb p.count 63 && leb (sum_of (take p.count p.sizes)) 127 && valid_packet (packet_in p)

-- the sizes of their payloads
abbrev pub sizes_of : List Block → List ℕ
sizes_of bs = map (λ (b : Block). length b.payload) bs

-- their payloads, one behind the other
abbrev pub payloads_of : List Block → List ℕ
payloads_of bs = flat_map (λ (b : Block). b.payload) bs

-- a packet laid over places: those behind it stay
unfoldable pub laid_over : Fields → Packet → Fields
laid_over old p =
    fields p.sequence (length p.blocks)
    (sets old.numbers 0 (numbers_of p.blocks)) (sets old.sizes 0 (sizes_of p.blocks)) (sets old.payload 0 (payloads_of p.blocks))

-- a block of a number and a payload
abbrev pub block_from : ℕ → List ℕ → Block
block_from number part = record { number = number; payload = part }
