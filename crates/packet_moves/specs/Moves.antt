-- How the two readers go over the bytes of a packet. No public contract of `packet` reaches this file. Assumes nothing.
use Rattle.std.specs.Prelude.{◌≡◌, Some, Bool, false, cond, ◌||◌, List, [], ◌∷◌, ℕ, ◌+◌, ◌≤◌, eqb, leb, ltb, length, get_or, drop}
use Rattle.model.specs.Said.{Outcome}
use Rattle.model.specs.Block.{Block}
use Rattle.model.specs.Packet.{Packet, sequence_in, Way, blocks_from}
use Rattle.service_headers.specs.declared.Header.{Header}
use Rattle.service_headers.specs.Head.{header_of}

-- how far the plain reader moves on past a header that says this
abbrev pub plain_step : ℕ → ℕ → ℕ → ℕ
plain_step number start size = cond (eqb number 0) 1 (cond (eqb size 0) 1 (cond (ltb number 7) 1 2 + size))

-- and the tidy one
abbrev pub tidy_step : ℕ → ℕ → ℕ → ℕ
tidy_step number start size = start + size

-- a reader moves by what a header says: forward, and past the payload of a block that is kept, but no further than the bytes; and it reads no more
-- bytes than the packet's header says
pub record Goes (way : Way) (step : ℕ → ℕ → ℕ → ℕ) : Type 0 where
  pub by : (d : List ℕ) (h : Header) → header_of d ≡ Some h → step h.number h.start h.size ≡ way.move d
  pub forward : (d : List ℕ) → 1 ≤ way.move d
  pub within : (d : List ℕ) (h : Header) → header_of d ≡ Some h → way.move d ≤ length d
  pub past : (n st sz : ℕ) → 1 ≤ st → (n ≡ 0 → ⊥) → (sz ≡ 0 → ⊥) → 1 + sz ≤ step n st sz
  pub fits : (size actual : ℕ) → way.wrong size actual ≡ false → actual ≤ size

-- a block that is kept: number 0 and a block without payload are not
unfoldable pub kept_for : ℕ → List ℕ → List Block
kept_for number part = cond (eqb number 0) [] (cond (eqb (length part) 0) [] (record { number = number; payload = part } ∷ []))

-- the blocks of some bytes, from a place on
abbrev pub blocks_at : Way → List ℕ → ℕ → Outcome (List Block)
blocks_at way d place = blocks_from way place 0 (drop place d)

-- whether a reader is through with them at a place: none is left, or it stops there [T2]
abbrev pub through_at : Way → List ℕ → ℕ → Bool
through_at way d place = leb (length d) place || way.stops (drop place d)

-- the packet of these blocks, by its first byte
abbrev pub packet_with : List ℕ → List Block → Packet
packet_with d bs = record { sequence = sequence_in (get_or d 0 0); blocks = bs }
