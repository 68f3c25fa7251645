-- How `is_written` finds out whether a slot is a written packet: a walk over its blocks. No public contract reaches this file; that the walk
-- passes exactly the slots of `written_slot` is the law `walked_written`. Assumes nothing.
use Rattle.std.specs.Prelude.{◌≡◌, Bool, true, false, cond, not, ◌&&◌, ◌||◌, List, [], ◌∷◌, ℕ, zero, suc, ◌+◌, ◌-◌, ◌/◌, ◌%◌, ◌≤◌, eqb, leb, ltb, length, get_or, take, drop}
use Rattle.model.specs.Packet.{packet_length}
use Rattle.model.specs.Mux.{started, packet_triples}
use Rattle.slots.specs.Slot.{written_length, written_bytes, read_slot}
use Rattle.slots.specs.declared.Slot.{Slot}

-- the bytes of a written block [B7] whose first two are these; 0 where none with a number and a payload starts so
unfoldable pub block_span : ℕ → ℕ → ℕ
block_span h second =
    cond (eqb (h % 32) 0 || eqb (h / 32) 0) 0
    (cond (ltb (h / 32) 7) (1 + h % 32)
    (cond (eqb (h / 32) 7 && (leb 7 second && leb second 63)) (2 + h % 32) 0))

-- written blocks, one after another; the first `passed` bytes are of the block before
unfoldable pub whole_blocks : ℕ → List ℕ → Bool
whole_blocks zero [] = true
whole_blocks (suc passed) [] = false
whole_blocks (suc passed) (x ∷ d) = whole_blocks passed d
whole_blocks zero (x ∷ d) = not (eqb (block_span x (get_or d 0 0)) 0) && whole_blocks (block_span x (get_or d 0 0) - 1) d

-- the header tells the size, 0x00 follows an odd length, and the bytes are there
unfoldable pub framed_slot : Slot → Bool
framed_slot s =
    eqb (get_or s.bytes 0 0 % 64) ((s.len + 1) / 2 % 64)
    && (leb (get_or s.bytes 0 0) 255 && ((eqb (s.len % 2) 0 || eqb (get_or s.bytes s.len 0) 0) && leb (written_length s) (length s.bytes)))

-- the tests of a slot
unfoldable pub walked_slot : Slot → Bool
walked_slot s = leb 3 s.len && (leb s.len 128 && (framed_slot s && whole_blocks 0 (drop 1 (take s.len s.bytes))))

-- a slot that holds a packet as it is written
pub record Carries (s : Slot) : Type 0 where
  pub some : 1 ≤ s.len
  pub most : s.len ≤ 128
  pub whole : length (written_bytes s) ≡ written_length s
  pub triples : packet_triples (read_slot s) ≡ started (written_bytes s)
  pub measured : packet_length (read_slot s) ≡ s.len
