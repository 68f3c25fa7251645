-- A service block: rules B of docs/RULES.md. Assumes nothing.
use Rattle.std.specs.Prelude.{Bool, cond, not, ◌&&◌, ◌||◌, List, [], ◌∷◌, ◌++◌, ℕ, ◌+◌, ◌-◌, ◌*◌, ◌/◌, ◌%◌, eqb, leb, ltb, length, get_or, take, drop}
use Rattle.model.specs.Said.{Said, Outcome, gave, refused, would_overflow, read_only, bad_number, bad_run, block_header_short, block_body_short}

-- a block: its number and its payload [B1]
pub record Block : Type 0 where
  pub number : ℕ
  pub payload : List ℕ

-- the most bytes of a payload [B1]
abbrev pub most_payload : ℕ
most_payload = 31

-- A block that breaks no limit: number, payload, and none in block 0 [B1].
unfoldable pub valid_block : Block → Bool
valid_block b = leb b.number 63 && leb (length b.payload) most_payload && (not (eqb b.number 0) || eqb (length b.payload) 0)

-- A block made of a number alone; above 63 is 6 [B11].
unfoldable pub new_block : ℕ → Outcome Block
new_block n = cond (ltb 63 n) (refused bad_number) (gave (record { number = n; payload = [] }))

-- the number in the upper three bits of a header [B2]
abbrev pub top_number : ℕ → ℕ
top_number h = h / 32 % 8

-- the size in the lower five [B2]
abbrev pub block_size : ℕ → ℕ
block_size h = h % 32

-- a header that says 7 and has a size takes a second byte [B3],
unfoldable pub header_length : ℕ → ℕ
header_length h = cond (eqb (top_number h) 7 && not (eqb (block_size h) 0)) 2 1

-- whose lower six bits are the number [B3]
unfoldable pub number_in : List ℕ → ℕ
number_in d = cond (eqb (header_length (get_or d 0 0)) 2) (get_or d 1 0 % 64) (top_number (get_or d 0 0))

-- whether any byte of the header is missing [B4]
unfoldable pub is_header_short : List ℕ → Bool
is_header_short d = ltb (length d) (header_length (get_or d 0 0))

-- how many bytes are wanted: the header's, and once they are there those of the body that it announces too [B4]
unfoldable pub needed : List ℕ → ℕ
needed d = let h = get_or d 0 0 in cond (is_header_short d) (header_length h) (header_length h + block_size h)

-- whether any of them are missing [B4]
unfoldable pub is_short : List ℕ → Bool
is_short d = ltb (length d) (needed d)

-- The block at the head of bytes that are not short; number 0 has no payload, whatever its size [B5].
unfoldable pub block_in : List ℕ → Block
block_in d =
    let h = get_or d 0 0 in
    record { number = number_in d; payload = cond (eqb (number_in d) 0) [] (take (block_size h) (drop (header_length h) d)) }

-- which are missing: of the header, or of the body that it announces; with those wanted, those there, and where the block begins [B4]
unfoldable pub short_at : ℕ → List ℕ → Said
short_at offset d = cond (is_header_short d) (block_header_short (needed d) (length d) offset) (block_body_short (needed d) (length d) offset)

-- A block read that begins at this offset of its packet [B4] [B5].
unfoldable pub read_block_at : ℕ → List ℕ → Outcome Block
read_block_at offset d = cond (is_short d) (refused (short_at offset d)) (gave (block_in d))

-- A block read alone: its offset is 0 [B4].
abbrev pub read_block : List ℕ → Outcome Block
read_block d = read_block_at 0 d

-- the part of the caller's bytes that is the payload [B6]
unfoldable pub part_in : List ℕ → List ℕ
part_in d = cond (is_short d) [] (block_in d).payload

-- a header as it is written: one byte for numbers 0 to 6, two for 7 to 63 [B7]
unfoldable pub written_header : ℕ → ℕ → List ℕ
written_header number size = cond (ltb number 7) ((number * 32 + size) ∷ []) ((0xE0 + size) ∷ number ∷ [])

-- a block as it is written: its header, then its payload [B7]
unfoldable pub written_block : Block → List ℕ
written_block b = written_header b.number (length b.payload) ++ b.payload

-- the length of a block: what it is written in, but 0 without payload [B8]
unfoldable pub block_length : Block → ℕ
block_length b = cond (eqb (length b.payload) 0) 0 (length (written_block b))

-- the room of a block [B9]
abbrev pub block_room : Block → ℕ
block_room b = most_payload - length b.payload

-- the block with a run of bytes behind its payload
abbrev pub with_run : List ℕ → Block → Block
with_run run b = record { number = b.number; payload = b.payload ++ run }

-- A run pushed to a block: 7, then 4, then 3 [B10].
unfoldable pub push_to_block : List ℕ → Block → Outcome Block
push_to_block run b =
    cond (eqb (length run) 0) (refused bad_run)
    (cond (eqb b.number 0) (refused read_only)
    (cond (ltb (block_room b) (length run)) (refused (would_overflow (length run - block_room b)))
    (gave (with_run run b))))
