-- What the header of a block says. No public contract of `service` or `packet` reaches this file. Assumes nothing.
use Rattle.std.specs.Prelude.{Option, Some, None, cond, List, ℕ, get_or, replicate}
use Rattle.model.specs.Block.{header_length, block_size, number_in, is_short, block_length}
use Rattle.service_headers.specs.declared.Header.{Header}

-- the header of the block at the head of some bytes, if all of the block is there [B4]
unfoldable pub header_of : List ℕ → Option Header
header_of d =
    cond (is_short d) None
    (Some (record { number = number_in d; start = header_length (get_or d 0 0); size = block_size (get_or d 0 0) }))

-- the length of a block by its number and the size of its payload, for which any bytes may stand
abbrev pub length_for : ℕ → ℕ → ℕ
length_for number size = block_length (record { number = number; payload = replicate size 0 })
