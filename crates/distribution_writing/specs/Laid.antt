-- What functions of this crate that are not public go by: no public contract reaches this file. Assumes nothing.
use Rattle.std.specs.Prelude.{List, ◌++◌, ℕ, length, take, drop, replicate}
use Rattle.model.specs.Frame.{tri}
use Rattle.model.specs.Distribution.{as_written, sections, distribution_bytes, distribution_of}

-- the first nine bytes of a packet of n triples, whatever these are: its head, and the first two bytes of its captions
abbrev pub first_nine : ℕ → ℕ → ℕ → List ℕ
first_nine counter code n = take 9 (sections as_written (record { code = code; counter = counter; triples = replicate n (tri 0 0 0) }))

-- the sections of a frame's packet
abbrev pub sections_of : ℕ → ℕ → List ℕ → List ℕ
sections_of counter code f = sections as_written (distribution_of counter code f)

-- an output with its bytes at the front
abbrev pub packet_in : ℕ → ℕ → List ℕ → List ℕ → List ℕ
packet_in counter code f out =
    let bytes = distribution_bytes (distribution_of counter code f) in
    bytes ++ drop (length bytes) out
