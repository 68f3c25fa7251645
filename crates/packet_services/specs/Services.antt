-- The set of a packet's services as the code makes it, number by number. No public contract of `packet` reaches this file. Assumes nothing.
use Rattle.std.specs.Prelude.{cond, List, ℕ, ◌^◌, ltb, take}
use Rattle.std.specs.Int.Bits.{bit_or}
use Rattle.model.specs.Services.{bits_of}

-- a set with a number more; of 64 bits none is for a number above 63
unfoldable pub with_number : ℕ → ℕ → ℕ
with_number set n = cond (ltb 63 n) set (bit_or set (2 ^ n))

-- the set of the first k numbers of an array; no bit where there are fewer places
unfoldable pub services_to : ℕ → List ℕ → ℕ
services_to k ns = cond (ltb 63 k) 0 (bits_of 64 (take k ns))
