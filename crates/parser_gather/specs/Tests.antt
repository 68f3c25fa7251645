-- What the functions of this crate test. No public contract of `parser` reaches this file. Assumes nothing.
use Rattle.std.specs.Prelude.{List, Bool, true, cond, ◌&&◌, ℕ, ◌%◌, get_or, eqb, leb, ltb}
use Rattle.model.specs.Packet.{packet_size}

-- the first n places hold pending bytes: none, or an even number below the size that the first of them gives
unfoldable pub pending_fine : ℕ → List ℕ → Bool
pending_fine n l = cond (eqb n 0) true (eqb (n % 2) 0 && ltb n (packet_size (get_or l 0 0)))

-- a ring and pending bytes that packets can be gathered into
unfoldable pub ready_for : ℕ → ℕ → ℕ → List ℕ → Bool
ready_for f count n l = leb f 31 && (leb count 32 && pending_fine n l)
