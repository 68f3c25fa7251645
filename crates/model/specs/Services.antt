-- Which services a packet has, as a set of bits, and how many: rules P15 and P16 of docs/RULES.md. Assumes nothing.
use Rattle.std.specs.Prelude.{Bool, false, cond, ◌||◌, List, [], ◌∷◌, map, ℕ, zero, suc, ◌+◌, ◌^◌, eqb, length}
use Rattle.model.specs.Block.{Block}
use Rattle.model.specs.Packet.{Packet}

-- whether a number is among some
unfoldable pub among : List ℕ → ℕ → Bool
among [] k = false
among (n ∷ ns) k = eqb n k || among ns k

-- the numbers among them, each once
unfoldable pub once : List ℕ → List ℕ
once [] = []
once (n ∷ ns) = cond (among ns n) (once ns) (n ∷ once ns)

-- the set of those below a width: bit k is 1 where k is among them
unfoldable pub bits_of : ℕ → List ℕ → ℕ
bits_of zero ns = 0
bits_of (suc width) ns = cond (among ns width) (2 ^ width) 0 + bits_of width ns

-- the numbers of blocks
abbrev pub numbers_of : List Block → List ℕ
numbers_of bs = map (λ (b : Block). b.number) bs

-- The services of a packet: 64 bits, bit k for service k [P15].
unfoldable pub services_of : Packet → ℕ
services_of p = bits_of 64 (numbers_of p.blocks)

-- How many services it has, one with several blocks counted once [P16].
unfoldable pub distinct_services : Packet → ℕ
distinct_services p = length (once (numbers_of p.blocks))
