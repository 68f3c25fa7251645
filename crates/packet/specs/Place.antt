-- What the block at a place of a packet is. Assumes nothing.
use Rattle.std.specs.Prelude.{Option, Some, None, List, [], ◌∷◌, ℕ, take, drop}
use Rattle.model.specs.Block.{Block}
use Rattle.model.specs.Packet.{Packet}
use Rattle.service.specs.declared.Service.{Service}
use Rattle.service.specs.Service.{over, blank}

-- the blocks at a place: one, or none behind the last
abbrev pub blocks_at : ℕ → Packet → List Block
blocks_at i p = take 1 (drop i p.blocks)

-- the first of some blocks handed out, with zeros behind its payload; none where there are none
abbrev pub handed : List Block → Option Service
handed [] = None
handed (b ∷ bs) = Some (over blank b)
