-- States within the limits; any other is refused with 11. Assumes nothing.
use Rattle.std.specs.Prelude.{Bool, ◌&&◌, ◌*◌, take, leb}
use Rattle.model.specs.Lists.{every, same}
use Rattle.model.specs.Demux.{valid_demux}
use Rattle.parser_lists.specs.Pairs.{placed_all}
use Rattle.parser_rings.specs.Ring.{ring_from, slot_fine}
use Rattle.parser.specs.Means.{means}
use Rattle.parser.specs.declared.CCDataParser.{CCDataParser}

-- the places are in order: the pairs stand as they are laid, pending bytes and the ring's head have places, and each waiting slot reads
unfoldable pub in_order : CCDataParser → Bool
in_order p =
    same (placed_all (means p).pairs) (take (3 * p.pair_count) p.pairs)
    && (leb p.pending_len 128
    && (leb p.waiting_first 31 && every slot_fine (ring_from p.waiting_first p.waiting_count p.waiting)))

-- [R11] within the limits: the places are in order, and what they mean is valid
unfoldable pub valid : CCDataParser → Bool
valid p = in_order p && valid_demux (means p)
