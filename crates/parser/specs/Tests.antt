-- What the functions of this crate test. No public contract reaches this file. Assumes nothing.
use Rattle.std.specs.Prelude.{Bool, ◌&&◌}
use Rattle.parser_lists.specs.Listing.{list_fine}
use Rattle.parser_rings.specs.Tests.{ring_fine}
use Rattle.parser_gather.specs.Tests.{pending_fine}
use Rattle.parser.specs.declared.CCDataParser.{CCDataParser}

-- the pairs, the pending bytes and the waiting slots are within their limits
unfoldable pub fine : CCDataParser → Bool
fine p =
    list_fine p.cea608_on p.pair_count p.pairs
    && (pending_fine p.pending_len p.pending && ring_fine p.waiting_first p.waiting_count p.waiting)
