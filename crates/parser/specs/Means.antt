-- What a state means: the demultiplexer of the model. Assumes nothing.
use Rattle.std.specs.Prelude.{map, ◌≡◌, length, take}
use Rattle.model.specs.Demux.{Demux, packets_of}
use Rattle.parser_lists.specs.Pairs.{pairs_of}
use Rattle.parser_rings.specs.Ring.{ring_from, slot_run}
use Rattle.parser.specs.declared.CCDataParser.{CCDataParser}

-- 608, the pairs that wait, the bytes of the packet that is not complete, and the packets that wait
unfoldable pub means : CCDataParser → Demux
means p =
    record {
      on608 = p.cea608_on;
      pairs = pairs_of p.pair_count p.pairs;
      pending = take p.pending_len p.pending;
      waiting = packets_of (map slot_run (ring_from p.waiting_first p.waiting_count p.waiting));
    }

-- the arrays of a state have their lengths
pub record Shaped (p : CCDataParser) : Type 0 where
  pub pairs : length p.pairs ≡ 93
  pub pending : length p.pending ≡ 128
  pub waiting : length p.waiting ≡ 32
