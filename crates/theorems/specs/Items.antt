-- What goes into a multiplexer and comes out of a demultiplexer: rules J of docs/RULES.md. Assumes nothing.
use Rattle.std.specs.Prelude.{cond, List, [], ◌∷◌, ◌++◌, eqb, length}
use Rattle.model.specs.Packet.{Packet}
use Rattle.model.specs.Frame.{Pair, Cea608, field1, field2}
use Rattle.model.specs.Run.{others}

-- the items [J1]: packets, and the pairs of each field, each in order
pub record Items : Type 0 where
  pub packets : List Packet
  pub pairs1 : List Pair
  pub pairs2 : List Pair

-- no items
abbrev pub no_items : Items
no_items = record { packets = []; pairs1 = []; pairs2 = [] }

-- items, and then others behind them
abbrev pub and_then : Items → Items → Items
and_then a b = record { packets = a.packets ++ b.packets; pairs1 = a.pairs1 ++ b.pairs1; pairs2 = a.pairs2 ++ b.pairs2 }

-- one packet
abbrev pub one_packet : Packet → Items
one_packet p = record { packets = p ∷ []; pairs1 = []; pairs2 = [] }

-- one packet, if it has a block [J1]
abbrev pub if_nonempty : Packet → Items
if_nonempty p = cond (eqb (length p.blocks) 0) no_items (one_packet p)

-- one pair of its field, if it is not 80 80 [J1]
abbrev pub one_pair : Cea608 → Items
one_pair (field1 x) = record { packets = []; pairs1 = others (x ∷ []); pairs2 = [] }
one_pair (field2 x) = record { packets = []; pairs1 = []; pairs2 = others (x ∷ []) }
