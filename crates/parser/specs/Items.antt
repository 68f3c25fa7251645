-- What drawing answers: the item, and the packet beside it. Assumes nothing.
use Rattle.std.specs.Prelude.{List, [], ◌∷◌, ℕ}
use Rattle.caption.specs.declared.Cea608.{Cea608}
use Rattle.caption.specs.declared.Cea608.TheVariants.{Field1, Field2}
use Rattle.caption.specs.Pairs.{cea608_of}
use Rattle.model.specs.Frame as frame
use Rattle.model.specs.Demux as model
use Rattle.model.specs.Demux.{pair_values, item_packet}
use Rattle.packet.specs.Packet.{laid}
use Rattle.parser.specs.declared.Item.{Item}
use Rattle.parser.specs.declared.Item.TheVariants.{Pair, Packet, Nothing}
use Rattle.parser.specs.declared.Drawn.{Drawn}

-- what an item says: the values of the model's
abbrev pub said_item : Item → List ℕ
said_item (Pair x) = pair_values (cea608_of x)
said_item Packet = 3 ∷ []
said_item Nothing = []

-- what is said of what is drawn
abbrev pub drawn_values : Drawn → List ℕ
drawn_values d = said_item d.item

-- the pair of the model's
abbrev pub pair_of : frame.Cea608 → Cea608
pair_of (frame.field1 (frame.pair a b)) = Field1 a b
pair_of (frame.field2 (frame.pair a b)) = Field2 a b

-- the item of the model's
abbrev pub item_of : model.Item → Item
item_of (model.a_pair x) = Pair (pair_of x)
item_of (model.a_packet p) = Packet
item_of model.no_item = Nothing

-- what is drawn where the model draws an item: that item, and its packet beside it
abbrev pub drawn_of : model.Item → Drawn
drawn_of i = record { item = item_of i; packet = laid (item_packet i) }
