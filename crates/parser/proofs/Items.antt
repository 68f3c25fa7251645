-- What an item says tells which item it is. Assumes nothing.
use mathlib.Core.Path.{◌≡◌, refl}
use mathlib.Core.Bool.{cond}
use mathlib.Core.List.{List}
use mathlib.Mathlib.Logic.Function.Defs.{Injective, LeftInverse, LeftInverse-Injective}
use Prim.Native.Nat.{ℕ}
use lib.Dec.{eqb}
use lib.ListN.{get_or}
use Rattle.caption.specs.declared.Cea608.TheVariants.{Field1, Field2}
use Rattle.caption.specs.Pairs.{cea608_of}
use Rattle.model.specs.Frame as frame
use Rattle.model.specs.Demux as model
use Rattle.parser.specs.Items.{said_item, pair_of, item_of}
use Rattle.parser.specs.declared.Item.{Item}
use Rattle.parser.specs.declared.Item.TheVariants.{Pair, Packet, Nothing}

-- the item that its first value tells: none, a pair of field 1 or 2, or a packet
item_by : ℕ → List ℕ → Item
item_by k v =
    cond (eqb k 0) Nothing
    (cond (eqb k 1) (Pair (Field1 (get_or v 1 0) (get_or v 2 0)))
    (cond (eqb k 2) (Pair (Field2 (get_or v 1 0) (get_or v 2 0))) Packet))

-- the item that its values tell
abbrev item_in : List ℕ → Item
item_in v = item_by (get_or v 0 0) v

-- the item is taken back from what it says
item_again : LeftInverse item_in said_item
unfolding item_by
item_again (Pair (Field1 a b)) = refl
item_again (Pair (Field2 a b)) = refl
item_again Packet = refl
item_again Nothing = refl

-- no two items say the same
pub said_item_injective : Injective said_item
said_item_injective = LeftInverse-Injective item_in said_item item_again

-- the pair of the model's means that
pub pair_means : (x : frame.Cea608) → cea608_of (pair_of x) ≡ x
pair_means (frame.field1 (frame.pair a b)) = refl
pair_means (frame.field2 (frame.pair a b)) = refl

-- the item of the model's says what that says
pub item_says : (i : model.Item) → said_item (item_of i) ≡ model.item_values i
item_says (model.a_pair (frame.field1 (frame.pair a b))) = refl
item_says (model.a_pair (frame.field2 (frame.pair a b))) = refl
item_says (model.a_packet p) = refl
item_says model.no_item = refl
