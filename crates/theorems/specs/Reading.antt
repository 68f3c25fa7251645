-- Sequences of calls of the demultiplexer's functions, each with a result that the function's contract allows. Assumes nothing.
use Rattle.std.specs.Prelude.{Result, Ok, Err, ◌≡◌, List, [], ◌∷◌, ◌++◌, ℕ, length, replicate, get_or}
use contract.Lifetimes.{Lfts}
use Rattle.caption.specs.Pairs.{cea608_of}
use Rattle.caption.specs.declared.Refusal.{Refusal}
use Rattle.packet.specs.Packet.{packet_of}
use Rattle.packet.specs.declared.DTVCCPacket.{DTVCCPacket}
use Rattle.parser.specs.declared.CCDataParser.{CCDataParser}
use Rattle.parser.specs.declared.Drawn.{Drawn}
use Rattle.parser.specs.declared.Item.{Item}
use Rattle.parser.specs.declared.Item.TheVariants as item
use Rattle.theorems.specs.Items.{Items, no_items, and_then, one_packet, one_pair}
use Rattle.theorems.specs.Allowed.{Lent, Parser, Answer, NewParser, HandleCea608, Push, Draw}

-- a fresh demultiplexer on which 608 is turned on: what that is answered, and the state that it leaves
pub data Turned : Answer → CCDataParser → Type 0 where
  turn : (κs : Lfts 1) (p q : Parser) (on : Answer) → NewParser p.now → HandleCea608 κs p on q → Turned on q.now

-- what a draw tells: an item, or a refusal
abbrev pub Told : Type 0
Told = Result Item Refusal

-- that of an answer
abbrev pub told_in : Result Drawn Refusal → Told
told_in (Ok d) = Ok d.item
told_in (Err why) = Err why

-- what was drawn: a pair of its field, or the packet beside the item
abbrev pub drawn_item : Item → DTVCCPacket → Items
drawn_item (item.Pair x) d = one_pair (cea608_of x)
drawn_item item.Packet d = one_packet (packet_of d)
drawn_item item.Nothing d = no_items

-- that of an answer; a refusal gives nothing
abbrev pub given_in : Result Drawn Refusal → Items
given_in (Ok d) = drawn_item d.item d.packet
given_in (Err why) = no_items

-- draws until there is nothing left, with what each draw told and what was given
pub data Empties : CCDataParser → List Told → Items → CCDataParser → Type 0 where
  nothing_left : (κs : Lfts 1) (p q : Parser) (r : Result Drawn Refusal) → Draw κs p r q → told_in r ≡ Ok item.Nothing → Empties p.now (told_in r ∷ []) (given_in r) q.now
  draw : {last : CCDataParser} {told : List Told} {is : Items} (κs : Lfts 1) (p q : Parser) (r : Result Drawn Refusal) → Draw κs p r q → (told_in r ≡ Ok item.Nothing → ⊥)
      → Empties q.now told is last → Empties p.now (told_in r ∷ told) (and_then (given_in r) is) last

-- every frame is given, and all is drawn after each [J1]: each result is one that its function's contract allows, and the next call is of the state
-- that the one before left; with each frame's answer, what each draw told, and what was given
pub data Feeds : CCDataParser → List (List ℕ) → List Answer → List Told → Items → CCDataParser → Type 0 where
  no_frame : {p : CCDataParser} → Feeds p [] [] [] no_items p
  feed : {empty last : CCDataParser} {fs : List (List ℕ)} {answers : List Answer} {told told' : List Told} {is is' : Items} (κs : Lfts 2) (p q : Parser) (frame : Lent) (r : Answer)
      → Push κs p frame r q → Empties q.now told is empty → Feeds empty fs answers told' is' last
      → Feeds p.now (frame.now ∷ fs) (r ∷ answers) (told ++ told') (and_then is is') last

-- every frame is accepted, and no draw tells a refusal
pub record NoRefusal (frames : List (List ℕ)) (answers : List Answer) (told : List Told) : Type 0 where
  pub all_accepted : answers ≡ replicate (length frames) (Ok tt)
  pub none_refused : (i : ℕ) (why : Refusal) → get_or told i (Ok item.Nothing) ≡ Err why → ⊥

-- there is a way to feed frames: at each step some result is allowed, and drawing comes to an end
pub record Feedable (p : CCDataParser) (frames : List (List ℕ)) : Type 0 where
  pub answers : List Answer
  pub told : List Told
  pub given : Items
  pub last : CCDataParser
  pub feeds : Feeds p frames answers told given last
