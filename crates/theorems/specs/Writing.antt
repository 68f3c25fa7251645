-- Sequences of calls of the multiplexer's functions, each with a result that the function's contract allows. Assumes nothing.
use Rattle.std.specs.Prelude.{Result, Ok, Err, ◌≡◌, Bool, true, List, [], ◌∷◌, ◌++◌, ℕ, ◌≤◌, length, take}
use contract.Lifetimes.{Lfts}
use Rattle.std.specs.Borrow.{Bor}
use Rattle.model.specs.Mux.{Mux}
use Rattle.model.specs.Run.{exact_count}
use Rattle.caption.specs.Pairs.{cea608_of}
use Rattle.caption.specs.declared.Cea608.{Cea608}
use Rattle.caption.specs.declared.Framerate.{Framerate}
use Rattle.caption.specs.declared.Refusal.{Refusal}
use Rattle.packet.specs.Packet.{packet_of}
use Rattle.packet.specs.declared.DTVCCPacket.{DTVCCPacket}
use Rattle.slots.specs.Slot.{written_length}
use Rattle.writer.specs.Writer.{means}
use Rattle.writer.specs.declared.CCDataWriter.{CCDataWriter}
use Rattle.theorems.specs.Items.{Items, no_items, and_then, if_nonempty, one_pair}
use Rattle.theorems.specs.Allowed.{Output, Writer, Answer, NewWriter, PushPacket, PushCea608, SetCea608Padding, SetPadding, SetCarrying, SetTrueCount, Flush, Write}

-- the arrays of a packet have the places that their types give them
pub record Typed (d : DTVCCPacket) : Type 0 where
  pub numbers : length d.numbers ≡ 63
  pub sizes : length d.sizes ≡ 63
  pub payload : length d.payload ≡ 127

-- what a call adds: an item only if the answer is that it is accepted
abbrev pub if_accepted : Answer → Items → Items
if_accepted (Ok x) is = is
if_accepted (Err why) is = no_items

-- the frame of a write: as many bytes of the lent output as the answer counts, and no frame if it refuses
abbrev pub frame_in : Result ℕ Refusal → List ℕ → List (List ℕ)
frame_in (Ok n) out = take n out ∷ []
frame_in (Err why) out = []

-- calls in any order, without a flush [J1], one after the other from one state to another, with the frames that they wrote and the items
-- that they accepted. Each has any arguments and any result that its function's contract allows, a refusal too, and the next call is of the state
-- that the one before left. A write is at any rate, to lent bytes of any length.
pub data Calls : CCDataWriter → List (List ℕ) → Items → CCDataWriter → Type 0 where
  no_call : {w : CCDataWriter} → Calls w [] no_items w
  push_packet : {last : CCDataWriter} {fs : List (List ℕ)} {is : Items} (κs : Lfts 2) (w w' : Writer) (d : Bor DTVCCPacket) (r : Answer) → Typed d.now → PushPacket κs w d r w'
      → Calls w'.now fs is last → Calls w.now fs (and_then (if_accepted r (if_nonempty (packet_of d.now))) is) last
  push_cea608 : {last : CCDataWriter} {fs : List (List ℕ)} {is : Items} (κs : Lfts 1) (w w' : Writer) (x : Cea608) (r : Answer) → PushCea608 κs w x r w'
      → Calls w'.now fs is last → Calls w.now fs (and_then (if_accepted r (one_pair (cea608_of x))) is) last
  set_cea608_padding : {last : CCDataWriter} {fs : List (List ℕ)} {is : Items} (κs : Lfts 1) (w w' : Writer) (on : Bool) (r : Answer) → SetCea608Padding κs w on r w'
      → Calls w'.now fs is last → Calls w.now fs is last
  set_padding : {last : CCDataWriter} {fs : List (List ℕ)} {is : Items} (κs : Lfts 1) (w w' : Writer) (on : Bool) (r : Answer) → SetPadding κs w on r w'
      → Calls w'.now fs is last → Calls w.now fs is last
  set_carrying : {last : CCDataWriter} {fs : List (List ℕ)} {is : Items} (κs : Lfts 1) (w w' : Writer) (on : Bool) (r : Answer) → SetCarrying κs w on r w'
      → Calls w'.now fs is last → Calls w.now fs is last
  set_true_count : {last : CCDataWriter} {fs : List (List ℕ)} {is : Items} (κs : Lfts 1) (w w' : Writer) (on : Bool) (r : Answer) → SetTrueCount κs w on r w'
      → Calls w'.now fs is last → Calls w.now fs is last
  write : {last : CCDataWriter} {fs : List (List ℕ)} {is : Items} (κs : Lfts 2) (w w' : Writer) (rate : Framerate) (out end : Output) (r : Result ℕ Refusal) → Write κs w rate out r w' end
      → Calls w'.now fs is last → Calls w.now (frame_in r end.now ++ fs) is last

-- a state that any calls have reached, flushes among them
pub data Reached : CCDataWriter → Type 0 where
  fresh : {w : CCDataWriter} → NewWriter w → Reached w
  called : {w w' : CCDataWriter} {fs : List (List ℕ)} {is : Items} → Reached w → Calls w fs is w' → Reached w'
  flushed : (κs : Lfts 1) (w w' : Writer) (r : Answer) → Reached w.now → Flush κs w r w' → Reached w'.now

-- whether a write that is accepted is of a multiplexer that passes a test
abbrev pub TestedAt : (Mux → Bool) → Result ℕ Refusal → CCDataWriter → Type 0
TestedAt passes answer w = (n : ℕ) → answer ≡ Ok n → passes (means w) ≡ true

-- each accepted write is; that its rate is accepted is what the answer says, else it is refused with 8
abbrev pub Tested : (Mux → Bool) → {w w' : CCDataWriter} {fs : List (List ℕ)} {is : Items} → Calls w fs is w' → Type 0
Tested passes no_call = Unit {0}
Tested passes (push_packet κs w w' d r t a c) = Tested passes c
Tested passes (push_cea608 κs w w' x r a c) = Tested passes c
Tested passes (set_cea608_padding κs w w' on r a c) = Tested passes c
Tested passes (set_padding κs w w' on r a c) = Tested passes c
Tested passes (set_carrying κs w w' on r a c) = Tested passes c
Tested passes (set_true_count κs w w' on r a c) = Tested passes c
Tested passes (write κs w w' rate out end r a c) = TestedAt passes r w.now × Tested passes c

-- each finds a padding or the true count on [J0]
abbrev pub Exact : {w w' : CCDataWriter} {fs : List (List ℕ)} {is : Items} → Calls w fs is w' → Type 0
Exact c = Tested exact_count c

-- The carrying mode stays on or off: it is set to what it is. With the mode on each accepted write is at one rate; pushes, refused calls, the
-- paddings and the true count are free.
abbrev pub Stays : Bool → Framerate → {w w' : CCDataWriter} {fs : List (List ℕ)} {is : Items} → Calls w fs is w' → Type 0
Stays mode speed no_call = Unit {0}
Stays mode speed (push_packet κs w w' d r t a c) = Stays mode speed c
Stays mode speed (push_cea608 κs w w' x r a c) = Stays mode speed c
Stays mode speed (set_cea608_padding κs w w' on r a c) = Stays mode speed c
Stays mode speed (set_padding κs w w' on r a c) = Stays mode speed c
Stays mode speed (set_carrying κs w w' on r a c) = (on ≡ mode) × Stays mode speed c
Stays mode speed (set_true_count κs w w' on r a c) = Stays mode speed c
Stays mode speed (write κs w w' rate out end r a c) = ((n : ℕ) → r ≡ Ok n → mode ≡ true → rate ≡ speed) × Stays mode speed c

-- nothing is queued, and every byte of the packet being sent has left
pub record Drained (w : CCDataWriter) : Type 0 where
  pub no_packet : w.packet_count ≡ 0
  pub no_byte : written_length w.sending ≤ w.sent
  pub no_pair1 : w.field1.count ≡ 0
  pub no_pair2 : w.field2.count ≡ 0

-- Calls that wrote fs, accepted `is` and came to w go on: with more writes, accepting nothing more and with the paddings as they were, they end
-- drained.
pub record Drains (w₀ w : CCDataWriter) (fs : List (List ℕ)) (is : Items) : Type 0 where
  pub more : List (List ℕ)
  pub last : CCDataWriter
  pub rest : Calls w more no_items last
  pub rest_exact : Exact rest
  pub whole : Calls w₀ (fs ++ more) is last
  pub exact : Exact whole
  pub drained : Drained last
  pub same_608 : last.output_cea608_padding ≡ w.output_cea608_padding
  pub same_output : last.output_padding ≡ w.output_padding
