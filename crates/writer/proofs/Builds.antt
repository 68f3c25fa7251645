-- A frame that is built is the model's frame, and the state after it is what the model leaves. Assumes nothing.
use mathlib.Core.Path.{◌≡◌, refl, sym, ap}
use mathlib.Core.Bool.{true, cond}
use mathlib.Core.List.{List, ◌++◌}
use Prim.Native.Nat.{ℕ, ◌+◌, ◌-◌, ◌*◌, ◌%◌, ◌≤◌, min}
use native.Mathlib.Omega.{arith}
use lib.ListN.{length, take}
use lib.Seq.{length-take-le}
use Rattle.model.specs.Frame as model
use Rattle.model.specs.Frame.{Triple, flat}
use Rattle.model.specs.Rate.{Budgets, valid_carry, Share}
use Rattle.model.specs.Mux.{Turned, turned, turns_due, turns_sending, turns_counted, count_due, Sent, padding, framed, write_frame, write_share, valid_mux, most_queued}
use Rattle.model.proofs.Frames.{flat_length}
use Rattle.model.proofs.MuxStates.{write_valid, carry_valid, turns_most, count_most, count_room}
use Rattle.writer_frames.specs.Frame.{headed, appended}
use Rattle.writer_frames.proofs.Stores.{appended_flat}
use Rattle.writer_frames.specs.declared.Frame.{Frame}
use Rattle.writer_turns.specs.Turn.{taken, turns_from}
use Rattle.writer_turns.specs.declared.Turns.{Turns}
use Rattle.writer_queues.specs.Queue.{queue_of}
use Rattle.writer_queues.proofs.Queues.{queue_length}
use Rattle.writer_turns.proofs.Steps.{fit}
use Rattle.slots.specs.declared.Slot.{Slot}
use Rattle.writer_shares.specs.Share.{carry_in}
use Rattle.writer_sending.specs.Slots.{count_of, filled}
use Rattle.writer_sending.proofs.Triples.{left_length, left_triples}
use Rattle.writer_sending.proofs.Sends.{triples_queued_read}
use Rattle.writer_sending.proofs.Fills.{filled_is}
use Rattle.writer_sending.specs.declared.Sending.{Sending}
use Rattle.writer.specs.Writer.{means, moved}
use Rattle.writer_building.specs.Building.{turns_of, counted_of, takes, made_of, built_by, built}
use Rattle.writer_building.proofs.Sends.{sent_any}
use Rattle.writer_building.specs.declared.Made.{Made}
use Rattle.writer.specs.Making.{joined, built_from}
use Rattle.writer.proofs.Valid.{Shaped, Ok, Order}
use Rattle.writer.proofs.Moved as moved
use Rattle.writer.specs.declared.CCDataWriter.{CCDataWriter}

-- the bytes of a frame in their places
abbrev pub laid : model.Frame → Frame
laid f = appended (headed f.count) (flat f.triples)

-- a frame that is made is the model's, and leaves what the model leaves
pub record Builds (h : Share) (w : CCDataWriter) (m : Made) : Type 0 where
  pub frame : m.frame ≡ laid (write_share h (means w)).frame
  pub writer : joined w m ≡ moved w (write_share h (means w)).next
  pub few : m.next ≤ w.packet_count

-- what a frame leaves means what the model leaves, and stays in order
module _ (w : CCDataWriter) (h : Share) (ok : Ok w) (v : valid_mux (means w) ≡ true) (c : valid_carry h.carry ≡ true) where
  -- the packet triples of the frame
  m : ℕ
  m = count_due h.budgets (means w) - length (turned (turns_due h.budgets.pairs (means w)) (means w)).out

  -- the multiplexer that the model leaves is within its limits
  pub next_valid : valid_mux (write_share h (means w)).next ≡ true
  next_valid = carry_valid (means w).carrying h.carry (write_frame h.budgets (means w)).next (write_valid h.budgets (means w) v) c

  -- it means that
  pub means_frame : means (moved w (write_share h (means w)).next) ≡ (write_share h (means w)).next
  unfolding means write_frame framed m
  means_frame = moved.means_moved w ok m (write_share h (means w)).next refl refl next_valid

  -- in order
  pub order_frame : Order w → Order (moved w (write_share h (means w)).next)
  unfolding means write_frame framed m
  order_frame = moved.order_moved w ok m (write_share h (means w)).next refl refl next_valid

  -- with arrays of their lengths
  pub shaped_frame : Shaped (moved w (write_share h (means w)).next)
  unfolding means write_frame framed m
  shaped_frame = moved.shaped_moved w ok m (write_share h (means w)).next refl refl next_valid

module _ (w : CCDataWriter) (h : Share) (ok : Ok w) (within : h.budgets.pairs ≤ h.budgets.triples) (most : h.budgets.triples ≤ 31) where
  -- the budgets of the frame
  abbrev b : Budgets
  b = h.budgets

  -- the turns are the model's
  pub turns_are : turns_of w.output_cea608_padding b.pairs w.field1.count w.field2.count ≡ turns_due b.pairs (means w)
  unfolding turns_due means
  turns_are =
      let n : min w.field2.count most_queued ≡ w.field2.count = omega (arith, ok.second.few) in
      rw (n, queue_length w.field1 ok.first, queue_length w.field2 ok.second)

  -- the slots of the packets that are queued
  abbrev slots : List Slot
  slots = take w.packet_count w.packets

  -- so are those that are counted
  counted_are : counted_of w.true_count w.output_cea608_padding (turns_due b.pairs (means w)) w.field2_next w.field1.count w.field2.count ≡ turns_counted b.pairs (means w)
  unfolding turns_counted turns_sending turned means
  counted_are =
      let n : ℕ = turns_due b.pairs (means w) in
      let one = queue_length w.field1 ok.first in
      let two = queue_length w.field2 ok.second in
      ap (λ k. cond w.true_count k n) (sent_any w.output_cea608_padding n w.field2_next (queue_of w.field1) (queue_of w.field2) one two)

  -- and so is the count
  count_are : count_of w.output_padding b.triples (turns_counted b.pairs (means w)) slots w.sending w.sent ≡ count_due b (means w)
  unfolding count_due means
  count_are = rw (triples_queued_read slots ok.slots, left_triples w.sending w.sent ok.held, ← left_length w.sending w.sent ok.held)

  -- the turns of the frame
  abbrev due : ℕ
  due = turns_due b.pairs (means w)

  -- its count
  abbrev count : ℕ
  count = count_due b (means w)

  -- what the turns send and leave
  abbrev turns : Turned
  turns = turned due (means w)

  -- the frame after the turns
  abbrev frame : Frame
  frame = appended (headed count) (flat turns.out)

  -- the turns leave room for the count
  few_turns : length turns.out ≤ count
  few_turns = count_room b (means w) within

  -- no more turns than triples
  turns_few : due ≤ 31
  turns_few = omega (arith, turns_most b.pairs (means w))

  -- the count has five bits
  count_few : count ≤ 31
  count_few = omega (arith, count_most b (means w))

  -- the queues and a frame when the turns start
  abbrev turns_on : Frame → Turns
  turns_on f = record { field1 = w.field1; field2 = w.field2; field2_next = w.field2_next; frame = f }

  -- the turns that are taken
  taken_are : takes due w.output_cea608_padding (turns_on (headed count)) ≡ taken (turns_on (headed count)) turns
  unfolding turns_from turned means headed
  taken_are =
      rw (fit (turns_on (headed count)) due w.output_cea608_padding (record { first = ok.first.few; second = ok.second.few; room = omega (arith, turns_few) }))

  -- three bytes a triple behind the header
  frame_length : frame.len ≡ 2 + 3 * length turns.out
  unfolding headed
  frame_length = ap (λ k. 2 + k) (flat_length turns.out)

  -- the packet triples
  abbrev sends : Sent
  sends = moved.sends w ok (count - length turns.out)

  -- the padding
  abbrev fillings : List Triple
  fillings = padding w.output_padding (count - length turns.out - length sends.out)

  -- where sending stands in the end
  abbrev sent : Sending
  sent =
      let m = count - length turns.out in
      record { slot = moved.rest w ok m; sent = cond (moved.none w ok m) 0 (moved.at w ok m); next = moved.next w ok m; frame = appended frame (flat (sends.out ++ fillings)) }

  -- as the code finds it
  sent_are : filled slots w.sending w.sent frame count w.output_padding ≡ sent
  sent_are =
      let n : length slots ≡ w.packet_count = length-take-le w.packet_count w.packets (omega (arith, ok.few, ok.places)) in
      rw n at (filled_is slots w.sending w.sent frame (length turns.out) count ok.slots ok.held frame_length few_turns count_few w.output_padding)

  -- so the frame and what is left are those of the model's turns and packet triples
  built_are : built_from b.pairs b.triples (carry_in h.carry) w ≡ made_of (taken (turns_on (headed count)) turns) sent (carry_in h.carry)
  unfolding built built_by
  built_are =
      let c : count % 32 ≡ count = omega (arith, count_few) in
      rw (turns_are, counted_are, count_are, c, taken_are, sent_are)

  -- the frame is the model's
  frame_are : sent.frame ≡ laid (write_share h (means w)).frame
  unfolding means write_frame framed
  frame_are = appended_flat (headed count) turns.out (sends.out ++ fillings)

  -- the state is what the model leaves
  writer_are : joined w (made_of (taken (turns_on (headed count)) turns) sent (carry_in h.carry)) ≡ moved w (write_share h (means w)).next
  unfolding means write_frame framed
  writer_are =
      let k : w.packet_count - (w.packet_count - length sends.packets) ≡ length sends.packets = omega (arith, moved.fewer w ok (count - length turns.out)) in
      rw k (sym (moved.moved_is w ok (count - length turns.out) (write_share h (means w)).next refl refl))

  -- frame and state are what the model says
  pub built_is : (m : Made) → m ≡ built_from b.pairs b.triples (carry_in h.carry) w → Builds h w m
  built_is m e = rw (e, built_are) (record { frame = frame_are; writer = writer_are; few = omega arith })
