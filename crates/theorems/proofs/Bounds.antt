-- How soon what is queued leaves, for any sequence of calls that the contracts allow. Assumes nothing.
use mathlib.Core.Path.{◌≡◌, refl, sym, ap, ◌∙◌}
use mathlib.Core.Bool.{Bool, true, false≢true}
use mathlib.Core.List.{List}
use Prim.Native.Nat.{ℕ, ◌+◌, ◌*◌, ◌≤◌}
use native.Mathlib.Omega.{arith}
use lib.ListN.{length, take, length-map}
use lib.Seq.{length-take-le}
use contract.Lifetimes.{Lfts}
use Rattle.std.specs.Prelude.{Result, Ok}
use Rattle.model.specs.Said.{Outcome, gave, refused, is_given}
use Rattle.model.specs.Packet.{Packet}
use Rattle.model.specs.Frame.{frame_bytes}
use Rattle.model.specs.Rate.{Budgets, budgets, most_triples, going_on, Share, carried_on}
use Rattle.model.specs.Mux.{Mux, share_at, write_share}
use Rattle.model.specs.Run as runs
use Rattle.model.proofs.Cases.{by_test}
use Rattle.model.proofs.Frames.{frame_triples}
use Rattle.model.proofs.Carrying.{share_accepts, share_rounds}
use Rattle.model_journey.specs.Bounds as journey
use Rattle.model_journey.specs.Bounds.{Field, one, two, accepted_of, pace}
use Rattle.model_journey.proofs.Leaves as leaves
use Rattle.model_journey.proofs.Four as four
use Rattle.model_journey.proofs.Drains as drains
use Rattle.caption.proofs.Outcomes.{outcome_injective}
use Rattle.caption.specs.declared.Framerate.{Framerate}
use Rattle.caption.specs.declared.Refusal.{Refusal}
use Rattle.writer_queues.proofs.Queues.{queue_length}
use Rattle.slots.specs.Slot.{read_slot}
use Rattle.writer.specs.Writer.{means}
use Rattle.writer_sending.proofs.Triples.{left_length}
use Rattle.writer.proofs.Kept.{Sound, sound_ok}
use Rattle.writer.proofs.Laws.{write_given}
use Rattle.writer.specs.declared.CCDataWriter.{CCDataWriter}
use Rattle.theorems.specs.Items.{Items, no_items}
use Rattle.theorems.specs.Allowed.{Output, Writer, Write}
use Rattle.theorems.specs.Writing.{Calls, Reached, Stays, Drained}
use Rattle.theorems.specs.Bounds.{queue_at, pairs_at, SendsFour, AcceptsWrite, LeavesInTime, DrainsInTime}
use Rattle.theorems.proofs.Contracts.{write_says}
use Rattle.theorems.proofs.Following.{Tests, Staying, Follows}
use Rattle.theorems.proofs.Frames.{wrote}
use Rattle.theorems.proofs.Sequences.{follows}
use Rattle.theorems.proofs.Reached.{holds}

-- a field's queue is the model's
pub queue_means : (f : Field) (w : CCDataWriter) → journey.queue_of f (means w) ≡ queue_at f w
unfolding means
queue_means one w = refl
queue_means two w = refl

-- and the mode is
pub carrying_means : (w : CCDataWriter) → (means w).carrying ≡ w.carrying
unfolding means
carrying_means w = refl

-- and what is accepted of the field is what the model accepts
pub came : {s : Mux} {there : List Packet} {w : CCDataWriter} {fs : List (List ℕ)} {is : Items} {test : Tests} {stay : Staying} (f : Field) (k : Follows s there fs is w test stay)
    → runs.others (accepted_of f (runs.run k.calls s)) ≡ pairs_at f is
came one k = k.pairs1
came two k = k.pairs2

-- a state that is drained in the model is drained
drained_back : (w : CCDataWriter) → Sound w → runs.Drained (means w) → Drained w
unfolding means
drained_back w s d =
    let ok = sound_ok w s in
    let h = ok.held in
    let n : length (means w).packets ≡ w.packet_count =
    length-map (take w.packet_count w.packets) read_slot ∙ length-take-le w.packet_count w.packets (omega (arith, ok.few, ok.places)) in
    record {
      no_packet = sym n ∙ ap length d.no_packet;
      no_byte = omega (arith, left_length w.sending w.sent h, ap length d.no_triple, h.even, h.within);
      no_pair1 = sym (queue_length w.field1 ok.first) ∙ ap length d.no_pair1;
      no_pair2 = sym (queue_length w.field2 ok.second) ∙ ap length d.no_pair2;
    }

-- what is given is something
pub given_by : {A P : Type 0} (o : Outcome A) → is_given o ≡ true → ((x : A) → o ≡ gave x → P) → P
given_by (gave x) e f = f x refl
given_by (refused why) e f = absurd (false≢true e)

-- a rate that has budgets gives a share, in the mode if it is within its own limit
share_there : (n d : ℕ) (s : Mux) {b : Budgets} → budgets n d ≡ gave b → (s.carrying ≡ true → 600 * d ≤ most_triples * n) → (h : Share) × (share_at n d s ≡ gave h)
share_there n d s {b} e within =
    by_test s.carrying
    (λ on. (carried_on n d (going_on n d s.carry), rw on (share_accepts n d s.carry e (within on))))
    (λ off. (record { budgets = b; carry = s.carry }, rw off (share_rounds n d s.carry e)))

-- a state that calls have reached, flushes among them
module _ {w : CCDataWriter} (d : Reached w) where
  -- the pair at place i has left after 2i accepted writes while the mode stays off, after 4i while it stays on and the rate stays [J3]: once so many or
  -- more are accepted, whatever is pushed or padded between them, the first i places of what was queued have gone
  pub pair_leaves : (mode : Bool) (speed : Framerate) {w' : CCDataWriter} {fs : List (List ℕ)} {is : Items} (c : Calls w fs is w')
      → w.carrying ≡ mode → Stays mode speed c → (f : Field) → LeavesInTime mode f w fs is w'
  pair_leaves mode speed {w'} c set stay f i there writes =
      let k = follows c (holds d).sound in
      let l = leaves.leaves mode _ f k.calls (means w) (carrying_means w ∙ set) (k.steady mode speed stay) i (rw (queue_means f w) there) (rw k.writes writes) in
      rw (came f k, k.last, queue_means f w, queue_means f w') at l

  -- so where nothing comes, i places at least come free
  pub places_free : (mode : Bool) (speed : Framerate) {w' : CCDataWriter} {fs : List (List ℕ)} (c : Calls w fs no_items w') → w.carrying ≡ mode → Stays mode speed c
      → (f : Field) (i : ℕ) → i ≤ length (queue_at f w) → pace mode * i ≤ length fs → i + length (queue_at f w') ≤ length (queue_at f w)
  places_free mode speed c set stay one i there writes = omega (arith, leaves.left_fewer (pair_leaves mode speed c set stay one i there writes))
  places_free mode speed c set stay two i there writes = omega (arith, leaves.left_fewer (pair_leaves mode speed c set stay two i there writes))

  -- so many accepted writes drain a multiplexer, if nothing more is accepted: for each pair of either field two while the mode stays off, four while it
  -- stays on and the rate stays; and a quarter of the packet triples
  pub writes_drain : (mode : Bool) (speed : Framerate) {w' : CCDataWriter} {fs : List (List ℕ)} (c : Calls w fs no_items w') → w.carrying ≡ mode → Stays mode speed c → DrainsInTime mode w fs w'
  writes_drain mode speed {w'} c set stay k₁ k₂ u =
      let ok = sound_ok w (holds d).sound in
      let k = follows c (holds d).sound in
      let n₁ = ap length (queue_means one w) ∙ queue_length w.field1 ok.first in
      let n₂ = ap length (queue_means two w) ∙ queue_length w.field2 ok.second in
      drained_back w' k.sound
      (rw (← k.last)
      (drains.drains mode _ k.calls (means w) (carrying_means w ∙ set) (k.steady mode speed stay) (k.quiet refl) k.rates (rw (n₁, k.writes) k₁) (rw (n₂, k.writes) k₂)
      (omega (arith, k.writes))))

-- a write, of a state that calls have reached, flushes among them
module _ (w w' : Writer) (d : Reached w.now) (κs : Lfts 2) (rate : Framerate) (out end : Output) (r : Result ℕ Refusal) (a : Write κs w rate out r w' end) where
  -- each accepted write sends at least four packet triples, or all that are left [J4]
  pub sends_four : (n : ℕ) → r ≡ Ok n → SendsFour w.now (take n end.now) w'.now
  sends_four n e =
      let k = wrote κs w w' rate out end r (holds d).sound a n e in
      let f = (write_share k.share (means w.now)).frame in
      let m = four.four k.share (means w.now) k.accepted (holds d).follow in
      rw k.bytes (record { four = rw (frame_triples f) (omega (arith, m.four)); no_other = rw (frame_triples f, k.meant) m.no_other })

  -- a write at an accepted rate, with room for the longest frame, is accepted
  pub write_accepted : AcceptsWrite w.now rate out.now r
  write_accepted =
      record {
        accepts = λ b given within room.
            let g = share_there rate.numer rate.denom (means w.now) given (λ on. within (sym (carrying_means w.now) ∙ on)) in
            let h = g.0 in
            let says = (write_says κs w w' rate out end r a).answer in
            let said = rw (write_given w.now (holds d).sound.valid rate out.now g.1 (omega arith)) at says in
            (h, g.1, outcome_injective r (Ok (length (frame_bytes (write_share h (means w.now)).frame))) said);
      }
