-- [J1] of the functions themselves: whatever code meets their contracts, what is pushed is drawn. Assumes nothing.
use mathlib.Core.Path.{◌≡◌, ap, ◌∙◌}
use mathlib.Core.List.{List, []}
use Prim.Native.Nat.{ℕ}
use native.Mathlib.Omega.{arith}
use lib.ListN.{length, replicate}
use Rattle.std.specs.Prelude.{Ok}
use Rattle.model.specs.Said as said
use Rattle.model.specs.Demux.{fresh_demux, turn608_on}
use Rattle.model.specs.Run as model
use Rattle.model.specs.Run.{exact_count, Read, read_frames}
use Rattle.model_journey.proofs.Trip as journey
use Rattle.caption.proofs.Outcomes.{says_injective}
use Rattle.writer_queues.specs.Queue.{queue_of, pairs_of}
use Rattle.slots.specs.Slot.{written_bytes}
use Rattle.writer.specs.Writer.{means}
use Rattle.writer.proofs.Kept.{Sound, sound_ok}
use Rattle.writer_sending.proofs.Triples.{left_end}
use Rattle.writer.specs.declared.CCDataWriter.{CCDataWriter}
use Rattle.parser.specs.Means as parser
use Rattle.parser.specs.Calls as calls
use Rattle.parser.specs.After as after
use Rattle.parser.proofs.Laid as places
use Rattle.parser.proofs.Kept as kept
use Rattle.parser.specs.declared.CCDataParser.{CCDataParser}
use Rattle.theorems.specs.Items.{Items}
use Rattle.theorems.specs.Allowed.{Answer, NewWriter}
use Rattle.theorems.specs.Writing.{Calls, Exact, Drained}
use Rattle.theorems.specs.Reading.{Turned, turn, Told, Feeds}
use Rattle.theorems.specs.Trip.{RoundTrip}
use Rattle.theorems.proofs.Contracts.{handle_says}
use Rattle.theorems.proofs.Following.{items_same}
use Rattle.theorems.proofs.Sequences.{from_fresh}
use Rattle.theorems.proofs.Feeding.{items_read, Fed, feeds, no_refusal}

-- a state that is drained is so in the model
pub drained : (w : CCDataWriter) → Sound w → Drained w → model.Drained (means w)
unfolding means queue_of pairs_of
drained w s d =
    let h = (sound_ok w s).held in
    record {
      no_packet = rw d.no_packet;
      no_triple = left_end w.sent (written_bytes w.sending) h.even (omega (arith, h.whole, d.no_byte));
      no_pair1 = rw d.no_pair1;
      no_pair2 = rw d.no_pair2;
    }

-- 608 is turned on in a fresh demultiplexer: it is accepted, and the state is within the limits and the model's
record Ready (on : Answer) (p : CCDataParser) : Type 0 where
  answer : on ≡ Ok tt
  sound : places.Sound p
  means : parser.means p ≡ turn608_on fresh_demux

-- from the contracts
ready : {on : Answer} {p : CCDataParser} → Turned on p → Ready on p
ready (turn κs p q on a h) =
    let e : p.now ≡ calls.fresh = a.1 in
    let c = handle_says p q on κs h in
    let s : places.Sound p.now = rw e kept.fresh_sound in
    let t : q.now ≡ after.turned_on p.now = rw s.valid at c.places in
    let left : places.Sound q.now = rw t (kept.turned_sound p.now s) in
    record {
      answer = says_injective on (Ok tt) (rw s.valid at c.answer);
      sound = left;
      means = c.means s.valid ∙ ap turn608_on a.0;
    }

-- frames fed to a fresh one with 608 on
pub given_fed : {on : Answer} {p p' : CCDataParser} {frames : List (List ℕ)} {answers : List Answer} {told : List Told} {given : Items}
    → Turned on p → Feeds p frames answers told given p'
    → (on ≡ Ok tt) × Fed frames (turn608_on fresh_demux) answers told given p'
given_fed turned read =
    let y = ready turned in
    (y.answer, rw y.means at (feeds read y.sound))

-- Calls from a fresh multiplexer that end drained: what the model's demultiplexer reads in their frames.
pub record Carried (frames : List (List ℕ)) (accepted : Items) (o : Read) : Type 0 where
  pub answers : o.answers ≡ replicate (length frames) (said.accepted [])
  pub exactly : items_read o ≡ accepted

-- it is what was accepted
pub carried : {w₀ w : CCDataWriter} {frames : List (List ℕ)} {accepted : Items} → NewWriter w₀ → (c : Calls w₀ frames accepted w) → Exact c → Drained w
    → Carried frames accepted (read_frames frames (turn608_on fresh_demux))
carried {w} {frames} {accepted} new c exact empty =
    let f = from_fresh new c in
    let t = journey.round_trip f.calls (f.allowed exact_count exact) (rw f.last (drained w f.sound empty)) in
    rw (← f.frames)
    (record { answers = t.answers; exactly = items_same _ accepted (t.packets ∙ f.packets) (t.pairs1 ∙ f.pairs1) (t.pairs2 ∙ f.pairs2) })

-- Any calls on a fresh multiplexer, without a flush and with a padding or the true count on at each accepted write: once drained, a fresh
-- demultiplexer with 608 on, given every frame and drawn empty after each, has given exactly the items that were accepted, in order, once each [J1].
pub round_trip : {w₀ w : CCDataWriter} {p p' : CCDataParser} {on : Answer} {frames : List (List ℕ)} {accepted given : Items} {answers : List Answer} {told : List Told}
    → NewWriter w₀ → (c : Calls w₀ frames accepted w) → Exact c → Drained w
    → Turned on p → Feeds p frames answers told given p'
    → RoundTrip on frames answers told given accepted
round_trip new c exact empty turned read =
    let t = carried new c exact empty in
    let d = given_fed turned read in
    record { turned_on = d.0; no_refusal = no_refusal d.1 t.answers; exactly = d.1.items ∙ t.exactly }
