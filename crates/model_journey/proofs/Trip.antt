-- What goes into the multiplexer comes out of the demultiplexer. Assumes nothing.
use mathlib.Core.Path.{◌≡◌, sym, ap}
use mathlib.Core.List.{List, [], append-nil}
use Prim.Native.Nat.{ℕ}
use native.Mathlib.Omega.{arith}
use lib.ListN.{length}
use Rattle.model.specs.Frame.{Triple}
use Rattle.model.specs.Demux.{fresh_demux, turn608_on, wants}
use Rattle.model.specs.Mux.{fresh_mux}
use Rattle.model.specs.Run.{Call, run, exact_count, Allowed, Drained, read_frames, others}
use Rattle.model_journey.specs.Bounds.{one, two}
use Rattle.model_journey.specs.Trip.{RoundTrip}
use Rattle.model_journey.proofs.Gather.{Link, underway, underway_one}
use Rattle.model_journey.proofs.Round.{ready_fresh}
use Rattle.model_journey.proofs.Carried.{Kept, carried}
use Rattle.model_journey.proofs.Drains.{empty}

-- where nothing is being sent, nothing is on its way
none_underway : {ts : List Triple} {g : List ℕ} → Link ts g → (wants g ≡ 0 → g ≡ []) → ts ≡ [] → underway g ts ≡ []
none_underway {ts} {g} l rest e = empty (underway g ts) (omega (arith, underway_one l rest, ap length e))

-- what was empty and is empty has given what came in
all_out : {A : Type 0} {i o now : List A} → Kept [] i o now → now ≡ [] → o ≡ i
all_out {o} k e = sym (rw (e, append-nil o) at k.same)

-- Any calls on a fresh multiplexer, without a flush and with a padding or the true count on at each accepted write: once drained, a fresh
-- demultiplexer with 608 on, given every frame and drawn empty after each, has given exactly the items that were accepted, in order, once each [J1].
pub round_trip : (cs : List Call) → Allowed exact_count cs fresh_mux → Drained (run cs fresh_mux).last → RoundTrip (run cs fresh_mux) (read_frames (run cs fresh_mux).frames (turn608_on fresh_demux))
unfolding others
round_trip cs w d =
    let c = carried cs fresh_mux [] w ready_fresh in
    record {
      answers = c.answers;
      packets = all_out c.packets (rw (none_underway c.ready.linked c.ready.rested d.no_triple) d.no_packet);
      pairs1 = all_out (c.pairs one) (ap others d.no_pair1);
      pairs2 = all_out (c.pairs two) (ap others d.no_pair2);
    }
