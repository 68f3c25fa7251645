-- The bounds in figures: what they come to with queues of the sizes that there are; and that rates are free with the carrying mode off. Assumes nothing.
use mathlib.Core.Path.{◌≡◌}
use mathlib.Core.Bool.{Bool, true, false, cond, false≢true}
use mathlib.Core.List.{List}
use Prim.Native.Nat.{ℕ, ◌*◌, ◌≤◌}
use native.Mathlib.Omega.{arith}
use lib.ListN.{length, take}
use lib.Seq.{take_all}
use contract.Lifetimes.{Lfts}
use Rattle.std.specs.Prelude.{Result, Ok}
use Rattle.model.specs.Said.{gave}
use Rattle.model.specs.Rate.{Budgets, budgets}
use Rattle.model.proofs.MuxStates.{MuxLimits, mux_facts, unsent_few}
use Rattle.model_journey.specs.Bounds.{Field, one, two, Left, pace}
use Rattle.model_journey.proofs.Paces.{places}
use Rattle.caption.specs.declared.Framerate.{Framerate}
use Rattle.caption.specs.declared.Refusal.{Refusal}
use Rattle.writer_queues.proofs.Queues.{queue_length}
use Rattle.writer.specs.Writer.{means}
use Rattle.writer.proofs.Kept.{sound_ok, sound_mux}
use Rattle.writer.specs.declared.CCDataWriter.{CCDataWriter}
use Rattle.theorems.specs.Items.{Items, no_items}
use Rattle.theorems.specs.Allowed.{Output, Writer, Write}
use Rattle.theorems.specs.Writing.{Calls, no_call, push_packet, push_cea608, set_cea608_padding, set_padding, set_carrying, set_true_count, write, Reached, Stays, Drained}
use Rattle.theorems.specs.Bounds.{queue_at, unsent_of, packet_triples_of, pairs_at, BeginsWith, GivenInTime}
use Rattle.theorems.proofs.Reached.{holds}
use Rattle.theorems.proofs.Bounds.{queue_means, pair_leaves, sends_four, write_accepted, writes_drain}

-- the limits of what a state that calls have reached means
limits : {w : CCDataWriter} → Reached w → MuxLimits (means w)
limits {w} d = mux_facts (means w) (sound_mux w (holds d).sound)

-- at most 64 pairs of a field wait
few_queued : {w : CCDataWriter} → Reached w → (f : Field) → length (queue_at f w) ≤ 64
few_queued {w} d one = rw (queue_means one w) at (limits d).queue1
few_queued {w} d two = rw (queue_means two w) at (limits d).queue2

-- so 272 writes are enough for them, in either mode
enough : (mode : Bool) (i n : ℕ) → i ≤ 64 → 272 ≤ n → pace mode * i ≤ n
enough true i n few many = places true i n few (omega arith)
enough false i n few many = places false i n few (omega arith)

module _ {w : CCDataWriter} (d : Reached w) where
  -- all pairs that wait have left after 128 accepted writes while the carrying mode stays off, after 256 while it stays on and the rate stays [J3]
  pub all_left : (mode : Bool) (speed : Framerate) {w' : CCDataWriter} {fs : List (List ℕ)} {is : Items} (c : Calls w fs is w') → w.carrying ≡ mode → Stays mode speed c
      → (f : Field) → cond mode 256 128 ≤ length fs → Left (length (queue_at f w)) (queue_at f w) (pairs_at f is) (queue_at f w')
  all_left mode speed {fs} c set stay f many =
      let i : ℕ = length (queue_at f w) in
      pair_leaves d mode speed c set stay f i (omega arith) (places mode i (length fs) (few_queued d f) many)

  -- and have been given, where it is known by when each is
  pub all_given : (mode : Bool) (f : Field) (fs : List (List ℕ)) (given : Items) → GivenInTime mode f w fs given → cond mode 256 128 ≤ length fs → BeginsWith (queue_at f w) (pairs_at f given)
  all_given mode f fs given k many =
      let i : ℕ = length (queue_at f w) in
      rw (take_all i (queue_at f w) (omega arith)) at (k i (omega arith) (places mode i (length fs) (few_queued d f) many))

  -- 272 accepted writes drain any multiplexer, if nothing more is accepted, in either mode while it stays and, in the carrying mode, the rate stays
  pub drained_after : (mode : Bool) (speed : Framerate) {w' : CCDataWriter} {fs : List (List ℕ)} (c : Calls w fs no_items w') → w.carrying ≡ mode → Stays mode speed c
      → 272 ≤ length fs → Drained w'
  drained_after mode speed {fs} c set stay many =
      let ok = sound_ok w (holds d).sound in
      let n₁ = queue_length w.field1 ok.first in
      let n₂ = queue_length w.field2 ok.second in
      let few₁ = enough mode w.field1.count (length fs) (omega (arith, few_queued d one)) many in
      let few₂ = enough mode w.field2.count (length fs) (omega (arith, few_queued d two)) many in
      writes_drain d mode speed c set stay few₁ few₂ (omega (arith, unsent_few (means w) (limits d)))

-- a write
module _ (w w' : Writer) (d : Reached w.now) (κs : Lfts 2) (rate : Framerate) (out end : Output) (r : Result ℕ Refusal) (a : Write κs w rate out r w' end) where
  -- room for 95 bytes is enough, at a rate that has budgets [G2] and, in the carrying mode, is within its own limit [G6]
  pub room_enough : {b : Budgets} → budgets rate.numer rate.denom ≡ gave b → (w.now.carrying ≡ true → 600 * rate.denom ≤ 31 * rate.numer) → 95 ≤ length out.now
      → (n : ℕ) × (r ≡ Ok n)
  room_enough {b} given within room = let k = (write_accepted w w' d κs rate out end r a).accepts b given within (omega arith) in (_, k.2)

  -- where four packet triples or more are left, an accepted write sends four [J4]
  pub four_sent : (n : ℕ) → r ≡ Ok n → 4 ≤ unsent_of w.now → 4 ≤ packet_triples_of (take n end.now)
  four_sent n e many = omega (arith, (sends_four w w' d κs rate out end r a n e).four)

-- with the carrying mode off each write may be at a rate of its own
pub any_rate : (speed other : Framerate) {w w' : CCDataWriter} {fs : List (List ℕ)} {is : Items} (c : Calls w fs is w') → Stays false speed c → Stays false other c
any_rate speed other no_call s = s
any_rate speed other (push_packet κs w w' d r t a c) s = any_rate speed other c s
any_rate speed other (push_cea608 κs w w' x r a c) s = any_rate speed other c s
any_rate speed other (set_cea608_padding κs w w' on r a c) s = any_rate speed other c s
any_rate speed other (set_padding κs w w' on r a c) s = any_rate speed other c s
any_rate speed other (set_carrying κs w w' on r a c) s = (s.0, any_rate speed other c s.1)
any_rate speed other (set_true_count κs w w' on r a c) s = any_rate speed other c s
any_rate speed other (write κs w w' rate out end r a c) s = (λ n e on. absurd (false≢true on), any_rate speed other c s.1)
