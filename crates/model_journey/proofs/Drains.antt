-- How many writes drain a multiplexer into which nothing is pushed. Assumes nothing.
use mathlib.Core.Path.{◌≡◌, refl, ap}
use mathlib.Core.Bool.{Bool}
use mathlib.Core.List.{List, [], ◌∷◌}
use Prim.Native.Nat.{ℕ, ◌+◌, ◌*◌, ◌≤◌, min}
use native.Mathlib.Omega.{arith}
use lib.ListN.{length, length-append}
use Rattle.model.specs.Packet.{Packet}
use Rattle.model.specs.Rate.{Rate, Budgets}
use Rattle.model.specs.Mux.{Mux, with_pads, with_mode, with_true_count, paddings, carrying_mode, true_counting, triples_queued, unsent, write_frame, write_share}
use Rattle.model.specs.Run.{Call, pushes, pushes608, sets, writes, call, run, Stays, Drained}
use Rattle.model_journey.specs.Bounds.{Field, one, two, queue_of, budgets_in, writes_in, paired_in, AtRates, NoPush, DrainsInTime}
use Rattle.model_journey.proofs.Turns.{mine, mine_most}
use Rattle.model_journey.proofs.Sending.{remains}
use Rattle.model_journey.proofs.Triples.{opens}
use Rattle.model_journey.proofs.Four.{sends_four}
use Rattle.model_journey.proofs.Paces.{paced}
use Rattle.model_journey.proofs.Leaves.{moved}

-- a list of length 0 is empty
pub empty : {A : Type 0} (l : List A) → length l ≤ 0 → l ≡ []
empty [] h = refl
empty (x ∷ l) h = absurd (omega arith)

-- a queue without triples is empty, since every packet has one
no_packet : (q : List Packet) → triples_queued q ≤ 0 → q ≡ []
unfolding triples_queued
no_packet [] h = refl
no_packet (p ∷ q) h = absurd (omega (arith, ap length (opens p).split))

-- a field's queue after a write
shorter : (f : Field) (b : Budgets) (s : Mux) (left : ℕ) → 2 * length (queue_of f s) ≤ min 1 b.pairs + left + mine f s.next1
    → (let s' : Mux = (write_frame b s).next in 2 * length (queue_of f s') ≤ left + mine f s'.next1)
shorter f b s left h =
    let v = moved f b s in
    let long = ap length v.cut in
    omega (arith, length-append v.gone (queue_of f (write_frame b s).next), v.nearer (length (queue_of f s)) left (omega arith) h)

-- writes with a pair are counted; a field whose turn is next has half a write more
drain : (cs : List Call) (s : Mux) → NoPush cs → AtRates cs → ((f : Field) → 2 * length (queue_of f s) ≤ paired_in (budgets_in cs) + mine f s.next1) → unsent s ≤ 4 * writes_in cs
    → Drained (run cs s).last
unfolding run call
drain [] s n r k u =
    record {
      no_packet = no_packet s.packets (omega arith);
      no_triple = empty s.sending (omega arith);
      no_pair1 = empty s.queue1 (omega (arith, k one, mine_most one s.next1));
      no_pair2 = empty s.queue2 (omega (arith, k two, mine_most two s.next1));
    }
drain (sets (paddings a b) ∷ cs) s n r k u = drain cs (with_pads a b s) n r (elim [ one ↦ k one | two ↦ k two ]) u
drain (sets (carrying_mode on) ∷ cs) s n r k u = drain cs (with_mode on s) n r (elim [ one ↦ k one | two ↦ k two ]) u
drain (sets (true_counting on) ∷ cs) s n r k u = drain cs (with_true_count on s) n r (elim [ one ↦ k one | two ↦ k two ]) u
drain (writes h ∷ cs) s n r k u =
    let b : Budgets = h.budgets in
    let left : ℕ = paired_in (budgets_in cs) in
    drain cs (write_share h s).next n r.1 (elim [ one ↦ shorter one b s left (k one) | two ↦ shorter two b s left (k two) ]) (omega (arith, remains b s, sends_four b s r.0.apart))
drain (pushes p ∷ cs) s n r k u = absurd n
drain (pushes608 x ∷ cs) s n r k u = absurd n

-- twice as many writes with a pair as there are pairs of either field, and a quarter of the packet triples, drain a multiplexer
pub drains_paired : (cs : List Call) (s : Mux) → NoPush cs → AtRates cs → 2 * length s.queue1 ≤ paired_in (budgets_in cs) → 2 * length s.queue2 ≤ paired_in (budgets_in cs)
    → unsent s ≤ 4 * writes_in cs → Drained (run cs s).last
drains_paired cs s n a k₁ k₂ u = drain cs s n a (elim [ one ↦ omega arith | two ↦ omega arith ]) u

-- so many writes drain a multiplexer: for each pair of either field two while the mode stays off, four while it stays on and the rate stays; and a
-- quarter of the packet triples
pub drains : (on : Bool) (r : Rate) (cs : List Call) (s : Mux) → s.carrying ≡ on → Stays on r cs s → NoPush cs → AtRates cs → DrainsInTime on cs s
drains on r cs s mode st n a k₁ k₂ u =
    drains_paired cs s n a (paced on r cs s mode st (length s.queue1) k₁) (paced on r cs s mode st (length s.queue2) k₂) u
