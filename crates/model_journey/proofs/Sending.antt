-- How many packet triples a write sends. Assumes nothing.
use mathlib.Core.Path.{◌≡◌, refl, sym, ap}
use mathlib.Core.List.{List, [], ◌∷◌, ◌++◌}
use Prim.Native.Nat.{ℕ, ◌+◌, ◌-◌, ◌≤◌, min}
use native.Mathlib.Omega.{arith}
use lib.Dec.{leb}
use lib.ListN.{length, length-append, length-take, length-drop}
use borrow.Author.Tests.{leb-true, leb-false}
use Rattle.model.specs.Packet.{Packet}
use Rattle.model.specs.Frame.{Triple}
use Rattle.model.specs.Rate.{Budgets}
use Rattle.model.specs.Mux.{Mux, Sent, behind, turns_due, turned, send, packet_triples, triples_queued, unsent, count_due, framed, write_frame}
use Rattle.model.proofs.Cases.{by_cond}

-- how many of m are sent, and how many are left
pub record Numbers (m : ℕ) (ts : List Triple) (q : List Packet) (o : Sent) : Type 0 where
  pub sent : length o.out ≡ min m (length ts + triples_queued q)
  pub left : length o.out + (length o.sending + triples_queued o.packets) ≡ length ts + triples_queued q

-- as many as are asked for or are there
pub numbers : (m : ℕ) (ts : List Triple) (q : List Packet) → Numbers m ts q (send m ts q)
unfolding send triples_queued
numbers m ts [] = record { sent = omega (arith, length-take m ts); left = omega (arith, length-take m ts, length-drop m ts) }
numbers m ts (p ∷ q) =
    by_cond (Numbers m ts (p ∷ q)) (leb m (length ts))
    (λ e. let h = leb-true m (length ts) e in record { sent = omega (arith, length-take m ts); left = omega (arith, length-take m ts, length-drop m ts) })
    (λ e.
    let h = leb-false m (length ts) e in
    let d = numbers (m - length ts) (packet_triples p) q in
    let k = length-append ts (send (m - length ts) (packet_triples p) q).out in
    record { sent = omega (arith, d.sent); left = omega (arith, d.left) })

-- what a write sends: packet triples up to the count
abbrev pub sent_by : Budgets → Mux → Sent
sent_by b s = send (count_due b s - length (turned (turns_due b.pairs s) s).out) s.sending s.packets

-- What is begun by what is sent: no other packet; or one of the queue, and then those before it have left.
pub data Begins (ts : List Triple) (q : List Packet) (o : Sent) : Type 0 where
  none_begun : o.packets ≡ q → length o.sending ≤ length ts → Begins ts q o
  one_begun : (gone : List Packet) (p : Packet) → q ≡ gone ++ (p ∷ o.packets) → Begins ts q o

-- with one more at the head
begins_front : (p : Packet) {ts ts' : List Triple} {q : List Packet} {o : Sent} → Begins ts' q o → Begins ts (p ∷ q) (behind ts o)
begins_front p (none_begun e l) = one_begun [] p (ap (λ (ps : List Packet). p ∷ ps) (sym e))
begins_front p (one_begun gone p' e) = one_begun (p ∷ gone) p' (ap (λ (ps : List Packet). p ∷ ps) e)

-- by the queue
pub begins : (m : ℕ) (ts : List Triple) (q : List Packet) → Begins ts q (send m ts q)
unfolding send
begins m ts [] = none_begun refl (omega (arith, length-drop m ts))
begins m ts (p ∷ q) =
    by_cond (Begins ts (p ∷ q)) (leb m (length ts)) (λ e. none_begun refl (omega (arith, length-drop m ts))) (λ e. begins_front p (begins (m - length ts) (packet_triples p) q))

-- what it sends remains no longer, and no more is lost
pub remains : (b : Budgets) (s : Mux) → length (sent_by b s).out + unsent (write_frame b s).next ≡ unsent s
unfolding write_frame framed
remains b s = (numbers (count_due b s - length (turned (turns_due b.pairs s) s).out) s.sending s.packets).left
