-- How soon what is queued leaves. Assumes nothing.
use Rattle.std.specs.Prelude.{◌≡◌, Bool, cond, List, [], ◌∷◌, ◌++◌, ℕ, suc, ◌+◌, ◌*◌, ◌≤◌, min, length}
use Rattle.model.specs.Frame.{Pair, Seen, first, second, start, more, void608, void708, seen_all}
use Rattle.model.specs.Rate.{Budgets}
use Rattle.model.specs.Mux.{Mux, Framed, unsent}
use Rattle.model.specs.Run.{Call, pushes, pushes608, sets, writes, Run, run, Accepted, Drained, others}

-- one of the two fields
pub data Field : Type 0 where
  one two : Field

-- of two things, field 1's and field 2's, the field's
abbrev pub the : {A : Type 0} → Field → A → A → A
the one x y = x
the two x y = y

-- the pairs that wait in the field, place 1 first
abbrev pub queue_of : Field → Mux → List Pair
queue_of f s = the f s.queue1 s.queue2

-- the pairs of the field that a run accepted
abbrev pub accepted_of : Field → Run → List Pair
accepted_of f r = the f r.pairs1 r.pairs2

-- the budgets of the writes among calls
abbrev pub budgets_in : List Call → List Budgets
budgets_in [] = []
budgets_in (pushes p ∷ cs) = budgets_in cs
budgets_in (pushes608 x ∷ cs) = budgets_in cs
budgets_in (sets x ∷ cs) = budgets_in cs
budgets_in (writes h ∷ cs) = h.budgets ∷ budgets_in cs

-- how many writes there are
abbrev pub writes_in : List Call → ℕ
writes_in cs = length (budgets_in cs)

-- how many of these budgets have a pair
abbrev pub paired_in : List Budgets → ℕ
paired_in [] = 0
paired_in (b ∷ bs) = min 1 b.pairs + paired_in bs

-- each write has accepted budgets; nothing is asked of the switches
abbrev pub AtRates : List Call → Type 0
AtRates [] = Unit {0}
AtRates (pushes p ∷ cs) = AtRates cs
AtRates (pushes608 x ∷ cs) = AtRates cs
AtRates (sets x ∷ cs) = AtRates cs
AtRates (writes h ∷ cs) = Accepted h.budgets × AtRates cs

-- nothing is pushed; the switches may change
abbrev pub NoPush : List Call → Type 0
NoPush [] = Unit {0}
NoPush (pushes p ∷ cs) = ⊥
NoPush (pushes608 x ∷ cs) = ⊥
NoPush (sets x ∷ cs) = NoPush cs
NoPush (writes h ∷ cs) = NoPush cs

-- The pairs at the first i places of the queue q have left: what was queued and then what came is, in order, what went and then q', which is
-- queued now; and i pairs or more went.
pub record Left (i : ℕ) (q came q' : List Pair) : Type 0 where
  pub gone : List Pair
  pub cut : q ++ came ≡ gone ++ q'
  pub enough : i ≤ length gone

-- the writes that a place takes to leave [J3]: two while the carrying mode is off, four while it is on
abbrev pub pace : Bool → ℕ
pace on = cond on 4 2

-- The pair at place i has left after 2i accepted writes while the mode stays off, and after 4i while it stays on and the rate stays [J3], whatever is
-- pushed or padded between them. What comes is what is accepted meanwhile, other than 0x80,0x80, which is never queued.
abbrev pub LeavesInTime : Bool → Field → List Call → Mux → Type 0
LeavesInTime on f cs s =
    (i : ℕ) → i ≤ length (queue_of f s) → pace on * i ≤ writes_in cs → Left i (queue_of f s) (others (accepted_of f (run cs s))) (queue_of f (run cs s).last)

-- writes that are that many times as many as the pairs of either field, and a quarter of the packet triples, drain a multiplexer
abbrev pub DrainsInTime : Bool → List Call → Mux → Type 0
DrainsInTime on cs s =
    pace on * length s.queue1 ≤ writes_in cs → pace on * length s.queue2 ≤ writes_in cs → unsent s ≤ 4 * writes_in cs → Drained (run cs s).last

-- the packet triples among those that a reader sees
unfoldable pub packet_triples_in : List Seen → ℕ
packet_triples_in [] = 0
packet_triples_in (start a b ∷ ts) = suc (packet_triples_in ts)
packet_triples_in (more a b ∷ ts) = suc (packet_triples_in ts)
packet_triples_in (first a b ∷ ts) = packet_triples_in ts
packet_triples_in (second a b ∷ ts) = packet_triples_in ts
packet_triples_in (void608 ∷ ts) = packet_triples_in ts
packet_triples_in (void708 ∷ ts) = packet_triples_in ts

-- each write sends at least four packet triples, or all that are left [J4]
pub record SendsFour (s : Mux) (w : Framed) : Type 0 where
  pub four : min 4 (unsent s) ≤ packet_triples_in (seen_all w.frame.triples)
  pub no_other : packet_triples_in (seen_all w.frame.triples) + unsent w.next ≡ unsent s
