-- The pair at place i of its field leaves within 2i writes that have a pair: within 2i writes while the carrying mode is off, within 4i while it is on
-- and the rate stays. Assumes nothing.
use mathlib.Core.Path.{◌≡◌, sym, ap, ◌∙◌}
use mathlib.Core.Bool.{Bool, true, false, cond}
use mathlib.Core.List.{List, [], ◌∷◌, ◌++◌, append_assoc, append-nil}
use Prim.Native.Nat.{ℕ, zero, suc, ◌+◌, ◌-◌, ◌*◌, ◌≤◌, min, max}
use native.Mathlib.Omega.{arith}
use lib.ListN.{length, take, length-append}
use lib.Seq.{take-append-le}
use Rattle.model.specs.Frame.{Pair}
use Rattle.model.specs.Rate.{Rate, Budgets}
use Rattle.model.specs.Mux.{Mux, turns_due, framed, write_frame, write_share}
use Rattle.model.specs.Run.{Call, pushes, pushes608, sets, writes, Run, call, run, Stays, others}
use Rattle.model_journey.specs.Bounds.{Field, one, two, queue_of, accepted_of, budgets_in, paired_in, Left, LeavesInTime}
use Rattle.model_journey.proofs.Turns.{others_append, mine, mine_most, turns_serve}
use Rattle.model_journey.proofs.Calls.{none_accepted, then_run, accepted_append, Quiet, quiet_switch, quiet_608, quiet_push}
use Rattle.model_journey.proofs.Paces.{paced}

-- a frame whose budget has a pair has a turn if a field has a pair
some_turn : (f : Field) (s : Mux) (p : ℕ) → 1 ≤ length (queue_of f s) → min 1 p ≤ turns_due p s
unfolding turns_due
some_turn f s p k = by_pad f s.pad608 k
  where
    by_pad : (f : Field) (b : Bool) → 1 ≤ length (queue_of f s) → min 1 p ≤ cond b p (min p (max (length s.queue1) (2 * length s.queue2)))
    by_pad f true k = omega arith
    by_pad one false k = omega arith
    by_pad two false k = omega arith

-- What a write does for a field: the first pairs of its queue go. A place that is reached in so many writes with a pair, half a write counted where
-- the next turn is the field's, is then `length gone` places nearer, and if this was such a write there is one less.
pub record Moved (f : Field) (p : ℕ) (s s' : Mux) : Type 0 where
  pub gone : List Pair
  pub cut : queue_of f s ≡ gone ++ queue_of f s'
  pub nearer : (i left : ℕ) → i ≤ length (queue_of f s) → 2 * i ≤ min 1 p + left + mine f s.next1 → 2 * (i - length gone) ≤ left + mine f s'.next1

-- in n turns, one at least if there is a pair and anything is queued, g places of a go
nearer_by : (i a g m n p c w w' : ℕ) → i ≤ a → g ≡ min a m → 2 * m + w' ≡ n + w → (1 ≤ a → min 1 p ≤ n) → 2 * i ≤ min 1 p + c + w → 2 * (i - g) ≤ c + w'
nearer_by zero a g m n p c w w' h e k t u = omega arith
nearer_by (suc i) a g m n p c w w' h e k t u = let v : min 1 p ≤ n = t (omega arith) in omega arith

-- every write does so
pub moved : (f : Field) (b : Budgets) (s : Mux) → Moved f b.pairs s (write_frame b s).next
unfolding write_frame framed
moved f b s =
    let n : ℕ = turns_due b.pairs s in
    let v = turns_serve f n s in
    let t = some_turn f s b.pairs in
    record {
      gone = v.gone;
      cut = v.cut;
      nearer = λ i left h k. nearer_by i (length (queue_of f s)) (length v.gone) v.m n b.pairs left _ _ h v.enough v.clock t k;
    }

-- first these go, then those
left_then : {b q q' q'' : List Pair} (a : List Pair) (i j : ℕ) (gone : List Pair) → q ++ a ≡ gone ++ q' → Left j q' b q'' → i ≤ length gone + j → Left i q (a ++ b) q''
left_then {b} {q} {q'} {q''} a i j gone e w h =
    record {
      gone = gone ++ w.gone;
      cut = rw (← append_assoc q a b, e, append_assoc gone q' b, w.cut, append_assoc gone w.gone q'');
      enough = omega (arith, length-append gone w.gone, w.enough);
    }

-- what one run accepts of a field and then another
came_append : (f : Field) (k r : Run) → others (accepted_of f (then_run k r)) ≡ others (accepted_of f k) ++ others (accepted_of f r)
came_append f k r = ap others (accepted_append f k r) ∙ others_append (accepted_of f k) (accepted_of f r)

-- The same where a field whose turn is next has half a write more.
module _ (f : Field) where
  -- what calls do to the field's queue
  abbrev Goes : ℕ → Mux → Run → Type 0
  Goes i s r = Left i (queue_of f s) (others (accepted_of f r)) (queue_of f r.last)

  -- a call that writes no frame makes no queue shorter
  quiet_left : {s : Mux} {k : Run} (r : Run) (i n : ℕ) → Quiet s k
      → (i ≤ length (queue_of f k.last) → 2 * i ≤ n + mine f k.last.next1 → Goes i k.last r)
      → i ≤ length (queue_of f s) → 2 * i ≤ n + mine f s.next1 → Goes i s (then_run k r)
  quiet_left {s} {k} r i n d later h e =
      let behind = (d.pairs f).behind in
      let long = ap length behind in
      rw (came_append f k r) (left_then (others (accepted_of f k)) i i [] behind (later (omega (arith, length-append (queue_of f s) (others (accepted_of f k)))) (rw d.next1 e)) (omega arith))

  -- where nothing is called nothing has to leave, but for half a write
  none_leaves : (s : Mux) (i : ℕ) {a : List Pair} → a ≡ [] → 2 * i ≤ mine f s.next1 → Left i (queue_of f s) a (queue_of f s)
  none_leaves s i e k = record { gone = []; cut = rw e (append-nil _); enough = omega (arith, mine_most f s.next1) }

  -- a write, which accepts nothing, and then other calls
  then_leaves : (s s' : Mux) (k r : Run) (i j : ℕ) (gone : List Pair) → others (accepted_of f k) ≡ [] → queue_of f s ≡ gone ++ queue_of f s' → Goes j s' r → i ≤ length gone + j → Goes i s (then_run k r)
  then_leaves s s' k r i j gone none cut w h = rw (came_append f k r, none) (left_then [] i j gone (append-nil _ ∙ cut) w h)

  -- call by call
  goes : (cs : List Call) (s : Mux) (i : ℕ) → i ≤ length (queue_of f s) → 2 * i ≤ paired_in (budgets_in cs) + mine f s.next1 → Goes i s (run cs s)
  unfolding run call
  goes [] s i h k = none_leaves s i (none_accepted f) (omega arith)
  goes (pushes p ∷ cs) s i h k = quiet_left (run cs (call (pushes p) s).last) i (paired_in (budgets_in cs)) (quiet_push p s) (goes cs _ i) h k
  goes (pushes608 x ∷ cs) s i h k = quiet_left (run cs (call (pushes608 x) s).last) i (paired_in (budgets_in cs)) (quiet_608 x s) (goes cs _ i) h k
  goes (sets x ∷ cs) s i h k = quiet_left (run cs (call (sets x) s).last) i (paired_in (budgets_in cs)) (quiet_switch x s) (goes cs _ i) h k
  goes (writes b ∷ cs) s i h k =
      let v = moved f b.budgets s in
      let s' = (write_share b s).next in
      let j : ℕ = i - length v.gone in
      let long = ap length v.cut in
      let w = goes cs s' j (omega (arith, length-append v.gone (queue_of f s'))) (v.nearer i (paired_in (budgets_in cs)) h k) in
      then_leaves s s' (call (writes b) s) (run cs s') i j v.gone (none_accepted f) v.cut w (omega arith)

-- after 2i writes with a pair, or more, the first i places of what was queued have gone, whatever is called between them
pub leaves_paired : (f : Field) (cs : List Call) (s : Mux) (i : ℕ) → i ≤ length (queue_of f s) → 2 * i ≤ paired_in (budgets_in cs)
    → Left i (queue_of f s) (others (accepted_of f (run cs s))) (queue_of f (run cs s).last)
leaves_paired f cs s i h k = goes f cs s i h (omega arith)

-- so the pair at place i has left after 2i accepted writes while the mode stays off, after 4i while it stays on and the rate stays [J3]
pub leaves : (on : Bool) (r : Rate) (f : Field) (cs : List Call) (s : Mux) → s.carrying ≡ on → Stays on r cs s → LeavesInTime on f cs s
leaves on r f cs s mode st i h k = leaves_paired f cs s i h (paced on r cs s mode st i k)

-- those that went begin with the pairs at the first i places
pub first_gone : {i : ℕ} {q came q' : List Pair} (w : Left i q came q') → i ≤ length q → take i w.gone ≡ take i q
first_gone {i} {q} {came} {q'} w h = sym (take-append-le i w.gone q' w.enough) ∙ ap (take i) (sym w.cut) ∙ take-append-le i q came h

-- so at least i fewer are queued than were and came
pub left_fewer : {i : ℕ} {q came q' : List Pair} → Left i q came q' → i + length q' ≤ length q + length came
left_fewer {q} {came} {q'} w = omega (arith, ap length w.cut, length-append q came, length-append w.gone q', w.enough)
