-- The true count changes the count of a frame and nothing else: triples, queues and turns are those without it. Assumes nothing.
use mathlib.Core.Path.{◌≡◌, refl, sym, ap, ◌∙◌}
use mathlib.Core.Bool.{Bool, true, false, cond, ◌||◌, or-true, or-false}
use mathlib.Core.List.{List, [], ◌∷◌, ◌++◌}
use Prim.Native.Nat.{ℕ, ◌+◌, ◌-◌, ◌≤◌, min}
use native.Mathlib.Omega.{arith}
use lib.Dec.{leb}
use lib.ListN.{length, drop_of_length-le}
use lib.Seq.{take_all}
use borrow.Author.Tests.{lt-leb, leb-true, leb-false}
use Rattle.model.specs.Packet.{Packet}
use Rattle.model.specs.Frame.{Triple, Frame}
use Rattle.model.specs.Rate.{Budgets}
use Rattle.model.specs.Mux.{Mux, with_true_count, Framed, Turned, behind, turns_due, turned, send, packet_triples, triples_queued, unsent, turns_sending, turns_counted, count_due, padding, framed, write_frame}
use Rattle.model.proofs.Cases.{by_test}
use Rattle.model.proofs.Turns.{turns_count}
use Rattle.model.proofs.MuxStates.{turns_most}
use Rattle.model_journey.specs.Trip.{OnlyCount}
use Rattle.model_journey.proofs.Triples.{opens}
use Rattle.model_journey.proofs.Count.{Fits, counted}

-- where there are no more, all are sent
send_rest : (m k : ℕ) (ts : List Triple) (q : List Packet) → length ts + triples_queued q ≤ m → length ts + triples_queued q ≤ k → send m ts q ≡ send k ts q
unfolding send triples_queued
send_rest m k ts [] h l =
    rw (take_all m ts (omega arith), take_all k ts (omega arith), drop_of_length-le ts {i = m} (omega arith), drop_of_length-le ts {i = k} (omega arith))
send_rest m k ts (p ∷ q) h l =
    let some = ap length (opens p).split in
    rw (lt-leb m (length ts) (omega arith), lt-leb k (length ts) (omega arith))
    (ap (behind ts) (send_rest (m - length ts) (k - length ts) (packet_triples p) q (omega arith) (omega arith)))

-- Of x turns that send and n that are taken, with u packet triples: either count leaves the same room, or without padding room for all.
same_room : {A : Type 0} (f : Bool → ℕ → A) (on : Bool) (t x n u : ℕ) → x ≤ n → n ≤ t → ((m k : ℕ) → u ≤ m → u ≤ k → f false m ≡ f false k)
    → f on (cond on t (min t (x + u)) - x) ≡ f on (cond on t (min t (n + u)) - x)
same_room f true t x n u few most all = refl
same_room f false t x n u few most all =
    by_test (leb (x + u) t) (λ e. let h = leb-true (x + u) t e in all (min t (x + u) - x) (min t (n + u) - x) (omega arith) (omega arith))
    (λ e. let h = leb-false (x + u) t e in ap (λ c. f false (c - x)) (omega arith))

module _ (b : Budgets) (s : Mux) (within : b.pairs ≤ b.triples) where
  -- the turns that are taken
  abbrev taken : Turned
  taken = turned (turns_due b.pairs s) s

  -- what is written with so much room behind them, but for the count
  abbrev behind_turns : Bool → ℕ → Framed
  behind_turns on room =
      let o = send room s.sending s.packets in
      record {
        frame = record { count = 0; triples = taken.out ++ (o.out ++ padding on (room - length o.out)) };
        next = (framed 0 taken o (with_true_count true s)).next;
      }

  pub only_the_count : OnlyCount (write_frame b (with_true_count true s)) (write_frame b (with_true_count false s))
  unfolding write_frame framed count_due turns_counted turns_sending turned turns_due padding
  only_the_count =
      let n : ℕ = turns_due b.pairs s in
      let few = (turns_count n s).most in
      let same = same_room behind_turns s.pad_out b.triples (length taken.out) n (unsent s) few (omega (arith, turns_most b.pairs s))
      (λ m k h l. rw (send_rest m k s.sending s.packets h l)) in
      record { triples = ap (λ (w : Framed). w.frame.triples) same; next = ap (λ (w : Framed). w.next) same }

-- with a padding on not even the count changes
pub padded_frame : (b : Budgets) (s : Mux) → Fits b → s.pad608 || s.pad_out ≡ true → (write_frame b (with_true_count true s)).frame ≡ (write_frame b (with_true_count false s)).frame
unfolding write_frame framed
padded_frame b s fit on =
    let same = (only_the_count b s fit.pairs).triples in
    let exact : s.pad608 || (s.pad_out || true) ≡ true = rw (or-true s.pad_out, or-true s.pad608) in
    let counts : count_due b (with_true_count true s) ≡ count_due b (with_true_count false s) =
    sym (counted b (with_true_count true s) fit exact) ∙ ap length same ∙ counted b (with_true_count false s) fit (rw (or-false s.pad_out) on) in
    frames counts same
  where
    -- a frame is its count and its triples
    frames : {m n : ℕ} {ts us : List Triple} → m ≡ n → ts ≡ us → ◌≡◌ {A = Frame} (record { count = m; triples = ts }) (record { count = n; triples = us })
    frames e f = rw (e, f)
