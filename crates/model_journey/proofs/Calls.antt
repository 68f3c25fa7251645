-- What the calls that write no frame do to a multiplexer. Assumes nothing.
use mathlib.Core.Path.{◌≡◌, refl, sym, ◌∙◌}
use mathlib.Core.Bool.{Bool, true, false, not, ◌&&◌}
use mathlib.Core.List.{List, [], ◌∷◌, ◌++◌, append-nil}
use Prim.Native.Nat.{◌≤◌}
use native.Mathlib.Omega.{arith}
use lib.Dec.{eqb, leb}
use lib.ListN.{length}
use borrow.Author.Tests.{eqb-false}
use Rattle.model.specs.Said.{Outcome, gave, refused, is_given, after, mapped}
use Rattle.model.specs.Packet.{Packet}
use Rattle.model.specs.Frame.{Pair, Cea608, field1, field2}
use Rattle.model.specs.Mux.{Mux, Switch, paddings, carrying_mode, true_counting, with_pads, with_mode, with_true_count, with_packets, with_queues, queued, push_packet, is_null, push_pair, push_cea608, most_packets, most_queued}
use Rattle.model.specs.Run.{pushes, pushes608, sets, Run, only_if, call, run, StaysSwitch, others}
use Rattle.model.proofs.Cases.{by_test}
use Rattle.model.proofs.Packets.{Valid}
use Rattle.model_journey.specs.Bounds.{Field, one, two, the, queue_of, accepted_of}
use Rattle.model_journey.proofs.Turns.{others_append}
use Rattle.model_journey.proofs.Gather.{AllStored, none, also}

-- no pairs of either field
pub none_accepted : (f : Field) → others (the f [] []) ≡ []
unfolding others
none_accepted one = refl
none_accepted two = refl

-- one run after another
abbrev pub then_run : Run → Run → Run
then_run k r = record { frames = k.frames ++ r.frames; packets = k.packets ++ r.packets; pairs1 = k.pairs1 ++ r.pairs1; pairs2 = k.pairs2 ++ r.pairs2; last = r.last }

-- the pairs of a field that both accept
pub accepted_append : (f : Field) (k r : Run) → accepted_of f (then_run k r) ≡ accepted_of f k ++ accepted_of f r
accepted_append one k r = refl
accepted_append two k r = refl

-- a push of a packet: nothing is stored, or the packet is not empty and stands last
push_cases : (P : List Packet → Mux → Type 0) (p : Packet) (s : Mux) → P [] s → (1 ≤ length p.blocks → P (p ∷ []) (with_packets (s.packets ++ (p ∷ [])) s))
    → P (only_if (is_given (push_packet p s) && not (eqb (length p.blocks) 0)) p) (after s (push_packet p s))
unfolding push_packet queued
push_cases P p s same last =
    by_test (eqb (length p.blocks) 0) (λ e. simp e same)
    (λ e. by_test (leb most_packets (length s.packets)) (λ l. simp (e, l) same) (λ l. simp (e, l) (last (omega (arith, eqb-false (length p.blocks) 0 e)))))

-- a push of a pair: it is refused, it is 0x80,0x80 and dropped, or it stands last
pair_cases : (P : List Pair → List Pair → Type 0) (x : Pair) (q : List Pair) → P [] q → (is_null x ≡ true → P (x ∷ []) q) → (is_null x ≡ false → P (x ∷ []) (q ++ (x ∷ [])))
    → P (only_if (is_given (push_pair x q)) x) (after q (push_pair x q))
unfolding push_pair queued
pair_cases P x q same null last =
    by_test (is_null x) (λ e. simp e (null e))
    (λ e. by_test (leb most_queued (length q)) (λ l. simp (e, l) same) (λ l. simp (e, l) (last e)))

-- a field's queue q becomes q' as the pairs x are accepted
pub record Grown (q x q' : List Pair) : Type 0 where
  pub accepts : others q ++ others x ≡ others q'
  pub behind : q ++ others x ≡ q'

-- nothing of the field is pushed
grown_none : (q : List Pair) → Grown q [] q
unfolding others
grown_none q = record { accepts = append-nil (others q); behind = append-nil q }

-- a pair of the field is pushed
grown_pair : (x : Pair) (q : List Pair) → Grown q (only_if (is_given (push_pair x q)) x) (after q (push_pair x q))
unfolding others
grown_pair x q =
    pair_cases (Grown q) x q (grown_none q)
    (λ e. record { accepts = rw e (append-nil (others q)); behind = rw e (append-nil q) })
    (λ e. record { accepts = sym (others_append q (x ∷ [])); behind = rw e })

-- A call that writes no frame: what it accepts stands behind what was queued; the packet being sent and whose turn is next stay.
pub record Quiet (s : Mux) (k : Run) : Type 0 where
  pub frames : k.frames ≡ []
  pub sending : k.last.sending ≡ s.sending
  pub next1 : k.last.next1 ≡ s.next1
  pub packets : s.packets ++ k.packets ≡ k.last.packets
  pub pairs : (f : Field) → Grown (queue_of f s) (accepted_of f k) (queue_of f k.last)

-- nothing is accepted, and all that is queued and being sent stays
quiet_same : (s s' : Mux) → s'.sending ≡ s.sending → s'.next1 ≡ s.next1 → s.packets ≡ s'.packets → ((f : Field) → queue_of f s ≡ queue_of f s')
    → Quiet s (record { frames = []; packets = []; pairs1 = []; pairs2 = []; last = s' })
quiet_same s s' a b c q =
    record {
      frames = refl;
      sending = a;
      next1 = b;
      packets = append-nil s.packets ∙ c;
      pairs = elim [ one ↦ rw (← q one) (grown_none s.queue1) | two ↦ rw (← q two) (grown_none s.queue2) ];
    }

-- a switch is set
pub quiet_switch : (x : Switch) (s : Mux) → Quiet s (call (sets x) s)
unfolding call
quiet_switch (paddings a b) s = quiet_same s (with_pads a b s) refl refl refl (λ f. refl)
quiet_switch (carrying_mode on) s = quiet_same s (with_mode on s) refl refl refl (λ f. refl)
quiet_switch (true_counting on) s = quiet_same s (with_true_count on s) refl refl refl (λ f. refl)

-- the queues of pairs grow
quiet_queues : (s : Mux) {x1 x2 q1 q2 : List Pair} → Grown s.queue1 x1 q1 → Grown s.queue2 x2 q2
    → Quiet s (record { frames = []; packets = []; pairs1 = x1; pairs2 = x2; last = with_queues q1 q2 s })
quiet_queues s a b = record { frames = refl; sending = refl; next1 = refl; packets = append-nil s.packets; pairs = elim [ one ↦ a | two ↦ b ] }

-- no call
pub quiet_none : (s : Mux) → Quiet s (run [] s)
unfolding run
quiet_none s = quiet_queues s (grown_none s.queue1) (grown_none s.queue2)

-- the multiplexer after a push to field 1's queue, as its queue after the push
after1 : (s : Mux) (o : Outcome (List Pair)) → after s (mapped (λ q. with_queues q s.queue2 s) o) ≡ with_queues (after s.queue1 o) s.queue2 s
after1 s (gave q) = refl
after1 s (refused why) = refl

-- likewise field 2's
after2 : (s : Mux) (o : Outcome (List Pair)) → after s (mapped (λ q. with_queues s.queue1 q s) o) ≡ with_queues s.queue1 (after s.queue2 o) s
after2 s (gave q) = refl
after2 s (refused why) = refl

-- a pair is pushed
pub quiet_608 : (x : Cea608) (s : Mux) → Quiet s (call (pushes608 x) s)
unfolding call push_cea608
quiet_608 (field1 x) s = rw (after1 s (push_pair x s.queue1)) (quiet_queues s (grown_pair x s.queue1) (grown_none s.queue2))
quiet_608 (field2 x) s = rw (after2 s (push_pair x s.queue2)) (quiet_queues s (grown_none s.queue1) (grown_pair x s.queue2))

-- a packet is pushed
pub quiet_push : (p : Packet) (s : Mux) → Quiet s (call (pushes p) s)
unfolding call run
quiet_push p s =
    push_cases (λ (ps : List Packet) (s' : Mux). Quiet s (record { frames = []; packets = ps; pairs1 = []; pairs2 = []; last = s' })) p s
    (quiet_none s)
    (λ some. record { frames = refl; sending = refl; next1 = refl; packets = refl; pairs = elim [ one ↦ grown_none s.queue1 | two ↦ grown_none s.queue2 ] })

-- what a push accepts is not empty, and within the limits
pub stored_push : (p : Packet) (s : Mux) → Valid p → AllStored (call (pushes p) s).packets
unfolding call
stored_push p s v = push_cases (λ (ps : List Packet) (s' : Mux). AllStored ps) p s none (λ some. also (record { valid = v; some = some }) none)

-- the mode and the parts that it carries stay
pub record SameSum (s s' : Mux) : Type 0 where
  pub carrying : s'.carrying ≡ s.carrying
  pub carry : s'.carry ≡ s.carry

-- a packet that is pushed leaves them
pub sum_push : (p : Packet) (s : Mux) → SameSum s (call (pushes p) s).last
unfolding call
sum_push p s =
    push_cases (λ (ps : List Packet) (s' : Mux). SameSum s s') p s (record { carrying = refl; carry = refl }) (λ some. record { carrying = refl; carry = refl })

-- and so does a pair
pub sum_608 : (x : Cea608) (s : Mux) → SameSum s (call (pushes608 x) s).last
unfolding call push_cea608
sum_608 (field1 x) s = rw (after1 s (push_pair x s.queue1)) (record { carrying = refl; carry = refl })
sum_608 (field2 x) s = rw (after2 s (push_pair x s.queue2)) (record { carrying = refl; carry = refl })

-- and so do the paddings and the true count, and turning the mode on where it is on
pub sum_switch : (x : Switch) (s : Mux) → StaysSwitch true x → s.carrying ≡ true → SameSum s (call (sets x) s).last
unfolding call
sum_switch (paddings a b) s e m = record { carrying = refl; carry = refl }
sum_switch (carrying_mode on) s e m = record { carrying = e ∙ sym m; carry = rw (e, m) }
sum_switch (true_counting on) s e m = record { carrying = refl; carry = refl }

-- the mode stays what it is
pub mode_switch : (on : Bool) (x : Switch) (s : Mux) → StaysSwitch on x → s.carrying ≡ on → (call (sets x) s).last.carrying ≡ on
unfolding call
mode_switch on (paddings a b) s e m = m
mode_switch on (carrying_mode x) s e m = e
mode_switch on (true_counting x) s e m = m
