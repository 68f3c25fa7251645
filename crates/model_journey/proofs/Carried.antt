-- A run of calls, and its frames read: nothing is lost, and nothing comes twice or out of order. Assumes nothing.
use mathlib.Core.Path.{◌≡◌, refl, ap, ◌∙◌}
use mathlib.Core.Bool.{Bool}
use mathlib.Core.List.{List, [], ◌∷◌, ◌++◌, append_assoc, append-nil}
use Prim.Native.Nat.{ℕ}
use lib.ListN.{length, replicate, length-append, replicate-append-replicate}
use Rattle.model.specs.Said.{Said, accepted}
use Rattle.model.specs.Packet.{Packet}
use Rattle.model.specs.Frame.{Pair, Cea608, field1, field2, frame_bytes}
use Rattle.model.specs.Demux.{Demux, take_frame}
use Rattle.model.specs.Rate.{Share}
use Rattle.model.specs.Mux.{Mux, write_share}
use Rattle.model.specs.Run.{Call, pushes, pushes608, sets, writes, Run, call, run, exact_count, AllowedCall, Allowed, Read, emptied, read_frames, of_field1, of_field2, others}
use Rattle.model.proofs.Packets.{valid_facts}
use Rattle.model_journey.specs.Bounds.{Field, one, two, queue_of, accepted_of}
use Rattle.model_journey.proofs.Turns.{of_field, others_append}
use Rattle.model_journey.proofs.Gather.{AllStored, none, also, underway}
use Rattle.model_journey.proofs.Count.{fits, counted}
use Rattle.model_journey.proofs.Taking.{holding}
use Rattle.model_journey.proofs.Round.{Ready, round}
use Rattle.model_journey.proofs.Calls.{none_accepted, then_run, accepted_append, Quiet, quiet_none, quiet_switch, quiet_608, quiet_push, stored_push}

-- What was there and what came in is, in order, what went out and what is there now.
pub record Kept {A : Type 0} (before into out now : List A) : Type 0 where
  pub same : before ++ into ≡ out ++ now

-- one step after another
pub chain : {A : Type 0} {a i o b i' o' c : List A} → Kept a i o b → Kept b i' o' c → Kept a (i ++ i') (o ++ o') c
chain {a} {i} {o} {b} {i'} {o'} {c} h k = record { same = rw (← append_assoc a i i', h.same, append_assoc o b i', k.same, append_assoc o o' c) }

-- The frames of a run r that begins at s, read by a demultiplexer that holds g: all are accepted, and of what was on its way or queued and
-- of what was then accepted, what was not read back is still on its way or queued, in order.
pub record Carried (s : Mux) (g : List ℕ) (r : Run) (o : Read) : Type 0 where
  pub answers : o.answers ≡ replicate (length r.frames) (accepted [])
  pub held : o.last ≡ holding o.last.pending
  pub ready : Ready r.last o.last.pending
  pub packets : Kept (underway g s.sending ++ s.packets) r.packets o.packets (underway o.last.pending r.last.sending ++ r.last.packets)
  pub pairs : (f : Field) → Kept (others (queue_of f s)) (others (accepted_of f r)) (others (of_field f o.pairs)) (others (queue_of f r.last))

-- a queue behind another
all_append : {a b : List Packet} → AllStored a → AllStored b → AllStored (a ++ b)
all_append none k = k
all_append (also x h) k = also x (all_append h k)

-- no pairs of either field, read
none_read : (f : Field) → others (of_field f []) ≡ []
unfolding others of_field1 of_field2
none_read one = refl
none_read two = refl

-- a call that writes no frame
quiet_carried : {s : Mux} {g : List ℕ} {k : Run} → Quiet s k → AllStored k.packets → Ready s g → Carried s g k (read_frames k.frames (holding g))
unfolding read_frames
quiet_carried {s} {g} {k} d new h =
    rw d.frames
    (record {
      answers = refl;
      held = refl;
      ready = record { linked = rw d.sending h.linked; rested = h.rested; stored = rw (← d.packets) (all_append h.stored new) };
      packets = record { same = rw (d.sending, ← d.packets) (append_assoc (underway g s.sending) s.packets k.packets) };
      pairs = λ f. record { same = rw (none_read f) (d.pairs f).accepts };
    })

-- a write at an accepted rate with a padding or the true count on
write_carried : (b : Share) (s : Mux) (g : List ℕ) → AllowedCall exact_count (writes b) s → Ready s g → Carried s g (call (writes b) s) (read_frames (call (writes b) s).frames (holding g))
unfolding call read_frames
write_carried b s g w h =
    let d = round b.budgets s g (fits w.0) (counted b.budgets s (fits w.0) w.1) h in
    let t = take_frame (frame_bytes (write_share b s).frame) (holding g) in
    record {
      answers = ap (λ (a : Said). a ∷ []) d.answer;
      held = ap (λ (on : Bool). record { on608 = on; pairs = []; pending = t.next.pending; waiting = [] }) d.on;
      ready = record { linked = d.ready.linked; rested = d.ready.rested; stored = d.ready.stored };
      packets = record { same = rw (append-nil t.next.waiting) (append-nil _ ∙ d.packets) };
      pairs = elim [
        | one ↦ record { same = rw (append-nil t.next.pairs, none_accepted one) (append-nil _ ∙ d.pairs one) }
        | two ↦ record { same = rw (append-nil t.next.pairs, none_accepted two) (append-nil _ ∙ d.pairs two) }
      ];
    }

-- any call that is allowed
call_carried : (c : Call) (s : Mux) (g : List ℕ) → AllowedCall exact_count c s → Ready s g → Carried s g (call c s) (read_frames (call c s).frames (holding g))
unfolding call
call_carried (pushes p) s g w h = quiet_carried (quiet_push p s) (stored_push p s (valid_facts p w)) h
call_carried (pushes608 (field1 x)) s g w h = quiet_carried (quiet_608 (field1 x) s) none h
call_carried (pushes608 (field2 x)) s g w h = quiet_carried (quiet_608 (field2 x) s) none h
call_carried (sets x) s g w h = quiet_carried (quiet_switch x s) none h
call_carried (writes b) s g w h = write_carried b s g w h

-- the frames of the one read, and then those of the other
abbrev then_read : Read → Read → Read
then_read o p = record { answers = o.answers ++ p.answers; pairs = o.pairs ++ p.pairs; packets = o.packets ++ p.packets; last = p.last }

-- frames read after others
read_append : (a b : List (List ℕ)) (d : Demux) → read_frames (a ++ b) d ≡ then_read (read_frames a d) (read_frames b (read_frames a d).last)
unfolding read_frames
read_append [] b d = refl
read_append (f ∷ a) b d = let e = read_append a b (emptied (take_frame f d).next) in simp (e, append_assoc)

-- the pairs of a field that are read, in two parts
pub field_append : (f : Field) (a b : List Cea608) → of_field f (a ++ b) ≡ of_field f a ++ of_field f b
unfolding of_field1 of_field2
field_append one [] b = refl
field_append one (field1 x ∷ a) b = ap (λ (l : List Pair). x ∷ l) (field_append one a b)
field_append one (field2 x ∷ a) b = field_append one a b
field_append two [] b = refl
field_append two (field1 x ∷ a) b = field_append two a b
field_append two (field2 x ∷ a) b = ap (λ (l : List Pair). x ∷ l) (field_append two a b)

-- what the one carries and then the other, both carry
then_carried : {s : Mux} {g : List ℕ} {k r : Run} {o p : Read} → Carried s g k o → Carried k.last o.last.pending r p → Carried s g (then_run k r) (then_read o p)
then_carried {s} {g} {k} {r} {o} {p} c d =
    record {
      answers = rw (c.answers, d.answers, length-append k.frames r.frames) (replicate-append-replicate (length k.frames) (length r.frames) (accepted []));
      held = d.held;
      ready = d.ready;
      packets = chain c.packets d.packets;
      pairs = λ f.
          rw (accepted_append f k r, others_append (accepted_of f k) (accepted_of f r))
          (rw (field_append f o.pairs p.pairs, others_append (of_field f o.pairs) (of_field f p.pairs)) (chain (c.pairs f) (d.pairs f)));
    }

-- a run of calls that are allowed
pub carried : (cs : List Call) (s : Mux) (g : List ℕ) → Allowed exact_count cs s → Ready s g → Carried s g (run cs s) (read_frames (run cs s).frames (holding g))
unfolding run
carried [] s g w h = quiet_carried (quiet_none s) none h
carried (c ∷ cs) s g w h =
    let k = call_carried c s g w.0 h in
    let o = read_frames (call c s).frames (holding g) in
    let r = run cs (call c s).last in
    rw (read_append (call c s).frames r.frames (holding g), k.held) (then_carried k (carried cs (call c s).last o.last.pending w.1 k.ready))
