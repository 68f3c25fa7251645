-- One write, and its frame taken by the demultiplexer. Assumes nothing.
use mathlib.Core.Path.{◌≡◌, refl, sym, ap, ◌∙◌}
use mathlib.Core.Bool.{true}
use mathlib.Core.List.{List, [], ◌∷◌, ◌++◌, append_assoc, append-nil}
use Prim.Native.Nat.{ℕ, suc, ◌-◌}
use native.Mathlib.Omega.{arith}
use lib.ListN.{length}
use borrow.Author.Tests.{ne_eqb}
use Rattle.model.specs.Said.{accepted}
use Rattle.model.specs.Packet.{Packet}
use Rattle.model.specs.Frame.{Triple, tri, Seen, seen_all, frame_bytes}
use Rattle.model.specs.Demux.{Demux, Gathered, Taken, carries708, packets_of, kept, wants, gather, ended, gathered, take_frame}
use Rattle.model.specs.Rate.{Budgets}
use Rattle.model.specs.Mux.{Mux, fresh_mux, Framed, Sent, turns_due, count_due, framed, write_frame}
use Rattle.model.specs.Run.{others}
use Rattle.model.proofs.Cases.{by_cond}
use Rattle.model.proofs.Frames.{packets_append, packets_kept}
use Rattle.model.proofs.MuxStates.{count_most}
use Rattle.model_journey.specs.Bounds.{Field, queue_of}
use Rattle.model_journey.specs.Trip.{OnlyFull}
use Rattle.model_journey.proofs.Parts.{In708, gather_none}
use Rattle.model_journey.proofs.Padding.{padding_inert}
use Rattle.model_journey.proofs.Turns.{of_field, turns_serve, gone_seen}
use Rattle.model_journey.proofs.Sending.{sent_by}
use Rattle.model_journey.proofs.Triples.{bytes_of, Follow, stop, more}
use Rattle.model_journey.proofs.Seen.{turns_in, pads_of, seen_parts, seen_608, seen_708}
use Rattle.model_journey.proofs.Gather.{AllStored, none, Link, still, part, underway, wants_part, wants_none, closed_none, Passed, carry}
use Rattle.model_journey.proofs.Count.{Fits}
use Rattle.model_journey.proofs.Taking.{holding, taken, not_refused}

-- At a frame's end: the bytes gathered and the triples left are linked as before, what is complete is given and nothing complete is kept.
record Closed (ts : List Triple) (g : List ℕ) (gs : List (List ℕ)) (o : Gathered) : Type 0 where
  linked : Link ts o.bytes
  rested : wants o.bytes ≡ 0 → o.bytes ≡ []
  same : packets_of gs ++ underway g ts ≡ packets_of o.runs ++ underway o.bytes ts

-- so it is whatever was gathered
closing : (gs : List (List ℕ)) {ts : List Triple} {g : List ℕ} → Link ts g → Closed ts g gs (ended (record { runs = gs; bytes = g }))
unfolding ended
closing gs still = rw wants_none (record { linked = still; rested = λ e. refl; same = rw (packets_append gs (kept []), packets_kept [], closed_none) (simp append-nil) })
closing gs (part {x} {g} stop e k) = rw (wants_part [] x g e) (record { linked = still; rested = λ z. refl; same = rw (packets_append gs (kept (x ∷ g)), packets_kept (x ∷ g)) (simp append-nil) })
closing gs (part {x} {g} (more {a} {b} {ts} f) e k) =
    let w = wants_part (tri 0xFE a b ∷ ts) x g e in
    rw (w, ne_eqb (suc (suc (length (bytes_of ts)))) 0 (λ z. omega arith)) (record { linked = part (more f) e k; rested = λ z. let n : wants (x ∷ g) ≡ 0 = z in absurd (omega arith); same = refl })

-- the demultiplexer keeps g between frames while the multiplexer is in the state s
pub record Ready (s : Mux) (g : List ℕ) : Type 0 where
  pub linked : Link s.sending g
  pub rested : wants g ≡ 0 → g ≡ []
  pub stored : AllStored s.packets

-- nothing is kept while it is fresh
pub ready_fresh : Ready fresh_mux []
ready_fresh = record { linked = still; rested = λ e. refl; stored = none }

-- the 708 part ys of a frame, by which the multiplexer sends o
record Settled (ts : List Triple) (g : List ℕ) (q : List Packet) (o : Sent) (r : Gathered) : Type 0 where
  linked : Link o.sending r.bytes
  rested : wants r.bytes ≡ 0 → r.bytes ≡ []
  same : underway g ts ++ q ≡ packets_of r.runs ++ (underway r.bytes o.sending ++ o.packets)

-- the queue stands behind what is on its way
regroup : (a b c d e q : List Packet) → a ≡ b ++ (c ++ q) → b ++ c ≡ d ++ e → a ≡ d ++ (e ++ q)
regroup a b c d e q h k = h ∙ sym (append_assoc b c q) ∙ ap (λ (l : List Packet). l ++ q) k ∙ append_assoc d e q

-- what the reader makes of it, whether or not it has a valid triple
settled : {ts : List Triple} {g : List ℕ} {q : List Packet} {o : Sent} {ys : List Seen} → In708 ys → (wants g ≡ 0 → g ≡ []) → Passed ts g q o (gather g ys) → Settled ts g q o (gathered g ys)
unfolding gathered
settled {ts} {g} {q} {o} {ys} j rest d =
    by_cond (Settled ts g q o) (carries708 ys)
    (λ e.
    let r = gather g ys in
    let c = closing r.runs d.linked in
    let k = ended r in
    let way : List ℕ → List Packet = λ bytes. underway bytes o.sending in
    record {
      linked = c.linked;
      rested = c.rested;
      same = regroup _ (packets_of r.runs) (way r.bytes) (packets_of k.runs) (way k.bytes) o.packets d.same c.same;
    })
    (λ e.
    let n = gather_none g j e in
    record { linked = rw n at d.linked; rested = rest; same = rw n at d.same })

-- what is left goes on with a packet
link_follow : {ts : List Triple} {g : List ℕ} → Link ts g → Follow ts
link_follow still = stop
link_follow (part f e k) = f

-- One write and its frame taken. It is accepted, it gives the packets that are on their way and queued in order, and each field's pairs.
pub record Round (s : Mux) (g : List ℕ) (w : Framed) (t : Taken) : Type 0 where
  pub answer : t.answer ≡ accepted []
  pub on : t.next.on608 ≡ true
  pub ready : Ready w.next t.next.pending
  pub packets : underway g s.sending ++ s.packets ≡ t.next.waiting ++ (underway t.next.pending w.next.sending ++ w.next.packets)
  pub pairs : (f : Field) → others (queue_of f s) ≡ others (of_field f t.next.pairs) ++ others (queue_of f w.next)

-- It needs of the budgets only that they fit, and of the switches only that the count is true.
pub round : (b : Budgets) (s : Mux) (g : List ℕ) → Fits b → length (write_frame b s).frame.triples ≡ count_due b s → Ready s g
    → Round s g (write_frame b s) (take_frame (frame_bytes (write_frame b s).frame) (holding g))
unfolding write_frame framed
round b s g fit true_count k =
    let n : ℕ = turns_due b.pairs s in
    let m : ℕ = count_due b s - length (turns_in b s) in
    let js = seen_708 b s (link_follow k.linked) in
    let c = carry (seen_all (pads_of b s)) (padding_inert s.pad_out (m - length (sent_by b s).out)) m k.linked k.stored in
    let d = settled js k.rested c in
    rw (taken (write_frame b s).frame g true_count (omega (arith, count_most b s, fit.triples)) (seen_parts b s) (seen_608 b s) js)
    (record {
      answer = refl;
      on = refl;
      ready = record { linked = d.linked; rested = d.rested; stored = c.stored };
      packets = d.same;
      pairs = λ f. gone_seen (turns_serve f n s);
    })

-- Any demultiplexer takes a frame whose count is true, whatever it holds, unless too many packets would wait.
pub round_any : (b : Budgets) (s : Mux) (d : Demux) → Fits b → length (write_frame b s).frame.triples ≡ count_due b s → Follow s.sending
    → OnlyFull d (count_due b s) (take_frame (frame_bytes (write_frame b s).frame) d).answer
unfolding write_frame framed
round_any b s d fit true_count f =
    not_refused d (write_frame b s).frame true_count (omega (arith, count_most b s, fit.triples)) (seen_parts b s) (seen_608 b s) (seen_708 b s f)
