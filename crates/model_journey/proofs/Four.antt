-- Each write at an accepted rate sends at least four packet triples, or all that remain. Assumes nothing.
use mathlib.Core.Path.{◌≡◌, refl}
use mathlib.Core.Bool.{Bool, true, false, cond}
use mathlib.Core.List.{List, [], ◌∷◌, ◌++◌}
use Prim.Native.Nat.{ℕ, ◌+◌, ◌-◌, ◌≤◌, min}
use native.Mathlib.Omega.{arith}
use lib.ListN.{length}
use Rattle.model.specs.Frame.{Seen, seen_all}
use Rattle.model.specs.Rate.{Budgets, Share}
use Rattle.model.specs.Mux.{Mux, turns_due, turned, unsent, turns_counted, count_due, framed, write_frame, write_share}
use Rattle.model.specs.Run.{Call, pushes, pushes608, sets, writes, call, run, Accepted}
use Rattle.model.proofs.MuxStates.{turns_most, turns_counted_bound}
use Rattle.model.proofs.Turns.{turns_count}
use Rattle.model_journey.specs.Bounds.{packet_triples_in, SendsFour}
use Rattle.model_journey.proofs.Parts.{In608, end6, one6, two6, void6}
use Rattle.model_journey.proofs.Padding.{padding_none}
use Rattle.model_journey.proofs.Sending.{numbers, sent_by, remains}
use Rattle.model_journey.proofs.Triples.{Follow, sent_only}
use Rattle.model_journey.proofs.Seen.{turns_in, pads_of, seen708, seen_parts, seen_608}
use Rattle.model_journey.proofs.Calls.{quiet_switch, quiet_608, quiet_push}

-- a 608 part has no packet triple
none_608 : {xs : List Seen} → In608 xs → (ys : List Seen) → packet_triples_in (xs ++ ys) ≡ packet_triples_in ys
unfolding packet_triples_in
none_608 end6 ys = refl
none_608 (one6 h) ys = none_608 h ys
none_608 (two6 h) ys = none_608 h ys
none_608 (void6 h) ys = none_608 h ys

-- the triples budget leaves four places beside the turns
room : (b : Bool) (t u k x : ℕ) → x + 4 ≤ t → x ≤ k → min 4 u ≤ min (cond b t (min t (k + u)) - x) u
room true t u k x h l = omega arith
room false t u k x h l = omega arith

-- so four triples are sent, or all that remain
pub sends_four : (b : Budgets) (s : Mux) → b.pairs + 4 ≤ b.triples → min 4 (unsent s) ≤ length (sent_by b s).out
unfolding count_due
sends_four b s apart =
    let n : ℕ = turns_due b.pairs s in
    let x : ℕ = length (turned n s).out in
    let four : x + 4 ≤ b.triples = omega (arith, (turns_count n s).most, turns_most b.pairs s) in
    rw (numbers (count_due b s - x) s.sending s.packets).sent
    (room s.pad_out b.triples (unsent s) (turns_counted b.pairs s) x four (turns_counted_bound b.pairs s))

-- the packet triples of a frame are those that are sent
sent_in : (b : Budgets) (s : Mux) → Follow s.sending → packet_triples_in (seen_all (write_frame b s).frame.triples) ≡ length (sent_by b s).out
sent_in b s f =
    let m : ℕ = count_due b s - length (turns_in b s) in
    rw (seen_parts b s, none_608 (seen_608 b s) (seen708 b s))
    (omega (arith, (sent_only m f s.packets).number (seen_all (pads_of b s)), padding_none s.pad_out (m - length (sent_by b s).out)))

-- the triples left of one write go on with a packet
pub follow_write : (h : Share) (s : Mux) → Follow s.sending → Follow (write_share h s).next.sending
unfolding write_frame framed
follow_write h s f = (sent_only _ f s.packets).follow

-- and so they do whatever is called
pub follow_run : (cs : List Call) (s : Mux) → Follow s.sending → Follow (run cs s).last.sending
unfolding run call
follow_run [] s f = f
follow_run (pushes p ∷ cs) s f = follow_run cs (call (pushes p) s).last (rw (quiet_push p s).sending f)
follow_run (pushes608 x ∷ cs) s f = follow_run cs (call (pushes608 x) s).last (rw (quiet_608 x s).sending f)
follow_run (sets x ∷ cs) s f = follow_run cs (call (sets x) s).last (rw (quiet_switch x s).sending f)
follow_run (writes h ∷ cs) s f = follow_run cs (write_share h s).next (follow_write h s f)

-- each write sends at least four packet triples, or all that are left [J4], in any state whose triples left go on with a packet
pub four : (h : Share) (s : Mux) → Accepted h.budgets → Follow s.sending → SendsFour s (write_share h s)
four h s a f =
    let b : Budgets = h.budgets in
    record { four = omega (arith, sent_in b s f, sends_four b s a.apart); no_other = omega (arith, sent_in b s f, remains b s) }
