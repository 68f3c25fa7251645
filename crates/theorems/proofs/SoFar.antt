-- At any moment, drained or not: no frame is refused, and what has been given is the beginning of what was accepted. Assumes nothing.
use mathlib.Core.Path.{◌≡◌, sym, ◌∙◌}
use mathlib.Core.List.{List, [], ◌++◌}
use Prim.Native.Nat.{ℕ, min}
use native.Mathlib.Omega.{arith}
use borrow.Author.Tests.{leb-true, leb-false}
use lib.Dec.{leb}
use lib.ListN.{length, replicate, length-append}
use Rattle.model.specs.Said as said
use Rattle.model.specs.Packet.{Packet}
use Rattle.model.specs.Demux.{fresh_demux, turn608_on}
use Rattle.model.specs.Mux.{fresh_mux}
use Rattle.model.specs.Run.{run, exact_count, Read, read_frames, others}
use Rattle.model.proofs.Cases.{by_test}
use Rattle.model_journey.specs.Bounds.{one, two}
use Rattle.model_journey.proofs.Gather as gather
use Rattle.model_journey.proofs.Round.{ready_fresh}
use Rattle.model_journey.proofs.Carried as journey
use Rattle.slots.specs.Slot.{written_length}
use Rattle.writer.specs.Writer.{means}
use Rattle.writer_sending.proofs.Triples.{left_length}
use Rattle.writer.proofs.Kept.{Sound, sound_ok}
use Rattle.writer.specs.declared.CCDataWriter.{CCDataWriter}
use Rattle.parser.specs.declared.CCDataParser.{CCDataParser}
use Rattle.theorems.specs.Items.{Items}
use Rattle.theorems.specs.Allowed.{Answer, NewWriter}
use Rattle.theorems.specs.Writing.{Calls, Exact}
use Rattle.theorems.specs.Reading.{Turned, Told, Feeds, NoRefusal}
use Rattle.theorems.specs.Trip.{sending_of, SoFar}
use Rattle.theorems.proofs.Passing.{there_in}
use Rattle.theorems.proofs.Sequences.{from_fresh}
use Rattle.theorems.proofs.Queued.{same_behind, queue_others}
use Rattle.theorems.proofs.Feeding.{items_read, no_refusal}
use Rattle.theorems.proofs.Trip.{given_fed}

-- as many are being sent as triples are left, up to one
sending_length : (w : CCDataWriter) → Sound w → length (sending_of w) ≡ min 1 (length (means w).sending)
unfolding means
sending_length w s =
    let h = (sound_ok w s).held in
    by_test (leb (written_length w.sending) w.sent)
    (λ e. rw e (omega (arith, left_length w.sending w.sent h, leb-true (written_length w.sending) w.sent e)))
    (λ e. rw e (omega (arith, left_length w.sending w.sent h, leb-false (written_length w.sending) w.sent e, h.even)))

-- of two lists that end in what is queued, one packet is behind both or none is: it is the one being sent
same_there : (w : CCDataWriter) → Sound w → (given gone on : List Packet) → length on ≡ min 1 (length (means w).sending) → given ++ (on ++ (means w).packets) ≡ gone ++ there_in w
    → on ++ (means w).packets ≡ there_in w
same_there w s given gone on n e =
    let size = sending_length w s in
    same_behind given gone (on ++ (means w).packets) (there_in w) (omega (arith, n, size, length-append on (means w).packets, length-append (sending_of w) (means w).packets)) e

-- what was read is the beginning of what was accepted
record Begins (w : CCDataWriter) (frames : List (List ℕ)) (accepted : Items) (o : Read) : Type 0 where
  answers : o.answers ≡ replicate (length frames) (said.accepted [])
  begins : SoFar w (items_read o) accepted

-- whatever was called
begins_by : {w₀ w : CCDataWriter} {frames : List (List ℕ)} {accepted : Items} → NewWriter w₀ → (c : Calls w₀ frames accepted w) → Exact c
    → Begins w frames accepted (read_frames frames (turn608_on fresh_demux))
unfolding others
begins_by {w} {frames} {accepted} new c exact =
    let f = from_fresh new c in
    let t = journey.carried f.calls fresh_mux [] (f.allowed exact_count exact) ready_fresh in
    let o : Read = read_frames (run f.calls fresh_mux).frames (turn608_on fresh_demux) in
    let on : List Packet = gather.underway o.last.pending (means w).sending in
    let one_on : length on ≡ min 1 (length (means w).sending) = rw f.last at (gather.underway_one t.ready.linked t.ready.rested) in
    let all : accepted.packets ≡ o.packets ++ (on ++ (means w).packets) = sym f.packets ∙ (rw f.last at t.packets.same) in
    rw (← f.frames)
    (record {
      answers = t.answers;
      begins = record {
        packets = rw (same_there w f.sound o.packets f.passed.gone on one_on (sym all ∙ f.passed.kept.same)) at all;
        pairs1 = sym f.pairs1 ∙ (rw (f.last, queue_others new c one) at (t.pairs one).same);
        pairs2 = sym f.pairs2 ∙ (rw (f.last, queue_others new c two) at (t.pairs two).same);
      };
    })

-- Fed every frame so far and emptied after each, while the multiplexer is still in use, a demultiplexer has refused nothing; and what was accepted
-- is what it has given, and then what is still there.
pub so_far : {w₀ w : CCDataWriter} {p p' : CCDataParser} {on : Answer} {frames : List (List ℕ)} {accepted given : Items} {answers : List Answer} {told : List Told}
    → NewWriter w₀ → (c : Calls w₀ frames accepted w) → Exact c
    → Turned on p → Feeds p frames answers told given p'
    → NoRefusal frames answers told × SoFar w given accepted
so_far new c exact turned read =
    let t = begins_by new c exact in
    let d = (given_fed turned read).1 in
    (no_refusal d t.answers, rw d.items t.begins)
