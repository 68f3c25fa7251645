-- What is promised of packets, whatever results the contracts of `write` and `read` allow: what is written has the layout and is read back, and what is
-- read is of the layout. Assumes nothing.
use mathlib.Core.Path.{◌≡◌, refl, sym, ap, ap₂, ◌∙◌}
use mathlib.Core.Bool.{true, false, cond}
use mathlib.Core.List.{List, ◌∷◌, ◌++◌}
use mathlib.Core.Option.{Option, some}
use Prim.Native.Nat.{ℕ, ◌+◌, ◌*◌, ◌/◌, ◌%◌, ◌^◌, ◌≤◌, ◌<◌}
use native.Mathlib.Omega.{arith}
use contract.Lifetimes.{Lfts}
use denote.Ref.{Bor, MutBor}
use lib.Dec.{leb, ltb}
use lib.ListN.{length, get_or, take, drop}
use lib.Seq.{take_at, drop_at, drop-cons}
use borrow.Author.Tests.{eq-eqb, le-ltb, lt-leb, leb-true}
use Rattle.model.specs.Lists.{every}
use Rattle.std.specs.Prelude.{Result, Ok, Err}
use Rattle.model.specs.Said.{Outcome, gave, refused, and_then, mapped, after, put_into, not_newer}
use Rattle.model.specs.Frame.{Triple, seen_all, flagged, count_in, Frame, frame_bytes}
use Rattle.model.specs.Demux.{Demux, late_from, take_triples, take_frame}
use Rattle.model.specs.Distribution.{Distribution, is_coded, length_with, sum_of, Unread, as_written, laid_out, distribution_bytes, opened, ahead, takes, newer, frame_of, received_into, receive, counter_after, is_whole, distribution_of, Distributed}
use Rattle.model.specs.Distribution as packets
use Rattle.model.proofs.Cases.{by_test, by_cond, Gives, gives_at, gives_mapped}
use Rattle.model.proofs.Frames.{take_whole, frame_length, frame_triples}
use Rattle.model.proofs.Distribution.{Fits, laid_length, laid_sum, laid_opened, unread_in, is_byte, opened_laid, next_newer, whole_length, whole_count, whole_frame, SentAs, sent_as, sent_fits}
use Rattle.caption.specs.declared.Refusal.{Refusal}
use Rattle.caption.specs.declared.Refusal.TheVariants.{NotNewer}
use Rattle.caption.specs.Answers.{said_refusal, outcome}
use Rattle.caption.proofs.Outcomes.{outcome_injective}
use Rattle.distribution.specs.States.{last_of, fresh_reader, reader_at, writer_at}
use Rattle.distribution.specs.Calls.{read_by, told_of, written_by}
use Rattle.distribution.specs.declared.Received.{Received}
use Rattle.distribution.specs.declared.DistributionReader.{DistributionReader}
use Rattle.distribution.specs.declared.DistributionWriter.{DistributionWriter}
use Rattle.distribution.proofs.DistributionReader.read.Reads as read
use Rattle.distribution.proofs.DistributionWriter.write.Reads as write
use Rattle.distribution.proofs.Outcomes.{told_gave}

-- bytes that a caller lends
abbrev pub Lent : Type 0
Lent = Bor (List ℕ)

-- bytes that a caller lends to be written
abbrev pub Output : Type 0
Output = MutBor (List ℕ)

-- a writer that a caller lends
abbrev pub Writer : Type 0
Writer = MutBor DistributionWriter

-- a reader that a caller lends
abbrev pub Reader : Type 0
Reader = MutBor DistributionReader

-- `writer.write(code, frame, &mut out)`, where `w` and `out` are as they were lent, and `v` and `end` as they are at exit
abbrev pub Write : Lfts 3 → Writer → Writer → ℕ → Lent → Output → Output → Result ℕ Refusal → Type 0
Write κs w v code frame out end r = write.Post κs (w, (code, (frame, (out, tt)))) r (v, (code, (frame, (end, tt))))

-- `reader.read(packet, &mut out)`, where `d` and `out` are as they were lent, and `e` and `end` as they are at exit
abbrev pub Read : Lfts 3 → Reader → Reader → Lent → Output → Output → Result Received Refusal → Type 0
Read κs d e packet out end r = read.Post κs (d, (packet, (out, tt))) r (e, (packet, (end, tt)))

-- A frame was written as a packet: it is whole, the rate has a code, the packet has the layout and is in the output, and the counter moves on.
pub record Sends (w v : DistributionWriter) (code : ℕ) (f out end : List ℕ) (n : ℕ) : Type 0 where
  pub whole : is_whole f ≡ true
  pub coded : is_coded code ≡ true
  pub count : n ≡ length_with (count_in (get_or f 0 0))
  pub packet : take n end ≡ distribution_bytes (distribution_of w.next code f)
  pub behind : drop n end ≡ drop n out
  pub next : v ≡ writer_at (counter_after w.next)

module _ (κs : Lfts 3) (w v : Writer) (code : ℕ) (frame : Lent) (out end : Output) (r : Result ℕ Refusal) (told : Write κs w v code frame out end r) where
  pub written_laid : (n : ℕ) → r ≡ Ok n → Sends w.now v.now code frame.now out.now end.now n
  written_laid n e =
      let f = frame.now in
      let o = out.now in
      let d = distribution_of w.now.next code f in
      let g = told_gave (λ (x : Distributed). length x.bytes) (written_by w.now code f o) n (sym (ap outcome e) ∙ told.0) in
      let s = gives_at (SentAs w.now.next code f o) (written_by w.now code f o) g.1 (sent_as w.now.next code f o) in
      let all : end.now ≡ distribution_bytes d ++ drop (length (distribution_bytes d)) o =
      told.1.1.0 ∙ ap (λ (q : Outcome Distributed). after o (mapped (λ x. x.out) q)) g.1 ∙ s.there in
      let long : n ≡ length (distribution_bytes d) = g.2 ∙ ap length s.packet in
      record {
        whole = s.whole;
        coded = s.coded;
        count = omega (arith, long, laid_length as_written d, whole_count f s.whole);
        packet = ap (λ (l : List ℕ). take n l) all ∙ take_at (distribution_bytes d) _ n (sym long);
        behind = ap (λ (l : List ℕ). drop n l) all ∙ drop_at (distribution_bytes d) _ n (sym long) ∙ ap (λ (k : ℕ). drop k o) (sym long);
        next = told.1.0 ∙ ap (λ (q : Outcome Distributed). after w.now (mapped (λ x. writer_at x.next) q)) g.1 ∙ ap writer_at s.moved;
      }

  -- Its sum is 0 modulo 256.
  pub written_sum : (n : ℕ) → r ≡ Ok n → sum_of (take n end.now) % 256 ≡ 0
  written_sum n e = ap (λ (l : List ℕ). sum_of l % 256) (written_laid n e).packet ∙ laid_sum as_written (distribution_of w.now.next code frame.now)

-- A packet of the layout, whatever stands where a reader does not look
module _ (u : Unread) (d : Distribution) (fits : Fits u d) (last : Option ℕ) (out : List ℕ) where
  -- that is newer is taken, if there is room for its frame,
  laid_received : takes last d.counter ≡ true → 3 * length d.triples + 2 ≤ length out
      → receive last (laid_out u d) out ≡ gave (record { packet = d; out = frame_of d ++ drop (length (frame_of d)) out; last = some d.counter })
  unfolding receive received_into put_into
  laid_received t l =
      simp (laid_opened u d fits, t, le-ltb (length out) (length (frame_of d)) (omega (arith, frame_length (record { count = length d.triples; triples = d.triples }))))

  -- and refused with 20 if it is not
  laid_old : takes last d.counter ≡ false → receive last (laid_out u d) out ≡ refused not_newer
  unfolding receive
  laid_old t = simp (laid_opened u d fits, t)

-- a packet that was taken: the bytes were read as it, it was newer, and its frame is in the output
pub record TakenAs (last : Option ℕ) (s out : List ℕ) (x : packets.Received) : Type 0 where
  pub whole : opened s ≡ gave x.packet
  pub newer : takes last x.packet.counter ≡ true
  pub there : x.out ≡ frame_of x.packet ++ drop (length (frame_of x.packet)) out

module _ (last : Option ℕ) (s out : List ℕ) where
  taken_of : (o : Outcome Distribution) → opened s ≡ o → Gives (TakenAs last s out) (and_then o (λ d. cond (takes last d.counter) (received_into out d) (refused not_newer)))
  unfolding received_into put_into
  taken_of (gave d) e =
      by_cond (Gives (TakenAs last s out)) (takes last d.counter)
      (λ t. gives_mapped (TakenAs last s out) (λ (o : List ℕ). o ≡ frame_of d ++ drop (length (frame_of d)) out) (put_into out (frame_of d)) _
      (by_cond (Gives _) (ltb (length out) (length (frame_of d))) (λ _. tt) (λ _. refl))
      (λ o q. record { whole = e; newer = t; there = q }))
      (λ _. tt)
  taken_of (refused why) e = tt

  pub taken : Gives (TakenAs last s out) (receive last s out)
  unfolding receive
  taken = taken_of (opened s) refl

module _ (κs : Lfts 3) (reader next : Reader) (packet : Lent) (out end : Output) (r : Result Received Refusal) (told : Read κs reader next packet out end r) where
  -- what is read as the model says
  abbrev said : Outcome packets.Received
  said = read_by reader.now packet.now out.now

  -- what the model's call comes to: what is told, the reader, and the output
  came_to : (o : Outcome packets.Received) (x : Result Received Refusal) → said ≡ o → mapped told_of o ≡ outcome x
      → (r ≡ x) × (next.now ≡ after reader.now (mapped (λ y. reader_at y.packet.counter) o)) × (end.now ≡ after out.now (mapped (λ y. y.out) o))
  came_to o x e t = (
    outcome_injective r x (told.0 ∙ ap (mapped told_of) e ∙ t),
    told.1.1.0 ∙ ap (λ (q : Outcome packets.Received). after reader.now (mapped (λ y. reader_at y.packet.counter) q)) e,
    told.1.1.1.0 ∙ ap (λ (q : Outcome packets.Received). after out.now (mapped (λ y. y.out) q)) e,
  )

  -- a packet is given,
  given_so : (x : packets.Received) → said ≡ gave x → (r ≡ Ok (told_of x)) × (next.now ≡ reader_at x.packet.counter) × (end.now ≡ x.out)
  given_so x e = came_to (gave x) (Ok (told_of x)) e refl

  -- or it is refused, and nothing changes
  stays_so : (why : Refusal) → said ≡ refused (said_refusal why) → (r ≡ Err why) × (next.now ≡ reader.now) × (end.now ≡ out.now)
  stays_so why e = came_to (refused (said_refusal why)) (Err why) e refl

  module _ (u : Unread) (d : Distribution) (fits : Fits u d) (laid : packet.now ≡ laid_out u d) where
    said_as : said ≡ receive (last_of reader.now.last) (laid_out u d) out.now
    said_as = ap (λ (s : List ℕ). receive (last_of reader.now.last) s out.now) laid

    -- A packet of the layout that is newer is given, with its code, its counter and its frame,
    pub laid_read : takes (last_of reader.now.last) d.counter ≡ true → 3 * length d.triples + 2 ≤ length out.now
        → (r ≡ Ok (record { code = d.code; counter = d.counter; len = length (frame_of d) })) × (next.now ≡ reader_at d.counter)
        × (end.now ≡ frame_of d ++ drop (length (frame_of d)) out.now)
    laid_read t l = given_so (record { packet = d; out = frame_of d ++ drop (length (frame_of d)) out.now; last = some d.counter }) (said_as ∙ laid_received u d fits (last_of reader.now.last) out.now t l)

    -- and one that is not newer is refused with 20, whatever was lent; so a repeat changes nothing.
    pub old_read : takes (last_of reader.now.last) d.counter ≡ false → (r ≡ Err NotNewer) × (next.now ≡ reader.now) × (end.now ≡ out.now)
    old_read t = stays_so NotNewer (said_as ∙ laid_old u d fits (last_of reader.now.last) out.now t)

  -- Nothing else is given: bytes that a packet is given of are that packet, laid out, and it is newer.
  pub read_laid : (x : Received) → r ≡ Ok x → every is_byte packet.now ≡ true
      → (d : Distribution) × (packet.now ≡ laid_out (unread_in packet.now) d) × Fits (unread_in packet.now) d × (takes (last_of reader.now.last) d.counter ≡ true)
      × (r ≡ Ok (record { code = d.code; counter = d.counter; len = length (frame_of d) })) × (next.now ≡ reader_at d.counter)
  read_laid x e bytes =
      let g = told_gave told_of said x (sym (ap outcome e) ∙ told.0) in
      let t = gives_at (TakenAs (last_of reader.now.last) packet.now out.now) said g.1 (taken (last_of reader.now.last) packet.now out.now) in
      let l = opened_laid packet.now g.0.packet bytes t.whole in
      let so = given_so g.0 g.1 in
      (g.0.packet, l.0, l.1, t.newer, so.0, so.1)

-- What was written is read back, by a reader to which its counter is newer: the code, the counter, and the frame's own triples behind C0 and their count, and FF.
pub written_read : (κs κs' : Lfts 3) (w v : Writer) (code n : ℕ) (frame : Lent) (out end : Output) (r : Result ℕ Refusal) → Write κs w v code frame out end r → r ≡ Ok n
    → w.now.next < 2 ^ 16
    → (reader next : Reader) (packet : Lent) (lent laid : Output) (q : Result Received Refusal) → Read κs' reader next packet lent laid q → packet.now ≡ take n end.now
    → takes (last_of reader.now.last) w.now.next ≡ true → length frame.now ≤ length lent.now
    → (q ≡ Ok (record { code = code; counter = w.now.next; len = length frame.now })) × (next.now ≡ reader_at w.now.next)
    × (laid.now ≡ ((0xC0 + count_in (get_or frame.now 0 0)) ∷ 0xFF ∷ drop 2 frame.now) ++ drop (length frame.now) lent.now)
written_read κs κs' w v code n frame out end r told e small reader next packet lent laid q read p t room =
    let f = frame.now in
    let d = distribution_of w.now.next code f in
    let s = written_laid κs w v code frame out end r told n e in
    let count = whole_count f s.whole in
    let long = whole_length f s.whole in
    let size : length (frame_of d) ≡ length f = omega (arith, frame_length (record { count = length d.triples; triples = d.triples }), count, long) in
    let told_long : ℕ → Result Received Refusal = λ k. Ok (record { code = code; counter = w.now.next; len = k }) in
    let g = laid_read κs' reader next packet lent laid q read as_written d (sent_fits w.now.next code f s.whole s.coded small) (p ∙ s.packet) t (omega (arith, count, long)) in (
      g.0 ∙ ap told_long size,
      g.1,
      g.2 ∙ ap₂ (λ (a : List ℕ) (k : ℕ). a ++ drop k lent.now) (whole_frame f s.whole code w.now.next) size,
    )

-- A frame that begins as frames are written comes back byte for byte.
pub own_frame : (f : List ℕ) → is_whole f ≡ true → get_or f 0 0 ≡ 0xC0 + count_in (get_or f 0 0) → get_or f 1 0 ≡ 0xFF → (0xC0 + count_in (get_or f 0 0)) ∷ 0xFF ∷ drop 2 f ≡ f
own_frame f whole a b =
    let l = whole_length f whole in
    cc (drop-cons f 0 0 (omega (arith, l)), drop-cons f 1 0 (omega (arith, l)), a, b)

-- a fresh reader takes any counter, and one that has read a packet takes the writer's next
pub fresh_takes : (n : ℕ) → takes (last_of fresh_reader.last) n ≡ true
unfolding takes
fresh_takes n = refl

pub next_takes : (n : ℕ) → n < 2 ^ 16 → takes (last_of (reader_at n).last) (counter_after n) ≡ true
unfolding takes
next_takes n h = next_newer n h

-- a packet that comes again is not newer, until the counter has gone on by more than 32,768
pub repeat_old : (n k : ℕ) → n < 2 ^ 16 → k ≤ 32768 → takes (last_of (reader_at ((n + k) % 2 ^ 16)).last) n ≡ false
unfolding takes newer ahead
repeat_old n k h l =
    let last : ℕ = (n + k) % 2 ^ 16 in
    by_test (leb 1 (ahead last n))
    (λ e. rw e (lt-leb (ahead last n) 32767 (omega (arith, leb-true 1 (ahead last n) e))))
    (λ e. rw e refl)

-- The demultiplexer of the model takes the frame of a packet as it is: it goes by the packet's triples, and is not refused for its length.
pub frame_taken : (d : Distribution) (m : Demux) → 1 ≤ length d.triples → length d.triples < 32
    → take_frame (frame_of d) m ≡ (let ts = seen_all d.triples in take_triples ts (late_from 0 ts) m)
unfolding flagged frame_bytes
frame_taken d m one few =
    let f : Frame = record { count = length d.triples; triples = d.triples } in
    let long = frame_length f in
    let flag : (0xC0 + length d.triples) / 64 % 2 ≡ 1 = omega arith in
    take_whole (length d.triples) (frame_of d) m
    (record { bytes = omega (arith, long); flag = eq-eqb _ _ flag; count = omega arith; some = one })
    long
    ∙ ap (λ (l : List Triple). let ts = seen_all l in take_triples ts (late_from 0 ts) m) (frame_triples f)
