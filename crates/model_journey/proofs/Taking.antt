-- A frame whose count is true, taken by a demultiplexer with 608 on that has been emptied; and by any other. Assumes nothing.
use mathlib.Core.Path.{◌≡◌, refl, sym, ap, ◌∙◌}
use mathlib.Core.Bool.{true}
use mathlib.Core.List.{List, [], ◌∷◌, ◌++◌}
use Prim.Native.Nat.{ℕ, ◌+◌, ◌/◌, ◌%◌, ◌≤◌}
use native.Mathlib.Omega.{arith}
use lib.ListN.{length, length-append}
use lib.Dec.{ltb}
use borrow.Author.Tests.{eq-eqb, ltb-true, ltb-false}
use Rattle.model.specs.Said.{accepted}
use Rattle.model.specs.Frame.{Triple, Frame, Cea608, Seen, seen_all, flat, flagged, frame_bytes}
use Rattle.model.specs.Demux.{Demux, Gathered, Taken, pairs_in, late_from, carries708, packets_of, gathered, take_gathered, take_triples, unread, take_frame}
use Rattle.model.proofs.Frames.{Announces, take_whole, take_full, take_room, few_packets, unflat, frame_length}
use Rattle.model.proofs.Cases.{by_test}
use Rattle.model_journey.specs.Trip.{OnlyFull}
use Rattle.model_journey.proofs.Parts.{In608, In708, seen_length, pairs_608, none_late, carries_608, gather_608}

-- a demultiplexer with 608 on that has been emptied, the bytes g pending
abbrev pub holding : List ℕ → Demux
holding g = record { on608 = true; pairs = []; pending = g; waiting = [] }

-- what is done with the triples of a frame
abbrev read : List Seen → Demux → Taken
read ts d = take_triples ts (late_from 0 ts) d

-- a frame with triples announces as many as it has
announced : (t : Triple) (ts : List Triple) (n : ℕ) → length (t ∷ ts) ≡ n → n ≤ 31 → Announces n (frame_bytes (record { count = n; triples = t ∷ ts }))
unfolding frame_bytes flagged
announced t ts n e h =
    let f : Frame = record { count = n; triples = t ∷ ts } in
    record { bytes = omega (arith, frame_length f); flag = eq-eqb ((0xC0 + n) / 64 % 2) 1 (omega arith); count = omega arith; some = omega arith }

-- they are read from its bytes
taken_some : (t : Triple) (ts : List Triple) (n : ℕ) (d : Demux) → length (t ∷ ts) ≡ n → n ≤ 31 → take_frame (frame_bytes (record { count = n; triples = t ∷ ts })) d ≡ read (seen_all (t ∷ ts)) d
unfolding frame_bytes
taken_some t ts n d e h =
    let f : Frame = record { count = n; triples = t ∷ ts } in
    take_whole n (frame_bytes f) d (announced t ts n e h) (omega (arith, frame_length f)) ∙ rw (unflat (t ∷ ts))

-- a frame without a triple is accepted with nothing done, as no triples would be
taken_frame : (ts : List Triple) (n : ℕ) (g : List ℕ) → length ts ≡ n → n ≤ 31 → take_frame (frame_bytes (record { count = n; triples = ts })) (holding g) ≡ read (seen_all ts) (holding g)
unfolding take_frame frame_bytes unread flat seen_all late_from take_triples pairs_in gathered carries708 packets_of take_gathered
taken_frame [] n g e h = refl
taken_frame (t ∷ ts) n g e h = taken_some t ts n (holding g) e h

-- what is gathered of a 608 part and a 708 part is what is gathered of the latter
gathered_608 : (g : List ℕ) {xs : List Seen} → In608 xs → (ys : List Seen) → gathered g (xs ++ ys) ≡ gathered g ys
unfolding gathered
gathered_608 g i ys = rw (carries_608 i ys, gather_608 g i ys)

-- how a frame of a 608 part and a 708 part is taken
abbrev pub taken_as : List Seen → List Seen → List ℕ → Taken
taken_as xs ys g =
    record {
      answer = accepted [];
      runs = (gathered g ys).runs;
      next = record { on608 = true; pairs = pairs_in xs; pending = (gathered g ys).bytes; waiting = packets_of (gathered g ys).runs };
    }

-- so it is, where it has no more than 31 triples
taken_parts : (g : List ℕ) {xs ys : List Seen} → In608 xs → In708 ys → length (xs ++ ys) ≤ 31 → read (xs ++ ys) (holding g) ≡ taken_as xs ys g
unfolding take_triples
taken_parts g {xs} {ys} i j h =
    let few : 0 + length (packets_of (gathered g ys).runs) ≤ 32 = omega (arith, few_packets g ys, length-append xs ys) in
    rw (none_late 0 i j, gathered_608 g i ys, pairs_608 i j) (take_room (pairs_in xs) (gathered g ys) (holding g) few)

-- a frame's bytes, where its count is true and its triples are a 608 part xs and a 708 part ys
pub taken : (f : Frame) (g : List ℕ) {xs ys : List Seen} → length f.triples ≡ f.count → f.count ≤ 31 → seen_all f.triples ≡ xs ++ ys → In608 xs → In708 ys
    → take_frame (frame_bytes f) (holding g) ≡ taken_as xs ys g
taken f g {xs} {ys} true_count most cut i j =
    let short : length (xs ++ ys) ≤ 31 = omega (arith, seen_length f.triples, ap length cut) in
    taken_frame f.triples f.count g true_count most ∙ ap (λ (ts : List Seen). read ts (holding g)) cut ∙ taken_parts g i j short

-- Any demultiplexer takes such a frame, unless too many packets would wait.
module _ (d : Demux) where
  -- without a triple nothing is done
  none_refused : (n : ℕ) → (take_frame (frame_bytes (record { count = n; triples = [] })) d).answer ≡ accepted []
  unfolding take_frame frame_bytes unread flat
  none_refused n = refl

  -- what is gathered has room or has not
  gathered_refused : (n : ℕ) (ps : List Cea608) (o : Gathered) → length (packets_of o.runs) ≤ n + 1 → OnlyFull d n (take_gathered ps o d).answer
  gathered_refused n ps o few =
      let all : ℕ = length d.waiting + length (packets_of o.runs) in
      by_test (ltb 32 all)
      (λ e. let h = ltb-true 32 all e in rw (take_full ps o d h) (record { only = λ ne. refl; taken = λ z. absurd (omega arith) }))
      (λ e. rw (take_room ps o d (ltb-false 32 all e)) (record { only = λ ne. absurd (ne refl); taken = λ z. refl }))

  -- a 608 part and a 708 part
  parts_refused : {xs ys : List Seen} → In608 xs → In708 ys → OnlyFull d (length (xs ++ ys)) (read (xs ++ ys) d).answer
  unfolding take_triples
  parts_refused {xs} {ys} i j =
      rw (none_late 0 i j) (gathered_refused (length (xs ++ ys)) (pairs_in (xs ++ ys)) (gathered d.pending (xs ++ ys)) (few_packets d.pending (xs ++ ys)))

  pub not_refused : (f : Frame) {xs ys : List Seen} → length f.triples ≡ f.count → f.count ≤ 31 → seen_all f.triples ≡ xs ++ ys → In608 xs → In708 ys
      → OnlyFull d f.count (take_frame (frame_bytes f) d).answer
  not_refused f {xs} {ys} true_count most cut i j = by f.triples f.count true_count most cut
    where
      -- by its triples
      by : (ts : List Triple) (n : ℕ) → length ts ≡ n → n ≤ 31 → seen_all ts ≡ xs ++ ys → OnlyFull d n (take_frame (frame_bytes (record { count = n; triples = ts })) d).answer
      by [] n e h c = rw (none_refused n) (record { only = λ ne. absurd (ne refl); taken = λ z. refl })
      by (t ∷ ts) n e h c =
          let many : n ≡ length (xs ++ ys) = sym e ∙ sym (seen_length (t ∷ ts)) ∙ ap length c in
          rw (taken_some t ts n d e h, c, many) (parts_refused i j)
