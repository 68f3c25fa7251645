-- What reading a frame does in each case. Assumes nothing.
use mathlib.Core.Path.{◌≡◌, refl, sym, ap}
use mathlib.Core.Bool.{true, false, cond, true≢false, false≢true}
use mathlib.Core.List.{List, [], ◌∷◌, ◌++◌, append_assoc, append-nil}
use mathlib.Core.Option.{some}
use Prim.Native.Nat.{ℕ, ◌+◌, ◌*◌, ◌≤◌, ◌<◌}
use native.Mathlib.Omega.{arith}
use lib.Dec.{eqb}
use lib.ListN.{length, get_or, take, drop, length-append}
use borrow.Author.Tests.{eq-eqb, ne_eqb, lt-ltb, le-ltb}
use Rattle.model.specs.Said.{Outcome, gave, refused, is_given, accepted, full, frame_length_wrong}
use Rattle.model.specs.Packet.{Packet, packet_size, read_packet, reads}
use Rattle.model.specs.Frame.{Triple, tri, Cea608, Seen, first, second, start, more, void608, void708, seen_all, triples_in, flat, flagged, count_in, Frame, frame_bytes, most_frame}
use Rattle.model.specs.Demux.{Demux, Gathered, with_pairs, pairs_in, late_from, carries708, given_in, closed, packets_of, kept, wants, gather, ended, gathered, take_gathered, take_triples, unread, take_frame}
use Rattle.model.proofs.Cases.{by_test, by_cond}

-- accepted, with nothing more done [F2]
pub take_unread : (f : List ℕ) (d : Demux) → unread f ≡ true → take_frame f d ≡ record { answer = accepted []; runs = []; next = with_pairs [] d }
unfolding take_frame
take_unread f d e = simp e

-- fewer than 5 bytes [F2]
pub unread_short : (f : List ℕ) → length f < 5 → unread f ≡ true
unfolding unread
unread_short f h = simp (lt-ltb _ _ h)

-- the frames that are read: n triples are announced
pub record Announces (n : ℕ) (f : List ℕ) : Type 0 where
  pub bytes : 5 ≤ length f
  pub flag : flagged (get_or f 0 0) ≡ true
  pub count : count_in (get_or f 0 0) ≡ n
  pub some : 1 ≤ n

-- a frame [S5] whose triples are read has no more
pub read_most : (n : ℕ) (f : List ℕ) → Announces n f → length f ≡ 3 * n + 2 → length f ≤ most_frame
read_most n f a e = omega (arith, a.count)

module _ (n : ℕ) (f : List ℕ) (d : Demux) (a : Announces n f) where
  -- such a frame is read
  read_it : unread f ≡ false
  unfolding unread
  read_it = simp (le-ltb _ _ a.bytes, a.flag, a.count, ne_eqb n 0 (λ e. omega (arith, a.some)))

  -- a wrong length is 12, with 3n+2 expected [F3]
  pub take_wrong : (length f ≡ 3 * n + 2 → ⊥) → take_frame f d ≡ record { answer = frame_length_wrong (3 * n + 2) (length f); runs = []; next = with_pairs [] d }
  unfolding take_frame
  take_wrong ne = simp (read_it, a.count, ne_eqb _ _ ne)

  -- a frame of the right length goes by its triples
  pub take_whole : length f ≡ 3 * n + 2 → take_frame f d ≡ (let ts = seen_all (triples_in (drop 2 f)) in take_triples ts (late_from 0 ts) d)
  unfolding take_frame
  take_whole e = simp (read_it, a.count, eq-eqb _ _ e)

-- without a valid triple of type 2 or 3 the pending bytes stay [F8]: no packet is closed, and none is delivered
pub kept_pending : (pending : List ℕ) (ts : List Seen) → carries708 ts ≡ false → gathered pending ts ≡ record { runs = []; bytes = pending }
unfolding gathered
kept_pending pending ts e = simp e

-- 10 exactly where more than 32 packets would wait [F13]
module _ (ps : List Cea608) (o : Gathered) (d : Demux) where
  -- it is full
  pub take_full : 32 < length d.waiting + length (packets_of o.runs) → take_gathered ps o d ≡ record { answer = full; runs = []; next = d }
  unfolding take_gathered
  take_full h = simp (lt-ltb _ _ h)

  -- it is not
  pub take_room : length d.waiting + length (packets_of o.runs) ≤ 32
      → take_gathered ps o d ≡ record {
        answer = accepted [];
        runs = o.runs;
        next = record { on608 = d.on608; pairs = cond d.on608 ps []; pending = o.bytes; waiting = d.waiting ++ packets_of o.runs };
      }
  unfolding take_gathered
  take_room h = simp (le-ltb _ _ h)

-- a frame lists at most one pair a triple
pub few_pairs : (ts : List Seen) → length (pairs_in ts) ≤ length ts
unfolding pairs_in
few_pairs [] = omega arith
few_pairs (first a b ∷ ts) = omega (arith, few_pairs ts)
few_pairs (second a b ∷ ts) = omega (arith, few_pairs ts)
few_pairs (void608 ∷ ts) = omega (arith, few_pairs ts)
few_pairs (start a b ∷ ts) = omega arith
few_pairs (more a b ∷ ts) = omega arith
few_pairs (void708 ∷ ts) = omega arith

-- one run more
pub packets_append : (gs hs : List (List ℕ)) → packets_of (gs ++ hs) ≡ packets_of gs ++ packets_of hs
unfolding packets_of
packets_append [] hs = refl
packets_append (g ∷ gs) hs = rw (packets_append gs hs) (sym (append_assoc (closed g) (packets_of gs) (packets_of hs)))

-- bytes that read are one packet,
pub closed_one : (g : List ℕ) → reads g ≡ true → length (closed g) ≡ 1
unfolding closed reads
closed_one g = by (read_packet g)
  where
    by : (o : Outcome Packet) → is_given o ≡ true → length (given_in o) ≡ 1
    by (gave p) e = refl
    by (refused why) e = absurd (false≢true e)

-- and others none
closed_none : (g : List ℕ) → reads g ≡ false → closed g ≡ []
unfolding closed reads
closed_none g = by (read_packet g)
  where
    by : (o : Outcome Packet) → is_given o ≡ false → given_in o ≡ []
    by (gave p) e = absurd (true≢false e)
    by (refused why) e = refl

-- what is kept of bytes is their packet
pub packets_kept : (g : List ℕ) → packets_of (kept g) ≡ closed g
unfolding packets_of kept
packets_kept g = by_test (reads g) (λ e. rw (e, append-nil (closed g))) (λ e. rw (e, closed_none g e))

-- each of these runs is a packet
pub data Read : List (List ℕ) → Type 0 where
  none : Read []
  also : {g : List ℕ} {gs : List (List ℕ)} → reads g ≡ true → Read gs → Read (g ∷ gs)

-- so that there are as many
pub packets_many : {gs : List (List ℕ)} → Read gs → length (packets_of gs) ≡ length gs
unfolding packets_of
packets_many none = refl
packets_many (also {g} {gs} e r) = omega (arith, length-append (closed g) (packets_of gs), closed_one g e, packets_many r)

-- runs before others
read_append : {gs hs : List (List ℕ)} → Read gs → Read hs → Read (gs ++ hs)
read_append none k = k
read_append (also e r) k = also e (read_append r k)

-- what is kept of bytes reads
read_kept : (g : List ℕ) → Read (kept g)
unfolding kept
read_kept g = by_test (reads g) (λ e. rw e (also e none)) (λ e. rw e none)

-- so do all runs that are gathered
gather_read : (g : List ℕ) (ts : List Seen) → Read (gather g ts).runs
unfolding gather
gather_read g [] = none
gather_read g (start a b ∷ ts) = read_append (read_kept g) (gather_read (take (packet_size a) (a ∷ b ∷ [])) ts)
gather_read g (more a b ∷ ts) = gather_read (g ++ take (wants g) (a ∷ b ∷ [])) ts
gather_read g (first a b ∷ ts) = gather_read g ts
gather_read g (second a b ∷ ts) = gather_read g ts
gather_read g (void608 ∷ ts) = gather_read g ts
gather_read g (void708 ∷ ts) = gather_read g ts

-- and those of a whole frame
pub gathered_read : (pending : List ℕ) (ts : List Seen) → Read (gathered pending ts).runs
unfolding gathered ended
gathered_read pending ts =
    by_cond (λ (o : Gathered). Read o.runs) (carries708 ts)
    (λ _.
    let o = gather pending ts in
    let r = gather_read pending ts in
    by_cond (λ (x : Gathered). Read x.runs) (eqb (wants o.bytes) 0) (λ _. read_append r (read_kept o.bytes)) (λ _. r))
    (λ _. none)

-- at most one run is kept at a time
kept_one : (g : List ℕ) → length (kept g) ≤ 1
unfolding kept
kept_one g = by_cond (λ (l : List (List ℕ)). length l ≤ 1) (reads g) (λ _. omega arith) (λ _. omega arith)

-- at most one a triple
gather_few : (g : List ℕ) (ts : List Seen) → length (gather g ts).runs ≤ length ts
unfolding gather
gather_few g [] = omega arith
gather_few g (start a b ∷ ts) =
    let g' : List ℕ = take (packet_size a) (a ∷ b ∷ []) in
    omega (arith, gather_few g' ts, kept_one g, length-append (kept g) (gather g' ts).runs)
gather_few g (more a b ∷ ts) = omega (arith, gather_few (g ++ take (wants g) (a ∷ b ∷ [])) ts)
gather_few g (first a b ∷ ts) = omega (arith, gather_few g ts)
gather_few g (second a b ∷ ts) = omega (arith, gather_few g ts)
gather_few g (void608 ∷ ts) = omega (arith, gather_few g ts)
gather_few g (void708 ∷ ts) = omega (arith, gather_few g ts)

-- one more at the frame's end
ended_few : (o : Gathered) → length (ended o).runs ≤ length o.runs + 1
unfolding ended
ended_few o =
    by_cond (λ (g : Gathered). length g.runs ≤ length o.runs + 1) (eqb (wants o.bytes) 0)
    (λ _. omega (arith, kept_one o.bytes, length-append o.runs (kept o.bytes))) (λ _. omega arith)

-- a frame delivers at most one run a triple and one at its end
few_runs : (pending : List ℕ) (ts : List Seen) → length (gathered pending ts).runs ≤ length ts + 1
unfolding gathered
few_runs pending ts =
    by_cond (λ (g : Gathered). length g.runs ≤ length ts + 1) (carries708 ts)
    (λ _. omega (arith, ended_few (gather pending ts), gather_few pending ts)) (λ _. omega arith)

-- and so many packets
pub few_packets : (pending : List ℕ) (ts : List Seen) → length (packets_of (gathered pending ts).runs) ≤ length ts + 1
few_packets pending ts = omega (arith, few_runs pending ts, packets_many (gathered_read pending ts))

-- triples and their bytes
pub unflat : (ts : List Triple) → triples_in (flat ts) ≡ ts
unfolding triples_in flat
unflat [] = refl
unflat (tri h a b ∷ ts) = ap (λ (l : List Triple). tri h a b ∷ l) (unflat ts)

-- three bytes a triple
pub flat_length : (ts : List Triple) → length (flat ts) ≡ 3 * length ts
unfolding flat
flat_length [] = refl
flat_length (tri h a b ∷ ts) = omega (arith, flat_length ts)

-- and two before them
pub frame_length : (f : Frame) → length (frame_bytes f) ≡ 3 * length f.triples + 2
unfolding frame_bytes
frame_length f = omega (arith, flat_length f.triples)

-- they are read from its bytes
pub frame_triples : (f : Frame) → triples_in (drop 2 (frame_bytes f)) ≡ f.triples
unfolding frame_bytes
frame_triples f = unflat f.triples
