-- Every call leaves a demultiplexer within its limits, if it was. Assumes nothing.
use mathlib.Core.Path.{◌≡◌, refl}
use mathlib.Core.Bool.{Bool, true, false, cond, ◌||◌}
use mathlib.Core.List.{List, [], ◌∷◌, ◌++◌, append-nil}
use mathlib.Core.Option.{Option, none, some}
use Prim.Native.Nat.{ℕ, suc, ◌+◌, ◌-◌, ◌*◌, ◌%◌, ◌≤◌, ◌<◌}
use native.Mathlib.Omega.{arith}
use lib.Dec.{eqb, ltb}
use lib.ListN.{length, get_or, take, drop, length-append, length-drop, get_or-append}
use lib.Seq.{take_all}
use borrow.Author.Tests.{eq-eqb, le-leb, lt-ltb, eqb-true, eqb-false, leb-true, ltb-true, ltb-false}
use Rattle.model.specs.Lists.{every}
use Rattle.model.specs.Said.{Outcome, gave, refused}
use Rattle.model.specs.Packet.{Packet, packet_size, read_packet, valid_packet}
use Rattle.model.specs.Frame.{Cea608, Seen, first, second, start, more, void608, void708, seen_all, triples_in, count_in}
use Rattle.model.specs.Demux.{Demux, Gathered, Taken, valid_pending, valid_demux, fresh_demux, turn608_on, flush_demux, pairs_in, late_from, carries708, given_in, closed, packets_of, wants, gather, ended, gathered, take_gathered, take_triples, unread, take_frame, with_pairs, draw}
use Rattle.model.proofs.Cases.{by_test, by_cond, both, and_both}
use Rattle.model.proofs.Lists.{every_append}
use Rattle.model.proofs.Packets.{facts_valid}
use Rattle.model.proofs.Limits.{plain_valid}
use Rattle.model.proofs.Frames.{few_pairs}

-- the limits of a demultiplexer, as facts
pub record DemuxLimits (d : Demux) : Type 0 where
  pub pairs : length d.pairs ≤ 31
  pub listed : d.on608 || eqb (length d.pairs) 0 ≡ true
  pub waiting : length d.waiting ≤ 32
  pub packets : every valid_packet d.waiting ≡ true
  pub pending : valid_pending d.pending ≡ true

-- what passes the test is within the limits,
pub demux_facts : (d : Demux) → valid_demux d ≡ true → DemuxLimits d
unfolding valid_demux
demux_facts d e =
    let u = both _ _ e in
    let l = both _ _ u.1 in
    let v = both _ _ l.1 in
    let w = both _ _ v.1 in
    record { pairs = leb-true (length d.pairs) 31 u.0; listed = l.0; waiting = leb-true (length d.waiting) 32 v.0; packets = w.0; pending = w.1 }

-- and what is within them passes it
pub facts_demux : (d : Demux) → DemuxLimits d → valid_demux d ≡ true
unfolding valid_demux
facts_demux d f = simp (le-leb _ _ f.pairs, f.listed, le-leb _ _ f.waiting, f.packets, f.pending)

-- a fresh demultiplexer is within its limits
pub fresh_demux_valid : valid_demux fresh_demux ≡ true
unfolding valid_demux valid_pending every
fresh_demux_valid = refl

-- turning 608 on keeps it there
pub on_valid : (d : Demux) → valid_demux d ≡ true → valid_demux (turn608_on d) ≡ true
on_valid d e =
    let f = demux_facts d e in
    facts_demux (turn608_on d) (record { pairs = omega arith; listed = refl; waiting = f.waiting; packets = f.packets; pending = f.pending })

-- and so does flush
pub flush_valid : (d : Demux) → valid_demux (flush_demux d) ≡ true
flush_valid d = fresh_demux_valid

-- drawing takes one away, or none
pub draw_valid : (d : Demux) → valid_demux d ≡ true → valid_demux (draw d).next ≡ true
unfolding draw every
draw_valid d e = let f = demux_facts d e in by_items d.on608 d.pairs d.pending d.waiting f
  where
    by_items : (on : Bool) (pairs : List Cea608) (pending : List ℕ) (waiting : List Packet)
        → (let s : Demux = record { on608 = on; pairs = pairs; pending = pending; waiting = waiting } in DemuxLimits s → valid_demux (draw s).next ≡ true)
    by_items true (x ∷ pairs) pending waiting f = facts_demux _ (record { pairs = omega (arith, f.pairs); listed = refl; waiting = f.waiting; packets = f.packets; pending = f.pending })
    by_items false (x ∷ pairs) pending waiting f = absurd (omega (arith, eqb-true (suc (length pairs)) 0 f.listed))
    by_items on [] pending (p ∷ waiting) f =
        let v = both (valid_packet p) (every valid_packet waiting) f.packets in
        facts_demux _ (record { pairs = omega arith; listed = f.listed; waiting = omega (arith, f.waiting); packets = v.1; pending = f.pending })
    by_items on [] pending [] f = facts_demux _ (record { pairs = omega arith; listed = f.listed; waiting = omega arith; packets = refl; pending = f.pending })

-- a size is even,
pub size_even : (h : ℕ) → packet_size h % 2 ≡ 0
unfolding packet_size
size_even h = by_cond (λ n. n % 2 ≡ 0) (eqb (h % 64) 0) (λ _. omega arith) (λ _. omega arith)

-- and has at least two bytes
pub size_least : (h : ℕ) → 2 ≤ packet_size h
unfolding packet_size
size_least h = by_cond (λ n. 2 ≤ n) (eqb (h % 64) 0) (λ _. omega arith) (λ e. omega (arith, eqb-false (h % 64) 0 e))

-- bytes as they are gathered: an even number, up to the size that the first of them gives
pub record Gathering (g : List ℕ) : Type 0 where
  pub even : length g % 2 ≡ 0
  pub most : length g ≤ packet_size (get_or g 0 0)

-- none are
gathering_none : (g : List ℕ) → length g ≡ 0 → Gathering g
gathering_none g z = record { even = omega arith; most = omega arith }

-- pending bytes are
pub pending_gathering : (g : List ℕ) → valid_pending g ≡ true → Gathering g
unfolding valid_pending
pending_gathering g e =
    by_test (eqb (length g) 0)
    (λ z. gathering_none g (eqb-true _ _ z))
    (λ z. let w = both (eqb (length g % 2) 0) (ltb (length g) (packet_size (get_or g 0 0))) (simp z at e) in
    record { even = eqb-true (length g % 2) 0 w.0; most = omega (arith, ltb-true (length g) (packet_size (get_or g 0 0)) w.1) })

-- and those that want more are pending
gathering_pending : (g : List ℕ) → Gathering g → (wants g ≡ 0 → ⊥) → valid_pending g ≡ true
unfolding valid_pending wants
gathering_pending g k w =
    by_test (eqb (length g) 0) (λ z. simp z)
    (λ z. let n : (packet_size (get_or g 0 0) - length g ≡ 0 → ⊥) = simp z at w in
    simp (z, eq-eqb (length g % 2) 0 k.even, lt-ltb (length g) (packet_size (get_or g 0 0)) (omega arith)))

-- one more triple's bytes, as many as are wanted, are gathered behind those that were
pub gathering_more : (g : List ℕ) (a b : ℕ) → Gathering g → Gathering (g ++ take (wants g) (a ∷ b ∷ []))
unfolding wants
gathering_more g a b k =
    by_test (eqb (length g) 0)
    (λ z. simp z (rw append-nil k))
    (λ z. let size : ℕ = packet_size (get_or g 0 0) in
    let some : 0 < length g = omega (arith, eqb-false (length g) 0 z) in
    by_test (eqb (size - length g) 0)
    (λ q. let e : size - length g ≡ 0 = eqb-true _ _ q in simp (z, e) (rw append-nil k))
    (λ q. let two : 2 ≤ size - length g = omega (arith, eqb-false (size - length g) 0 q, size_even (get_or g 0 0), k.even) in
    let head : get_or (g ++ (a ∷ b ∷ [])) 0 0 ≡ get_or g 0 0 = get_or-append g (a ∷ b ∷ []) 0 0 some in
    simp (z, take_all (size - length g) (a ∷ b ∷ []) two)
    (record { even = rw length-append (omega (arith, k.even)); most = rw (length-append, head) (omega arith) })))

-- a start's two bytes are gathered
pub gathering_start : (a b : ℕ) → Gathering (take (packet_size a) (a ∷ b ∷ []))
gathering_start a b = rw (take_all (packet_size a) (a ∷ b ∷ []) (size_least a)) (record { even = refl; most = size_least a })

-- closed bytes become a packet within its limits, or none
pub closed_valid : (g : List ℕ) → every valid_packet (closed g) ≡ true
unfolding closed every
closed_valid g = by_reading (read_packet g) refl
  where
    by_reading : (o : Outcome Packet) → read_packet g ≡ o → every valid_packet (given_in o) ≡ true
    by_reading (gave p) e = and_both _ _ (facts_valid p (plain_valid g e)) refl
    by_reading (refused why) e = refl

-- and so do runs of bytes
pub packets_valid : (gs : List (List ℕ)) → every valid_packet (packets_of gs) ≡ true
unfolding packets_of every
packets_valid [] = refl
packets_valid (g ∷ gs) = every_append valid_packet (closed g) (packets_of gs) (closed_valid g) (packets_valid gs)

-- triples are gathered so
gather_right : (g : List ℕ) (ts : List Seen) → Gathering g → Gathering (gather g ts).bytes
unfolding gather
gather_right g [] k = k
gather_right g (start a b ∷ ts) k = gather_right (take (packet_size a) (a ∷ b ∷ [])) ts (gathering_start a b)
gather_right g (more a b ∷ ts) k = gather_right (g ++ take (wants g) (a ∷ b ∷ [])) ts (gathering_more g a b k)
gather_right g (first a b ∷ ts) k = gather_right g ts k
gather_right g (second a b ∷ ts) k = gather_right g ts k
gather_right g (void608 ∷ ts) k = gather_right g ts k
gather_right g (void708 ∷ ts) k = gather_right g ts k

-- at the frame's end those that want more are pending
ended_pending : (o : Gathered) → Gathering o.bytes → valid_pending (ended o).bytes ≡ true
unfolding ended valid_pending
ended_pending o r =
    by_cond (λ (x : Gathered). valid_pending x.bytes ≡ true) (eqb (wants o.bytes) 0) (λ _. refl) (λ e. gathering_pending o.bytes r (eqb-false _ _ e))

-- pending bytes that are kept or gathered to
pub gathered_pending : (pending : List ℕ) (ts : List Seen) → valid_pending pending ≡ true → valid_pending (gathered pending ts).bytes ≡ true
unfolding gathered
gathered_pending pending ts v =
    by_cond (λ (x : Gathered). valid_pending x.bytes ≡ true) (carries708 ts)
    (λ _. ended_pending (gather pending ts) (gather_right pending ts (pending_gathering pending v)))
    (λ _. v)

-- no more triples than there are bytes for
triples_few : (d : List ℕ) → 3 * length (seen_all (triples_in d)) ≤ length d
unfolding triples_in seen_all
triples_few [] = omega arith
triples_few (h ∷ []) = omega arith
triples_few (h ∷ a ∷ []) = omega arith
triples_few (h ∷ a ∷ b ∷ d) = omega (arith, triples_few d)

-- a list of pairs that is kept only where 608 is on
kept_pairs : (on : Bool) (ps : List Cea608) → length ps ≤ 31 → length (cond on ps []) ≤ 31
kept_pairs true ps h = h
kept_pairs false ps h = omega arith

kept_listed : (on : Bool) (ps : List Cea608) → on || eqb (length (cond on ps [])) 0 ≡ true
kept_listed true ps = refl
kept_listed false ps = refl

module _ (d : Demux) (f : DemuxLimits d) where
  -- another list of pairs
  relisted : (ps : List Cea608) → length ps ≤ 31 → valid_demux (with_pairs ps d) ≡ true
  relisted ps h = facts_demux (with_pairs ps d) (record { pairs = kept_pairs d.on608 ps h; listed = kept_listed d.on608 ps; waiting = f.waiting; packets = f.packets; pending = f.pending })

  -- what is gathered is taken, or 10
  taken_gathered : (ps : List Cea608) (o : Gathered) → length ps ≤ 31 → valid_pending o.bytes ≡ true → valid_demux (take_gathered ps o d).next ≡ true
  unfolding take_gathered
  taken_gathered ps o h k =
      by_cond (λ (t : Taken). valid_demux t.next ≡ true) (ltb 32 (length d.waiting + length (packets_of o.runs)))
      (λ _. facts_demux d f)
      (λ e. facts_demux _ (record {
        pairs = kept_pairs d.on608 ps h;
        listed = kept_listed d.on608 ps;
        waiting = rw length-append (ltb-false 32 (length d.waiting + length (packets_of o.runs)) e);
        packets = every_append valid_packet d.waiting (packets_of o.runs) f.packets (packets_valid o.runs);
        pending = k;
      }))

  -- the triples of a frame
  taken_triples : (ts : List Seen) (late : Option ℕ) → length ts ≤ 31 → valid_demux (take_triples ts late d).next ≡ true
  unfolding take_triples
  taken_triples ts (some at) h = relisted (pairs_in ts) (omega (arith, few_pairs ts))
  taken_triples ts none h = taken_gathered (pairs_in ts) (gathered d.pending ts) (omega (arith, few_pairs ts)) (gathered_pending d.pending ts f.pending)

-- any bytes fed as a frame
pub take_valid : (f : List ℕ) (d : Demux) → valid_demux d ≡ true → valid_demux (take_frame f d).next ≡ true
unfolding take_frame
take_valid f d v =
    let n : ℕ = count_in (get_or f 0 0) in
    let ts : List Seen = seen_all (triples_in (drop 2 f)) in
    let k = demux_facts d v in
    by_cond (λ (t : Taken). valid_demux t.next ≡ true) (unread f)
    (λ _. relisted d k [] (omega arith))
    (λ _. by_cond (λ (t : Taken). valid_demux t.next ≡ true) (eqb (length f) (3 * n + 2))
    (λ e. taken_triples d k ts (late_from 0 ts) (omega (arith, eqb-true (length f) (3 * n + 2) e, triples_few (drop 2 f), length-drop 2 f)))
    (λ _. relisted d k [] (omega arith)))
