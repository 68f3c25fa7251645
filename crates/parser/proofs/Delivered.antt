-- What a frame delivers in the model: the runs that it tells are the packets that it puts behind those that wait. Assumes nothing.
use mathlib.Core.Path.{◌≡◌, refl, sym, ap, ◌∙◌}
use mathlib.Core.List.{List, [], ◌∷◌, ◌++◌, map, append-nil}
use mathlib.Core.Option.{Option, none, some}
use Prim.Native.Nat.{ℕ, zero, suc, ◌+◌, ◌*◌, ◌≤◌}
use native.Mathlib.Omega.{arith}
use lib.ListN.{length, get_or, drop, length-append}
use lib.Dec.{eqb, ltb}
use borrow.Author.Tests.{ne_eqb}
use Rattle.model.specs.Lists.{every}
use Rattle.model.specs.Packet.{Packet}
use Rattle.model.specs.Frame.{Cea608, Seen, seen_all, triples_in, count_in}
use Rattle.model.specs.Demux.{Demux, Gathered, Taken, packets_of, pairs_in, late_from, gathered, take_gathered, take_triples, unread, take_frame}
use Rattle.model.proofs.Cases.{by_cond}
use Rattle.model.proofs.Lists.{every_append}
use Rattle.model.proofs.Frames.{Read, packets_append, packets_many, gathered_read}
use Rattle.model.proofs.Frames as frames
use Rattle.slots.specs.declared.Slot.{Slot}
use Rattle.parser_rings.specs.Ring.{ring_from, slot_run, slot_fine, set_round, cleared_for, with_runs}
use Rattle.parser_rings.proofs.Rings.{slot_of_run, round_length, ring_laid, runs_again, runs_fine}
use Rattle.parser.proofs.Laid.{Stands}

-- what a frame delivers to d
pub record Delivers (d : Demux) (t : Taken) : Type 0 where
  pub waiting : t.next.waiting ≡ d.waiting ++ packets_of t.runs
  pub read : Read t.runs

module _ (d : Demux) where
  -- none
  nothing : d.waiting ≡ d.waiting ++ packets_of []
  unfolding packets_of
  nothing = sym (append-nil d.waiting)

  -- what is gathered
  gathered_delivers : (ps : List Cea608) (o : Gathered) → Read o.runs → Delivers d (take_gathered ps o d)
  unfolding take_gathered
  gathered_delivers ps o r =
      by_cond (Delivers d) (ltb 32 (length d.waiting + length (packets_of o.runs)))
      (λ _. record { waiting = nothing; read = frames.none })
      (λ _. record { waiting = refl; read = r })

  -- the triples of a frame
  triples_deliver : (ts : List Seen) (late : Option ℕ) → Delivers d (take_triples ts late d)
  unfolding take_triples
  triples_deliver ts none = gathered_delivers (pairs_in ts) (gathered d.pending ts) (gathered_read d.pending ts)
  triples_deliver ts (some at) = record { waiting = nothing; read = frames.none }

  -- any bytes fed as a frame
  pub frame_delivers : (f : List ℕ) → Delivers d (take_frame f d)
  unfolding take_frame
  frame_delivers f =
      by_cond (Delivers d) (unread f)
      (λ _. record { waiting = nothing; read = frames.none })
      (λ _. by_cond (Delivers d) (eqb (length f) (3 * count_in (get_or f 0 0) + 2))
      (λ _. triples_deliver (seen_all (triples_in (drop 2 f))) (late_from 0 (seen_all (triples_in (drop 2 f)))))
      (λ _. record { waiting = nothing; read = frames.none }))

-- the runs of slots, and of others behind them
runs_append : (l m : List Slot) → map slot_run (l ++ m) ≡ map slot_run l ++ map slot_run m
runs_append [] m = refl
runs_append (s ∷ l) m = rw (runs_append l m)

-- runs laid behind the slots that wait, together no more than 32
module _ (f n : ℕ) (l : List Slot) (ps : List Packet) (gs : List (List ℕ)) (r : Read gs) (counted : length ps ≡ n) (old : Stands f l ps) (room : length (ps ++ packets_of gs) ≤ 32) where
  -- as many packets
  many : length (ps ++ packets_of gs) ≡ n + length gs
  many = omega (arith, length-append ps (packets_of gs), packets_many r, counted)

  -- the ring is these slots
  laid_ring : ring_from f (length (ps ++ packets_of gs)) (set_round (f + n) l gs) ≡ ring_from f n l ++ map slot_of_run gs
  laid_ring = rw many (ring_laid n f l gs (omega (arith, many)) old.places)

  -- it stands
  delivered_stands : Stands f (set_round (f + n) l gs) (ps ++ packets_of gs)
  delivered_stands =
      record {
        first = old.first;
        places = round_length (f + n) l gs ∙ old.places;
        reading = rw laid_ring (every_append slot_fine (ring_from f n l) (map slot_of_run gs) (rw counted at old.reading) (runs_fine r));
        packets =
            rw (laid_ring, runs_append (ring_from f n l) (map slot_of_run gs), runs_again r, packets_append (map slot_run (ring_from f n l)) gs)
            (ap (λ (x : List Packet). x ++ packets_of gs) (rw counted at old.packets));
      }

-- the slots that runs come to stand as those that wait do
cleared_stands : (f n : ℕ) (l : List Slot) (ps : List Packet) → length ps ≡ n → Stands f l ps → Stands f (cleared_for n l) ps
unfolding cleared_for ring_from packets_of every
cleared_stands f zero l [] e s = record { first = s.first; places = refl; reading = refl; packets = refl }
cleared_stands f zero l (p ∷ ps) e s = absurd (omega arith)
cleared_stands f (suc n) l ps e s = rw (ne_eqb (suc n) 0 (λ z. omega arith)) s

-- runs behind the slots that wait, cleared ones where none does
pub runs_stand : (f n : ℕ) (l : List Slot) (ps : List Packet) (gs : List (List ℕ)) → Read gs → length ps ≡ n → Stands f l ps → length (ps ++ packets_of gs) ≤ 32
    → Stands f (with_runs f n l gs) (ps ++ packets_of gs)
unfolding with_runs packets_of
runs_stand f n l ps [] r c s room = rw (append-nil ps) s
runs_stand f n l ps (g ∷ gs) r c s room = delivered_stands f n (cleared_for n l) ps (g ∷ gs) r c (cleared_stands f n l ps c s) room
