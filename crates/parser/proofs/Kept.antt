-- What a caller may rely on: a fresh state is within the limits and every call keeps it there; each call means what the model's does; and
-- a frame finds a place where nothing waits. Assumes nothing.
use mathlib.Core.Path.{◌≡◌, refl, ap, ◌∙◌}
use mathlib.Core.List.{List}
use mathlib.Core.Bool.{true, false}
use mathlib.Core.Option.{Option, none, some}
use Prim.Native.Nat.{ℕ, ◌+◌, ◌*◌, ◌≤◌}
use native.Mathlib.Omega.{arith}
use lib.ListN.{length, get_or, length-append}
use lib.Dec.{eqb, ltb}
use borrow.Author.Tests.{eqb-true, le-ltb}
use Rattle.model.specs.Lists.{every, same}
use Rattle.model.specs.Said.{Said, full}
use Rattle.model.specs.Frame.{count_in}
use Rattle.model.specs.Demux as model
use Rattle.model.specs.Demux.{Demux, Taken, quiet, fresh_demux, turn608_on, packets_of, valid_pending, valid_demux, late_from, gathered, take_gathered, take_triples, unread, take_frame}
use Rattle.model.proofs.Cases.{by_cond}
use Rattle.model.proofs.Frames.{few_packets}
use Rattle.model.proofs.DemuxStates.{demux_facts, on_valid, take_valid, draw_valid}
use Rattle.parser_triples.specs.Walk.{seen_from}
use Rattle.parser_lists.specs.Pairs.{placed_all, pairs_of}
use Rattle.parser_triples.proofs.Found.{few_triples}
use Rattle.parser_rings.specs.Ring.{ring_from, with_runs}
use Rattle.parser.specs.Means.{means}
use Rattle.parser.specs.Valid.{in_order, valid}
use Rattle.parser.specs.Calls.{laid_in, fresh, head_after, laid_after}
use Rattle.parser.specs.After.{said_of, turned_on, pushed, drawn}
use Rattle.parser.specs.declared.CCDataParser.{CCDataParser}
use Rattle.parser.proofs.Valids.{Fine, valid_fine, fine_demux, waiting_count}
use Rattle.parser.proofs.Laid.{Sound, Stands, own_stands, laid_means, laid_same, laid_sound}
use Rattle.parser.proofs.Delivered.{frame_delivers, runs_stand}
use Rattle.parser.proofs.Firsts.{head_stays, drawn_stands}

-- a fresh state
pub fresh_sound : Sound fresh
unfolding fresh laid_in placed_all valid in_order same valid_demux valid_pending every ring_from means pairs_of packets_of
fresh_sound = record { valid = refl; shaped = record { pairs = refl; pending = refl; waiting = refl } }

-- it is the model's
pub means_fresh : means fresh ≡ fresh_demux
unfolding means fresh laid_in pairs_of packets_of ring_from
means_fresh = refl

-- the slots after a call hold the packets that the model's leaves
abbrev StandsAfter : CCDataParser → Taken → Type 0
StandsAfter p t =
    Stands (head_after p.waiting_first p.waiting_count (length t.next.waiting))
    (with_runs p.waiting_first p.waiting_count p.waiting t.runs) t.next.waiting

-- a state within the limits
module _ (p : CCDataParser) (s : Sound p) where
  -- its facts
  pub sound_fine : Fine p
  sound_fine = valid_fine p s.valid

  -- it means a demultiplexer within the model's limits
  pub sound_demux : valid_demux (means p) ≡ true
  sound_demux = fine_demux p sound_fine

  -- its slots stand
  stands : Stands p.waiting_first p.waiting (means p).waiting
  stands = own_stands p sound_fine s.shaped

  -- what a call leaves, by what the model's leaves and by its slots
  module _ (t : Taken) (v : valid_demux t.next ≡ true) (w : StandsAfter p t) where
    -- it is within the limits,
    after_sound : Sound (laid_after p t)
    unfolding laid_after
    after_sound = laid_sound p s.shaped _ _ t.next v w

    -- and means what the model's leaves
    after_means : means (laid_after p t) ≡ t.next
    unfolding laid_after
    after_means = laid_means p s.shaped _ _ t.next v w

  -- a call that leaves what was there leaves all as it is
  pub laid_still : laid_after p (quiet (means p)) ≡ p
  unfolding laid_after with_runs
  laid_still =
      rw (head_stays p.waiting_first p.waiting_count (length (means p).waiting) (omega (arith, waiting_count p sound_fine)))
      (laid_same p sound_fine s.shaped)

  -- 608 turned on
  on_stands : StandsAfter p (quiet (turn608_on (means p)))
  unfolding with_runs
  on_stands = rw (head_stays p.waiting_first p.waiting_count (length (means p).waiting) (omega (arith, waiting_count p sound_fine))) stands

  pub turned_sound : Sound (turned_on p)
  turned_sound = after_sound (quiet (turn608_on (means p))) (on_valid (means p) sound_demux) on_stands

  pub means_turned : means (turned_on p) ≡ turn608_on (means p)
  means_turned = after_means (quiet (turn608_on (means p))) (on_valid (means p) sound_demux) on_stands

  -- an item drawn
  pub drawn_sound : Sound (drawn p)
  unfolding with_runs
  drawn_sound = rw s.valid (after_sound (quiet (model.draw (means p)).next) (draw_valid (means p) sound_demux) (drawn_stands p sound_fine s.shaped))

  pub means_drawn : means (drawn p) ≡ (model.draw (means p)).next
  unfolding with_runs
  means_drawn = rw s.valid (after_means (quiet (model.draw (means p)).next) (draw_valid (means p) sound_demux) (drawn_stands p sound_fine s.shaped))

-- a frame
module _ (p : CCDataParser) (f : List ℕ) (s : Sound p) where
  abbrev taken : Taken
  taken = take_frame f (means p)

  taken_valid : valid_demux taken.next ≡ true
  taken_valid = take_valid f (means p) (sound_demux p s)

  -- no fewer packets wait than before
  pub frame_head : head_after p.waiting_first p.waiting_count (length taken.next.waiting) ≡ p.waiting_first
  frame_head =
      head_stays p.waiting_first p.waiting_count (length taken.next.waiting)
      (rw (frame_delivers (means p) f).waiting (omega (arith, length-append (means p).waiting (packets_of taken.runs), waiting_count p (sound_fine p s))))

  -- the slots stand with those that it delivers
  taken_stands : StandsAfter p taken
  taken_stands =
      let k = frame_delivers (means p) f in
      rw (frame_head, k.waiting)
      (runs_stand p.waiting_first p.waiting_count p.waiting (means p).waiting taken.runs k.read (waiting_count p (sound_fine p s)) (stands p s)
      (rw k.waiting at (demux_facts taken.next taken_valid).waiting))

  -- it keeps the limits,
  pub pushed_sound : Sound (pushed p f)
  pushed_sound = rw s.valid (after_sound p s taken taken_valid taken_stands)

  -- and means what the model says
  pub means_pushed : means (pushed p f) ≡ (take_frame f (means p)).next
  means_pushed = rw s.valid (after_means p s taken taken_valid taken_stands)

-- [F13] a frame is refused as Full if more than 32 packets would wait: it has at most 31 triples, and delivers one packet a triple and one at
-- its end
abbrev NotFull : Taken → Type 0
NotFull t = t.answer ≡ full → ⊥

-- another number is another answer
other : (s : Said) → (s.number ≡ 10 → ⊥) → s ≡ full → ⊥
other s n e = n (ap (λ (x : Said). x.number) e)

module _ (f : List ℕ) (d : Demux) (nothing : length d.waiting ≡ 0) where
  -- bytes gathered
  gathers_room : length f ≤ 95 → NotFull (take_gathered (model.pairs_in (seen_from 0 f)) (gathered d.pending (seen_from 0 f)) d)
  unfolding take_gathered
  gathers_room h =
      let few = few_packets d.pending (seen_from 0 f) in
      let many : ℕ = length d.waiting + length (packets_of (gathered d.pending (seen_from 0 f)).runs) in
      let n : ltb 32 many ≡ false = le-ltb 32 many (omega (arith, few, few_triples f h)) in
      rw n (other _ (λ z. omega arith))

  -- a frame with triples
  triples_room : length f ≤ 95 → (o : Option ℕ) → NotFull (take_triples (seen_from 0 f) o d)
  unfolding take_triples
  triples_room h none = gathers_room h
  triples_room h (some at) = other _ (λ z. omega arith)

  -- any frame
  pub frame_room : (take_frame f d).answer ≡ full → ⊥
  unfolding take_frame
  frame_room =
      by_cond NotFull (unread f) (λ _. other _ (λ z. omega arith))
      (λ _. by_cond NotFull (eqb (length f) (3 * count_in (get_or f 0 0) + 2))
      (λ e. triples_room (omega (arith, eqb-true (length f) (3 * count_in (get_or f 0 0) + 2) e)) (late_from 0 (seen_from 0 f)))
      (λ _. other _ (λ z. omega arith)))

-- from a state within the limits with nothing waiting no frame is refused for want of a place
pub never_full : (p : CCDataParser) (f : List ℕ) → Sound p → p.waiting_count ≡ 0 → said_of p (take_frame f (means p)) ≡ full → ⊥
never_full p f s z = rw s.valid (frame_room f (means p) (waiting_count p (sound_fine p s) ∙ z))
