-- A demultiplexer of the model laid over the places of a state: it means that, and is within the limits. Assumes nothing.
use mathlib.Core.Path.{◌≡◌, sym, ◌∙◌}
use mathlib.Core.List.{List, map}
use mathlib.Core.Bool.{true}
use Prim.Native.Nat.{ℕ, ◌*◌, ◌≤◌}
use native.Mathlib.Omega.{arith}
use lib.ListN.{length, get_or, take, drop}
use lib.Seq.{sets, length-sets, length-take-le}
use Rattle.model.specs.Lists.{every}
use Rattle.model.specs.Packet.{Packet}
use Rattle.model.specs.Demux.{Demux, packets_of, valid_demux}
use Rattle.model.proofs.DemuxStates.{demux_facts, pending_gathering}
use Rattle.model.proofs.Limits.{size_most}
use Rattle.slots.specs.declared.Slot.{Slot}
use Rattle.parser_lists.specs.Pairs.{placed_all, pairs_of}
use Rattle.parser_lists.proofs.Placed.{placed_length, pairs_placed}
use Rattle.parser_rings.specs.Ring.{ring_from, slot_run, slot_fine}
use Rattle.parser_rings.proofs.Places.{sets_first, take_sets, sets_same}
use Rattle.parser.specs.Means.{means, Shaped}
use Rattle.parser.specs.Valid.{valid}
use Rattle.parser.specs.Calls.{laid_in}
use Rattle.parser.specs.declared.CCDataParser.{CCDataParser}
use Rattle.parser.proofs.Valids.{Fine, waiting_count, fine_valid}
use Rattle.parser_lists.proofs.Fields.{pairs_length}

-- the slots of a ring from a place on hold the packets
pub record Stands (f : ℕ) (slots : List Slot) (ps : List Packet) : Type 0 where
  pub first : f ≤ 31
  pub places : length slots ≡ 32
  pub reading : every slot_fine (ring_from f (length ps) slots) ≡ true
  pub packets : packets_of (map slot_run (ring_from f (length ps) slots)) ≡ ps

-- a state within the limits, its arrays of their lengths
pub record Sound (p : CCDataParser) : Type 0 where
  pub valid : valid p ≡ true
  pub shaped : Shaped p

-- what was laid
module _ (p : CCDataParser) (s : Shaped p) (first : ℕ) (slots : List Slot) (d : Demux) (v : valid_demux d ≡ true) (w : Stands first slots d.waiting) where
  -- the pairs have places,
  pairs_room : length (placed_all d.pairs) ≤ length p.pairs
  pairs_room = omega (arith, placed_length d.pairs, (demux_facts d v).pairs, s.pairs)

  -- and so have the pending bytes
  pending_short : length d.pending ≤ 128
  pending_short = omega (arith, (pending_gathering d.pending (demux_facts d v).pending).most, size_most (get_or d.pending 0 0))

  -- the pairs are found again
  pairs_back : pairs_of (length d.pairs) (sets p.pairs 0 (placed_all d.pairs)) ≡ d.pairs
  pairs_back = rw (sets_first p.pairs (placed_all d.pairs) pairs_room) (pairs_placed d.pairs (drop (length (placed_all d.pairs)) p.pairs))

  -- it means what was laid
  pub laid_means : means (laid_in p.pairs p.pending first slots d) ≡ d
  unfolding means laid_in
  laid_means =
      rw (pairs_back, take_sets p.pending d.pending (omega (arith, pending_short, s.pending)), w.packets)

  -- it has the facts of a state within the limits
  laid_fine : Fine (laid_in p.pairs p.pending first slots d)
  unfolding laid_in
  laid_fine =
      let f = demux_facts d v in
      record {
        few = f.pairs;
        stand = rw (pairs_back, ← placed_length d.pairs) (sym (take_sets p.pairs (placed_all d.pairs) pairs_room));
        listed = f.listed;
        short = pending_short;
        waits = rw (take_sets p.pending d.pending (omega (arith, pending_short, s.pending))) f.pending;
        ring = record { first = w.first; count = f.waiting; reading = w.reading };
      }

  -- its arrays have their lengths
  laid_shaped : Shaped (laid_in p.pairs p.pending first slots d)
  unfolding laid_in
  laid_shaped = record { pairs = length-sets p.pairs 0 (placed_all d.pairs) ∙ s.pairs; pending = length-sets p.pending 0 d.pending ∙ s.pending; waiting = w.places }

  -- so it is within the limits
  pub laid_sound : Sound (laid_in p.pairs p.pending first slots d)
  laid_sound = record { valid = fine_valid (laid_in p.pairs p.pending first slots d) laid_fine; shaped = laid_shaped }

-- what a state means, laid over its own places
module _ (p : CCDataParser) (v : Fine p) (s : Shaped p) where
  -- its pairs
  pub pairs_same : sets p.pairs 0 (placed_all (pairs_of p.pair_count p.pairs)) ≡ p.pairs
  pairs_same =
      let room : 3 * p.pair_count ≤ length p.pairs = omega (arith, v.few, s.pairs) in
      rw v.stand (sets_same p.pairs (3 * p.pair_count) room)

  -- its pending bytes
  pub pending_many : length (take p.pending_len p.pending) ≡ p.pending_len
  pending_many = length-take-le p.pending_len p.pending (omega (arith, v.short, s.pending))

  pub pending_same : sets p.pending 0 (take p.pending_len p.pending) ≡ p.pending
  pending_same = sets_same p.pending p.pending_len (omega (arith, v.short, s.pending))

  -- its slots
  pub own_stands : Stands p.waiting_first p.waiting (means p).waiting
  unfolding means
  own_stands = record { first = v.ring.first; places = s.waiting; reading = rw (waiting_count p v) v.ring.reading; packets = rw (waiting_count p v) }

  -- all is as it was
  pub laid_same : laid_in p.pairs p.pending p.waiting_first p.waiting (means p) ≡ p
  unfolding laid_in means
  laid_same = rw (pairs_length p.pair_count p.pairs, pairs_same, pending_many, pending_same, waiting_count p v)
