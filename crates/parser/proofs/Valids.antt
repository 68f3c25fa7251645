-- Laws of the limits, one for each way out of a function, and the facts of a state within them. Assumes nothing.
use mathlib.Core.Path.{◌≡◌, refl, sym, ◌∙◌}
use mathlib.Core.List.{List, [], ◌∷◌, map}
use mathlib.Core.Bool.{Bool, true, false, ◌&&◌, ◌||◌}
use Prim.Native.Nat.{◌*◌, ◌≤◌}
use native.Mathlib.Omega.{arith}
use lib.ListN.{length, take, length-append}
use lib.Dec.{eqb, leb}
use borrow.Author.Tests.{le-leb, leb-true}
use Rattle.model.specs.Lists.{every, same}
use Rattle.model.specs.Packet.{reads}
use Rattle.model.specs.Demux.{closed, packets_of, valid_pending, valid_demux}
use Rattle.model.proofs.Cases.{both, and_both}
use Rattle.model.proofs.Lists.{same_true, same_self}
use Rattle.model.proofs.Frames.{closed_one}
use Rattle.model.proofs.DemuxStates.{demux_facts, facts_demux, packets_valid}
use Rattle.slots.specs.declared.Slot.{Slot}
use Rattle.parser_lists.specs.Pairs.{placed_all, pairs_of}
use Rattle.parser_rings.specs.Ring.{ring_from, slot_run, slot_fine}
use Rattle.parser_rings.specs.Tests.{ring_fine}
use Rattle.parser_gather.specs.Tests.{pending_fine}
use Rattle.parser_lists.proofs.Fields.{placed_again, again_placed, list_facts, facts_list, pairs_length}
use Rattle.parser_rings.proofs.Slots.{RingFine, ring_facts, facts_ring}
use Rattle.parser_gather.proofs.Pending.{fine_pending}
use Rattle.parser_rings.proofs.Rings.{ring_length}
use Rattle.parser.specs.Means.{means, Shaped}
use Rattle.parser.specs.Valid.{in_order, valid}
use Rattle.parser_lists.specs.Listing.{list_fine}
use Rattle.parser.specs.Tests.{fine}
use Rattle.parser.specs.declared.CCDataParser.{CCDataParser}

-- the facts of a state within the limits
pub record Fine (p : CCDataParser) : Type 0 where
  pub few : p.pair_count ≤ 31
  pub stand : placed_all (pairs_of p.pair_count p.pairs) ≡ take (3 * p.pair_count) p.pairs
  pub listed : p.cea608_on || eqb p.pair_count 0 ≡ true
  pub short : p.pending_len ≤ 128
  pub waits : valid_pending (take p.pending_len p.pending) ≡ true
  pub ring : RingFine p.waiting_first p.waiting_count p.waiting

-- slots that read hold a packet each
pub packets_length : (l : List Slot) → every slot_fine l ≡ true → length (packets_of (map slot_run l)) ≡ length l
unfolding packets_of every slot_fine
packets_length [] e = refl
packets_length (s ∷ l) e =
    let f = both (slot_fine s) (every slot_fine l) e in
    let g = both (leb s.len 128) (reads (slot_run s)) f.0 in
    omega (arith, length-append (closed (slot_run s)) (packets_of (map slot_run l)), closed_one (slot_run s) g.1, packets_length l f.1)

module _ (p : CCDataParser) where
  -- as many packets wait as the count says
  pub waiting_count : Fine p → length (means p).waiting ≡ p.waiting_count
  unfolding means
  waiting_count v = packets_length _ v.ring.reading ∙ ring_length p.waiting_count p.waiting_first p.waiting

  -- from the test
  pub valid_fine : valid p ≡ true → Fine p
  unfolding valid in_order means
  valid_fine e =
      let u = both (in_order p) (valid_demux (means p)) e in
      let l = both (same (placed_all (means p).pairs) (take (3 * p.pair_count) p.pairs)) _ u.0 in
      let r = both (leb p.pending_len 128) _ l.1 in
      let w = both (leb p.waiting_first 31) (every slot_fine (ring_from p.waiting_first p.waiting_count p.waiting)) r.1 in
      let d = demux_facts (means p) u.1 in
      let many = packets_length _ w.1 ∙ ring_length p.waiting_count p.waiting_first p.waiting in
      record {
        few = omega (arith, d.pairs, pairs_length p.pair_count p.pairs);
        stand = same_true _ _ l.0;
        listed = rw (pairs_length p.pair_count p.pairs) at d.listed;
        short = leb-true _ _ r.0;
        waits = d.pending;
        ring = record { first = leb-true _ _ w.0; count = omega (arith, d.waiting, many); reading = w.1 };
      }

  -- the model's limits hold then
  pub fine_demux : Fine p → valid_demux (means p) ≡ true
  unfolding means
  fine_demux v =
      facts_demux (means p)
      (record {
        pairs = omega (arith, pairs_length p.pair_count p.pairs, v.few);
        listed = rw (pairs_length p.pair_count p.pairs) v.listed;
        waiting = omega (arith, waiting_count v, v.ring.count);
        packets = packets_valid (map slot_run (ring_from p.waiting_first p.waiting_count p.waiting));
        pending = v.waits;
      })

  -- to the test
  pub fine_valid : Fine p → valid p ≡ true
  unfolding valid in_order means
  fine_valid v =
      and_both (in_order p) (valid_demux (means p)) (rw (v.stand, same_self (take (3 * p.pair_count) p.pairs), le-leb _ _ v.short, le-leb _ _ v.ring.first) v.ring.reading)
      (fine_demux v)

-- tests that hold together are equal
same_tests : (a b : Bool) → (a ≡ true → b ≡ true) → (b ≡ true → a ≡ true) → a ≡ b
same_tests true b f g = sym (f refl)
same_tests false false f g = refl
same_tests false true f g = g refl

-- the tests of a state whose arrays have their lengths
module _ (p : CCDataParser) (shaped : Shaped p) where
  pending : pending_fine p.pending_len p.pending ≡ leb p.pending_len 128 && valid_pending (take p.pending_len p.pending)
  pending = fine_pending p.pending_len p.pending shaped.pending

  room : p.pair_count ≤ 31 → 3 * p.pair_count ≤ length p.pairs
  room few = omega (arith, shaped.pairs)

  there : fine p ≡ true → valid p ≡ true
  unfolding fine
  there e =
      let u = both (list_fine p.cea608_on p.pair_count p.pairs) _ e in
      let r = both (pending_fine p.pending_len p.pending) _ u.1 in
      let w = both (leb p.pending_len 128) _ (sym pending ∙ r.0) in
      let f = list_facts p.cea608_on p.pair_count p.pairs u.0 in
      fine_valid p
      (record {
        few = f.0;
        stand = placed_again p.pair_count p.pairs f.1 (room f.0);
        listed = f.2;
        short = leb-true _ _ w.0;
        waits = w.1;
        ring = ring_facts _ _ _ r.1;
      })

  back : valid p ≡ true → fine p ≡ true
  unfolding fine
  back e =
      let v = valid_fine p e in
      let fields = again_placed p.pair_count p.pairs v.stand (room v.few) in
      rw (facts_list p.cea608_on p.pair_count p.pairs v.few fields v.listed, pending, le-leb _ _ v.short, v.waits) (facts_ring _ _ _ v.ring)

  -- they are the test of what it means
  tested : fine p ≡ valid p
  tested = same_tests _ _ there back

  -- the list breaks a limit,
  pub bad_list : false ≡ list_fine p.cea608_on p.pair_count p.pairs → false ≡ valid p
  unfolding fine
  bad_list e = (rw (← e)) ∙ tested

  module _ (listed : true ≡ list_fine p.cea608_on p.pair_count p.pairs) where
    -- or the pending bytes do,
    pub bad_pending : false ≡ pending_fine p.pending_len p.pending → false ≡ valid p
    unfolding fine
    bad_pending e = (rw (← listed, ← e)) ∙ tested

    -- or it is as the ring is
    pub by_ring : true ≡ pending_fine p.pending_len p.pending → (b : Bool) → b ≡ ring_fine p.waiting_first p.waiting_count p.waiting → b ≡ valid p
    unfolding fine
    by_ring e b q = (rw (← listed, ← e) q) ∙ tested
