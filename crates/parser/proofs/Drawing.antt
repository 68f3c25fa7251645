-- Drawing gives what the model's demultiplexer gives, and leaves what is laid over the places. Assumes nothing.
use mathlib.Core.Path.{◌≡◌, refl, sym, ap, ◌∙◌}
use mathlib.Core.List.{List, ◌∷◌, map}
use mathlib.Core.Bool.{true, false, true≢false}
use Prim.Native.Nat.{◌-◌, ◌*◌, ◌≤◌}
use native.Mathlib.Omega.{arith}
use lib.ListN.{length, get_or, drop}
use lib.Dec.{eqb}
use borrow.Author.Tests.{eqb-true, eqb-false}
use Rattle.std.specs.Prelude.{Result, Ok, Err}
use Rattle.caption.specs.declared.Refusal.{Refusal}
use Rattle.caption.specs.declared.Refusal.TheVariants.{BadValue}
use Rattle.caption.specs.Answers.{outcome, said}
use Rattle.model.specs.Lists.{every}
use Rattle.model.specs.Said.{says_with}
use Rattle.model.specs.Packet.{no_packet}
use Rattle.model.specs.Demux as model
use Rattle.model.specs.Demux.{quiet, closed, packets_of, item_values}
use Rattle.model.proofs.Cases.{by_test, both}
use Rattle.packet.specs.Packet.{laid}
use Rattle.slots.specs.Slot.{no_slot}
use Rattle.slots.specs.declared.Slot.{Slot}
use Rattle.parser_lists.specs.Pairs.{placed_all, pairs_of}
use Rattle.parser_rings.specs.Ring.{ring_from, slot_run, slot_fine, with_runs}
use Rattle.parser_lists.proofs.Fields.{again_placed, pairs_length}
use Rattle.parser_rings.proofs.Rings.{ring_length}
use Rattle.parser_draws.specs.Take.{slid, first_pair, next_head, packet_at, has_pair, has_packet}
use Rattle.parser_draws.proofs.Draws.{pair_some, has_some, packet_some, has_waiting}
use Rattle.parser.specs.Means.{means, Shaped}
use Rattle.parser.specs.Valid.{valid}
use Rattle.parser.specs.Calls.{laid_in, laid_after}
use Rattle.parser.specs.After.{left_by, asked, drawn}
use Rattle.parser.specs.Items.{drawn_values, drawn_of}
use Rattle.parser.specs.declared.CCDataParser.{CCDataParser}
use Rattle.parser.specs.declared.Drawn.{Drawn}
use Rattle.parser.specs.declared.Item.TheVariants.{Pair, Packet, Nothing}
use Rattle.parser.proofs.Items.{item_says}
use Rattle.parser.proofs.Valids.{Fine, valid_fine, packets_length, waiting_count}
use Rattle.parser.proofs.Laid.{pending_many, pending_same}
use Rattle.parser.proofs.Firsts.{head_stays, head_moves, pairs_drawn, pairs_slid, pair_drawn, ring_drawn, slot_read}
use Rattle.parser.proofs.Kept.{means_drawn}

-- a state without the first pair of its list,
abbrev pub without_pair : CCDataParser → CCDataParser
without_pair p = record p { pair_count = p.pair_count - 1; pairs = slid 3 (3 * (p.pair_count - 1)) p.pairs }

-- and without the packet at the head of its ring
abbrev pub without_packet : CCDataParser → CCDataParser
without_packet p = record p { waiting_first = next_head p.waiting_first p.waiting_count; waiting_count = p.waiting_count - 1 }

-- what is told of an item that is taken from p, with its packet beside it, and of what is left
record Tells (p : CCDataParser) (x : Drawn) (q : CCDataParser) (d : model.Drawn) : Type 0 where
  drawn : x ≡ drawn_of d.item
  places : q ≡ laid_after p (quiet d.next)

module _ (p : CCDataParser) (v : Fine p) (s : Shaped p) where
  -- a pair
  told_pair : (p.pair_count ≡ 0 → ⊥) → Tells p (record { item = Pair (first_pair p.pairs); packet = laid no_packet }) (without_pair p) (model.draw (means p))
  unfolding model.draw means laid_after laid_in with_runs
  told_pair n =
      let room : 3 * p.pair_count ≤ length p.pairs = omega (arith, v.few, s.pairs) in
      rw (pairs_drawn p.pairs p.pair_count n)
      (record {
        drawn = ap (λ x. record { item = Pair x; packet = laid no_packet }) (pair_drawn p.pairs);
        places =
            rw (
              pairs_length (p.pair_count - 1) (drop 3 p.pairs),
              ← pairs_slid p.pairs p.pair_count n (again_placed p.pair_count p.pairs v.stand room) room,
              pending_many p v s,
              pending_same p v s,
              waiting_count p v,
              head_stays p.waiting_first p.waiting_count p.waiting_count (omega arith),
            );
      })

  -- the slots that wait, by the first
  module _ (n : p.waiting_count ≡ 0 → ⊥) where
    -- the first slot
    abbrev slot : Slot
    slot = get_or p.waiting p.waiting_first no_slot

    -- the others
    abbrev others : List Slot
    others = ring_from (next_head p.waiting_first p.waiting_count) (p.waiting_count - 1) p.waiting

    -- the ring is these
    ring_is : ring_from p.waiting_first p.waiting_count p.waiting ≡ slot ∷ others
    ring_is = ring_drawn p.waiting p.waiting_first p.waiting_count n v.ring.first

    -- they read
    reading : (slot_fine slot ≡ true) × (every slot_fine others ≡ true)
    unfolding every
    reading = both (slot_fine slot) (every slot_fine others) (ap (every slot_fine) (sym ring_is) ∙ v.ring.reading)

    -- so many packets are left
    left : length (packets_of (map slot_run others)) ≡ p.waiting_count - 1
    left = packets_length others reading.1 ∙ ring_length (p.waiting_count - 1) (next_head p.waiting_first p.waiting_count) p.waiting

    -- a packet
    told_packet : p.pair_count ≡ 0 → Tells p (record { item = Packet; packet = packet_at (slot_run slot) }) (without_packet p) (model.draw (means p))
    unfolding model.draw means laid_after laid_in with_runs packets_of closed packet_at pairs_of placed_all
    told_packet z =
        let q = slot_read slot reading.0 in
        rw (ring_is, z, q.1)
        (record {
          drawn = refl;
          places = rw (pending_many p v s, pending_same p v s, left, head_moves p.waiting_first p.waiting_count (p.waiting_count - 1) (omega (arith, n)));
        })

  -- nothing is left
  told_nothing : p.pair_count ≡ 0 → p.waiting_count ≡ 0 → Tells p (record { item = Nothing; packet = laid no_packet }) (record p { pair_count = p.pair_count; waiting_count = p.waiting_count }) (model.draw (means p))
  unfolding model.draw means laid_after laid_in with_runs packets_of pairs_of ring_from placed_all
  told_nothing z y = rw (z, y) (record { drawn = refl; places = rw (pending_many p v s, pending_same p v s, head_stays p.waiting_first 0 0 (omega arith)) })

-- what is promised of a draw that answers r and leaves q
pub record Draws (p : CCDataParser) (r : Result Drawn Refusal) (q : CCDataParser) : Type 0 where
  pub answer : said drawn_values r ≡ says_with item_values (asked p (λ d. (model.draw d).item))
  pub drawn : outcome r ≡ asked p (λ d. drawn_of (model.draw d).item)
  pub state : valid p ≡ true → means q ≡ (model.draw (means p)).next
  pub places : q ≡ left_by (laid_after p) p (quiet (model.draw (means p)).next)

-- from any state
module _ (p : CCDataParser) (s : Shaped p) where
  -- one that breaks a limit is refused
  pub draw_bad : false ≡ valid p → Draws p (Err BadValue) p
  draw_bad e = record { answer = rw (← e); drawn = rw (← e); state = λ z. absurd (true≢false (sym z ∙ sym e)); places = rw (← e) }

  module _ (e : true ≡ valid p) where
    here : Fine p
    here = valid_fine p (sym e)

    by_told : (x : Drawn) (q : CCDataParser) → Tells p x q (model.draw (means p)) → Draws p (Ok x) q
    by_told x q t =
        let w : q ≡ drawn p = t.places ∙ rw (← e) in
        record {
          answer = rw (← e, t.drawn, item_says (model.draw (means p)).item);
          drawn = rw (← e, t.drawn);
          state = λ _. rw w (means_drawn p (record { valid = sym e; shaped = s }));
          places = w;
        }

    -- a list that has a pair gives it,
    pub draw_pair : has_pair p.pair_count ≡ true → Draws p (Ok (record { item = Pair (first_pair p.pairs); packet = laid no_packet })) (without_pair p)
    draw_pair h = by_told _ _ (told_pair p here s (has_some p.pair_count h))

    -- and one that has none is empty
    no_pair : has_pair p.pair_count ≡ false → p.pair_count ≡ 0
    no_pair h = by_test (eqb p.pair_count 0) (λ t. eqb-true _ _ t) (λ t. absurd (true≢false (sym (pair_some p.pair_count (eqb-false _ _ t) here.few) ∙ h)))

    module _ (none : has_pair p.pair_count ≡ false) where
      -- a ring that has a packet gives it,
      pub draw_packet : has_packet p.waiting_first p.waiting_count p.waiting ≡ true
          → Draws p (Ok (record { item = Packet; packet = packet_at (slot_run (get_or p.waiting p.waiting_first no_slot)) })) (without_packet p)
      draw_packet h = by_told _ _ (told_packet p here s (has_waiting p.waiting_first p.waiting_count p.waiting h) (no_pair none))

      -- and one that has none is empty
      no_packet_waits : has_packet p.waiting_first p.waiting_count p.waiting ≡ false → p.waiting_count ≡ 0
      no_packet_waits h =
          by_test (eqb p.waiting_count 0) (λ t. eqb-true _ _ t)
          (λ t. let n : p.waiting_count ≡ 0 → ⊥ = eqb-false _ _ t in
          absurd (true≢false (sym (packet_some p.waiting_first p.waiting_count p.waiting n here.ring.first (reading p here s n).0) ∙ h)))

      pub draw_nothing : has_packet p.waiting_first p.waiting_count p.waiting ≡ false → Draws p (Ok (record { item = Nothing; packet = laid no_packet })) p
      draw_nothing h = by_told _ _ (told_nothing p here s (no_pair none) (no_packet_waits h))
