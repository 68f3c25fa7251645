-- A list of pairs without its first pair, a ring without its first slot, and the packet of a slot. Assumes nothing.
use mathlib.Core.Path.{◌≡◌, refl, sym, ap, ◌∙◌}
use mathlib.Core.List.{List, [], ◌∷◌, map}
use mathlib.Core.Bool.{Bool, true, false, cond}
use Prim.Native.Nat.{ℕ, suc, ◌+◌, ◌-◌, ◌*◌, ◌%◌, ◌≤◌}
use native.Mathlib.Omega.{arith}
use lib.ListN.{length, get_or, take, drop, length-drop}
use lib.Seq.{sets, length-take-le}
use lib.Dec.{eqb, leb}
use borrow.Author.Tests.{ne_eqb, lt-ltb, le-ltb, eqb-true, eqb-false}
use Rattle.model.specs.Lists.{every}
use Rattle.caption.specs.declared.Cea608.TheVariants.{Field1, Field2}
use Rattle.parser.specs.Items.{pair_of}
use Rattle.model.specs.Said.{gave}
use Rattle.model.specs.Packet.{Packet, read_packet, reads}
use Rattle.model.specs.Frame.{Cea608, field1, field2, pair}
use Rattle.model.specs.Demux as model
use Rattle.model.specs.Demux.{Demux, closed, packets_of}
use Rattle.model.proofs.Cases.{by_test, both, given_is}
use Rattle.slots.specs.Slot.{no_slot}
use Rattle.slots.specs.declared.Slot.{Slot}
use Rattle.parser_lists.specs.Pairs.{placed_all, pair_at, pairs_of}
use Rattle.parser_rings.specs.Ring.{ring_from, slot_run, slot_fine}
use Rattle.parser_lists.specs.Listing.{fields_fine}
use Rattle.parser_lists.proofs.Fields.{placed_again}
use Rattle.parser_rings.proofs.Rings.{ring_round}
use Rattle.parser_rings.proofs.Places.{sets_first}
use Rattle.parser.specs.Means.{means, Shaped}
use Rattle.parser.specs.Calls.{head_after}
use Rattle.parser_draws.specs.Take.{slid, next_head, first_pair}
use Rattle.parser.specs.declared.CCDataParser.{CCDataParser}
use Rattle.parser.proofs.Valids.{Fine, waiting_count}
use Rattle.parser.proofs.Laid.{Stands, own_stands}

-- a list without its first pair
module _ (l : List ℕ) (k : ℕ) (some : k ≡ 0 → ⊥) where
  -- a count that is not 0
  one_more : k ≡ suc (k - 1)
  one_more = omega (arith, some)

  -- the pairs are the first one and the others
  pub pairs_drawn : pairs_of k l ≡ pair_at l ∷ pairs_of (k - 1) (drop 3 l)
  unfolding pairs_of
  pairs_drawn = ap (λ (n : ℕ). pairs_of n l) one_more

  -- the others moved down are laid over the places
  pub pairs_slid : fields_fine k l ≡ true → 3 * k ≤ length l → slid 3 (3 * (k - 1)) l ≡ sets l 0 (placed_all (pairs_of (k - 1) (drop 3 l)))
  unfolding slid fields_fine
  pairs_slid e h =
      let f = both (leb (get_or l 0 0) 1) (fields_fine (k - 1) (drop 3 l)) (ap (λ (n : ℕ). fields_fine n l) (sym one_more) ∙ e) in
      let room : 3 * (k - 1) ≤ length (drop 3 l) = rw length-drop (omega (arith, some)) in
      let many : length (take (3 * (k - 1)) (drop 3 l)) ≡ 3 * (k - 1) = length-take-le (3 * (k - 1)) (drop 3 l) room in
      rw (placed_again (k - 1) (drop 3 l) f.1 room, sets_first l (take (3 * (k - 1)) (drop 3 l)) (omega (arith, some)), many)

-- the pair is the one that the model draws
pub pair_drawn : (l : List ℕ) → first_pair l ≡ pair_of (pair_at l)
unfolding first_pair
pair_drawn l = by (eqb (get_or l 0 0) 0)
  where
    by : (b : Bool) → cond b (Field1 (get_or l 1 0) (get_or l 2 0)) (Field2 (get_or l 1 0) (get_or l 2 0))
        ≡ pair_of (cond b (field1 (pair (get_or l 1 0) (get_or l 2 0))) (field2 (pair (get_or l 1 0) (get_or l 2 0))))
    by true = refl
    by false = refl

-- a ring without its first slot
module _ (l : List Slot) (first n : ℕ) (some : n ≡ 0 → ⊥) (within : first ≤ 31) where
  -- the slots are the first one and the others
  pub ring_drawn : ring_from first n l ≡ get_or l first no_slot ∷ ring_from (next_head first n) (n - 1) l
  unfolding ring_from next_head
  ring_drawn =
      let z : first % 32 ≡ first = omega arith in
      by_test (eqb n 1)
      (λ t. let e : n ≡ suc 0 = eqb-true n 1 t in rw (e, z))
      (λ t. let e : n ≡ suc (n - 1) = omega (arith, some) in
      rw t (ap (λ (k : ℕ). ring_from first k l) e ∙ rw (z, ring_round (n - 1) (first + 1) ((first + 1) % 32) l (omega arith))))

  -- and the next place is one of 32
  next_within : next_head first n ≤ 31
  unfolding next_head
  next_within = by_test (eqb n 1) (λ t. rw t (omega arith)) (λ t. rw t (omega arith))

-- the ring's head where so many waited and n wait
module _ (first waited n : ℕ) where
  -- no fewer than before
  pub head_stays : waited ≤ n → head_after first waited n ≡ first
  unfolding head_after
  head_stays h = rw (le-ltb n waited h)

  -- one fewer
  pub head_moves : waited ≡ suc n → head_after first waited n ≡ next_head first waited
  unfolding head_after next_head
  head_moves e =
      rw (lt-ltb n waited (omega arith))
      (by_test (eqb n 0)
      (λ t. let z : n ≡ 0 = eqb-true _ _ t in let o : waited ≡ 1 = omega arith in rw (z, o))
      (λ t. rw (t, ne_eqb waited 1 (λ o. omega (arith, eqb-false n 0 t)))))

-- a slot within the limits is a packet
pub slot_read : (s : Slot) → slot_fine s ≡ true → (q : Packet) × (read_packet (slot_run s) ≡ gave q)
unfolding slot_fine reads
slot_read s e = given_is _ (both (leb s.len 128) _ e).1

-- drawing an item leaves the slots behind it
module _ (p : CCDataParser) (v : Fine p) (s : Shaped p) where
  -- a packet is drawn
  taken_stands : (q : Packet) (ps : List Packet) → (means p).waiting ≡ q ∷ ps → Stands (next_head p.waiting_first p.waiting_count) p.waiting ps
  unfolding means every packets_of closed
  taken_stands q ps e =
      let many : p.waiting_count ≡ suc (length ps) = sym (waiting_count p v) ∙ ap length e in
      let some : p.waiting_count ≡ 0 → ⊥ = λ z. omega arith in
      let one : p.waiting_count - 1 ≡ length ps = omega arith in
      let others : List Slot = ring_from (next_head p.waiting_first p.waiting_count) (length ps) p.waiting in
      let head : Slot = get_or p.waiting p.waiting_first no_slot in
      let ring : ring_from p.waiting_first p.waiting_count p.waiting ≡ head ∷ others =
      rw one at (ring_drawn p.waiting p.waiting_first p.waiting_count some v.ring.first) in
      let fine = both (slot_fine head) (every slot_fine others) (ap (every slot_fine) (sym ring) ∙ v.ring.reading) in
      let k = slot_read head fine.0 in
      let same : k.0 ∷ packets_of (map slot_run others) ≡ q ∷ ps = rw k.1 at (ap (λ (l : List Slot). packets_of (map slot_run l)) (sym ring) ∙ e) in
      record {
        first = next_within p.waiting p.waiting_first p.waiting_count some v.ring.first;
        places = s.waiting;
        reading = fine.1;
        packets = ap (λ (l : List Packet). drop 1 l) same;
      }

  -- whichever item
  pub drawn_stands : Stands (head_after p.waiting_first p.waiting_count (length (model.draw (means p)).next.waiting)) p.waiting (model.draw (means p)).next.waiting
  unfolding model.draw
  drawn_stands = by (means p).pairs (means p).waiting refl
    where
      stays : (ps : List Packet) → (means p).waiting ≡ ps → Stands (head_after p.waiting_first p.waiting_count (length ps)) p.waiting ps
      stays ps e = rw (head_stays p.waiting_first p.waiting_count (length ps) (omega (arith, waiting_count p v, ap length e))) (rw e at (own_stands p v s))

      by : (xs : List Cea608) (ps : List Packet) → (means p).waiting ≡ ps
          → (let d : Demux = record { on608 = (means p).on608; pairs = xs; pending = (means p).pending; waiting = ps } in
          Stands (head_after p.waiting_first p.waiting_count (length (model.draw d).next.waiting)) p.waiting (model.draw d).next.waiting)
      by (x ∷ xs) ps e = stays ps e
      by [] (q ∷ ps) e = rw (head_moves p.waiting_first p.waiting_count (length ps) (sym (waiting_count p v) ∙ ap length e)) (taken_stands q ps e)
      by [] [] e = stays [] e
