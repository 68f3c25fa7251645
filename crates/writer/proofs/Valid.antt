-- The places in order are those of a multiplexer within its limits: with carried parts within theirs the test of the places is the whole test. Assumes nothing.
use mathlib.Core.Path.{◌≡◌, refl, sym, ap, ◌∙◌}
use mathlib.Core.Bool.{Bool, true, false, ◌&&◌, ◌||◌, false≢true}
use mathlib.Core.List.{List, [], ◌∷◌}
use Prim.Native.Nat.{ℕ, zero, suc, ◌*◌, ◌%◌, ◌≤◌, ◌<◌}
use native.Mathlib.Omega.{arith}
use borrow.Author.Tests.{eqb-true, le-leb, lt-leb, leb-true, leb-false}
use lib.Dec.{eqb, leb}
use lib.ListN.{length, take, get_or, length-map}
use lib.Seq.{length-take-le}
use Rattle.model.specs.Lists.{every}
use Rattle.model.specs.Said.{gave}
use Rattle.model.specs.Rate.{valid_carry, Share}
use Rattle.model.specs.Mux.{storable, valid_mux, share_at}
use Rattle.model.proofs.Cases.{by_test, both, and_both}
use Rattle.model.proofs.Carrying.{Shared, share_given}
use Rattle.model.proofs.MuxStates.{mux_facts, facts_mux}
use Rattle.caption.specs.declared.Framerate.{Framerate}
use Rattle.writer_queues.proofs.Queues.{Sized, queue_length}
use Rattle.writer_shares.specs.Share.{carry_of}
use Rattle.slots.specs.Slot.{no_slot, written_length, written_bytes, read_slot, written_slot}
use Rattle.slots.specs.Walk.{Carries}
use Rattle.slots.proofs.Written.{carried, carried_storable}
use Rattle.slots.specs.declared.Slot.{Slot}
use Rattle.slots.specs.Row.{valid_sending, valid_slots}
use Rattle.slots.proofs.Row.{and_false}
pub use Rattle.writer.specs.Writer.{Shaped}
use Rattle.writer.specs.Writer.{means, in_order, valid_writer}
use Rattle.writer_sending.proofs.Triples.{Held, left_length}
use Rattle.writer_sending.proofs.Sends.{read_slots}
use Rattle.writer.specs.declared.CCDataWriter.{CCDataWriter}

-- each slot passes
pub all_each : (l : List Slot) → every written_slot l ≡ true → (i : ℕ) → i < length l → written_slot (get_or l i no_slot) ≡ true
unfolding every
all_each [] e i h = absurd (omega arith)
all_each (s ∷ l) e zero h = (both (written_slot s) (every written_slot l) e).0
all_each (s ∷ l) e (suc i) h = all_each l (both (written_slot s) (every written_slot l) e).1 i (omega arith)

-- each packet may be queued
all_storable : (l : List Slot) → every written_slot l ≡ true → every storable (read_slots l) ≡ true
unfolding every
all_storable [] e = refl
all_storable (s ∷ l) e = let t = both (written_slot s) (every written_slot l) e in and_both _ _ (carried_storable s t.0) (all_storable l t.1)

-- a test and one that passes
and_true : (b : Bool) → b && true ≡ b
and_true true = refl
and_true false = refl

-- a packet being sent that passes its test is within the limits
pub held_facts : (s : Slot) (sent : ℕ) → valid_sending s sent ≡ true → Held s sent
unfolding valid_sending written_bytes
held_facts s sent e =
    let t = both (eqb s.len 0 || written_slot s) (eqb (sent % 2) 0 && leb sent (written_length s)) e in
    let u = both (eqb (sent % 2) 0) (leb sent (written_length s)) t.1 in
    let v : sent % 2 ≡ 0 = eqb-true (sent % 2) 0 u.0 in
    let w : sent ≤ written_length s = leb-true sent (written_length s) u.1 in
    by_test (eqb s.len 0)
    (λ z. let y : s.len ≡ 0 = eqb-true s.len 0 z in record { most = omega arith; whole = rw y; even = v; within = w })
    (λ z. let k : Carries s = carried s (rw z at t.0) in record { most = k.most; whole = k.whole; even = v; within = w })

-- the limits of a state, as facts
pub record Ok (w : CCDataWriter) : Type 0 where
  pub few : w.packet_count ≤ 16
  pub places : length w.packets ≡ 16
  pub slots : every written_slot (take w.packet_count w.packets) ≡ true
  pub held : Held w.sending w.sent
  pub first : Sized w.field1
  pub second : Sized w.field2

-- the parts of the test of the places
pub record Order (w : CCDataWriter) : Type 0 where
  pub packets : w.packet_count ≤ length w.packets
  pub first : 2 * w.field1.count ≤ length w.field1.bytes
  pub second : 2 * w.field2.count ≤ length w.field2.bytes
  pub sending : valid_sending w.sending w.sent ≡ true
  pub slots : every written_slot (take w.packet_count w.packets) ≡ true

module _ (w : CCDataWriter) where
  -- what the test says
  pub order_facts : in_order w ≡ true → Order w
  unfolding in_order
  order_facts e =
      let t = both (leb w.packet_count (length w.packets)) _ e in
      let u = both (leb (2 * w.field1.count) (length w.field1.bytes)) _ t.1 in
      let v = both (leb (2 * w.field2.count) (length w.field2.bytes)) _ u.1 in
      let x = both (valid_sending w.sending w.sent) (every written_slot (take w.packet_count w.packets)) v.1 in
      record { packets = leb-true _ _ t.0; first = leb-true _ _ u.0; second = leb-true _ _ v.0; sending = x.0; slots = x.1 }

  -- and what passes it
  pub facts_order : Order w → in_order w ≡ true
  unfolding in_order
  facts_order o = simp (le-leb _ _ o.packets, le-leb _ _ o.first, le-leb _ _ o.second, o.sending, o.slots)

  module _ (h : Shaped w) where
    -- places in order are within the limits
    pub order_ok : Order w → Ok w
    order_ok o =
        record {
          few = omega (arith, o.packets, h.packets);
          places = h.packets;
          slots = o.slots;
          held = held_facts w.sending w.sent o.sending;
          first = record { few = omega (arith, o.first, h.first); flat = h.first };
          second = record { few = omega (arith, o.second, h.second); flat = h.second };
        }

    -- so the multiplexer that they mean is, if the carried parts are
    pub order_mux : Order w → valid_carry (carry_of w.carry) ≡ true → valid_mux (means w) ≡ true
    unfolding means
    order_mux o c =
        let ok = order_ok o in
        let n : length (read_slots (take w.packet_count w.packets)) ≡ w.packet_count =
        length-map (take w.packet_count w.packets) read_slot ∙ length-take-le w.packet_count w.packets o.packets in
        facts_mux (means w) (record {
          packets = omega (arith, n, ok.few);
          stored = all_storable (take w.packet_count w.packets) o.slots;
          sending = omega (arith, left_length w.sending w.sent ok.held, ok.held.most);
          queue1 = omega (arith, queue_length w.field1 ok.first, ok.first.few);
          queue2 = omega (arith, queue_length w.field2 ok.second, ok.second.few);
          carry = c;
        })

    -- parts that break a limit are those of a multiplexer that does
    carry_mux : valid_carry (carry_of w.carry) ≡ false → valid_mux (means w) ≡ false
    unfolding means
    carry_mux f = by_test (valid_mux (means w)) (λ e. absurd (false≢true (sym f ∙ (mux_facts (means w) e).carry))) (λ e. e)

    -- the test of the places and of the parts is the whole test
    pub order_valid : in_order w && valid_carry (carry_of w.carry) ≡ valid_writer w
    unfolding valid_writer
    order_valid =
        by_test (in_order w)
        (λ e. by_test (valid_carry (carry_of w.carry)) (λ f. rw (e, f, order_mux (order_facts e) f)) (λ f. rw (e, f, carry_mux f)))
        (λ e. rw e)

    -- too many pairs of field 1
    pub over_first : false ≡ leb w.field1.count 64 → false ≡ valid_writer w
    unfolding in_order
    over_first e =
        let b : 64 < w.field1.count = leb-false w.field1.count 64 (sym e) in
        simp (lt-leb (2 * w.field1.count) (length w.field1.bytes) (omega (arith, h.first)), and_false (leb w.packet_count (length w.packets))) refl ∙ order_valid

    -- too many pairs of field 2
    pub over_second : true ≡ leb w.field1.count 64 → false ≡ leb w.field2.count 64 → false ≡ valid_writer w
    unfolding in_order
    over_second d e =
        let a : w.field1.count ≤ 64 = leb-true w.field1.count 64 (sym d) in
        let b : 64 < w.field2.count = leb-false w.field2.count 64 (sym e) in
        let few = le-leb (2 * w.field1.count) (length w.field1.bytes) (omega (arith, h.first)) in
        let over = lt-leb (2 * w.field2.count) (length w.field2.bytes) (omega (arith, h.second)) in
        simp (few, over, and_false (leb w.packet_count (length w.packets))) refl
        ∙ order_valid

    -- parts that break a limit
    pub over_carry : false ≡ valid_carry (carry_of w.carry) → false ≡ valid_writer w
    over_carry e = by_test (in_order w) (λ o. rw (o, ← e) refl ∙ order_valid) (λ o. rw o refl ∙ order_valid)

    -- the slots decide
    pub by_slots : {r : Bool} → true ≡ leb w.field1.count 64 → true ≡ leb w.field2.count 64 → true ≡ valid_carry (carry_of w.carry) → r ≡ valid_slots w.sending w.sent w.packets w.packet_count → r ≡ valid_writer w
    unfolding in_order valid_slots
    by_slots x y c f =
        let b : w.field1.count ≤ 64 = leb-true w.field1.count 64 (sym x) in
        let d : w.field2.count ≤ 64 = leb-true w.field2.count 64 (sym y) in
        let few1 = le-leb (2 * w.field1.count) (length w.field1.bytes) (omega (arith, h.first)) in
        let few2 = le-leb (2 * w.field2.count) (length w.field2.bytes) (omega (arith, h.second)) in
        f
        ∙ simp (few1, few2, h.packets) refl
        ∙ sym (and_true (in_order w))
        ∙ ap (λ (v : Bool). in_order w && v) c
        ∙ order_valid

    -- a state within its limits, by its parts
    module _ (e : valid_writer w ≡ true) where
      -- its places are in order
      pub valid_order : Order w
      valid_order = order_facts (both (in_order w) (valid_carry (carry_of w.carry)) (order_valid ∙ e)).0

      -- the limits as facts
      pub valid_ok : Ok w
      valid_ok = order_ok valid_order

  -- the multiplexer that a state within its limits means is within its own
  pub valid_mux_means : valid_writer w ≡ true → valid_mux (means w) ≡ true
  unfolding valid_writer
  valid_mux_means e = (both (in_order w) (valid_mux (means w)) e).1

  -- and so are the carried parts
  pub valid_carry_of : valid_writer w ≡ true → valid_carry (carry_of w.carry) ≡ true
  unfolding means
  valid_carry_of e = (mux_facts (means w) (valid_mux_means e)).carry

  -- and what a write gets
  pub share_within : valid_writer w ≡ true → (rate : Framerate) {h : Share} → share_at rate.numer rate.denom (means w) ≡ gave h → Shared h
  unfolding means
  share_within e rate given = share_given w.carrying rate.numer rate.denom (carry_of w.carry) (valid_carry_of e) given

  -- places in order that mean a multiplexer within its limits
  pub facts_valid : Order w → valid_mux (means w) ≡ true → valid_writer w ≡ true
  unfolding valid_writer
  facts_valid o v = and_both _ _ (facts_order o) v
