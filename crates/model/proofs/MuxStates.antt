-- Every call leaves a multiplexer within its limits, if it was. Assumes nothing.
use mathlib.Core.Path.{◌≡◌, refl}
use mathlib.Core.Bool.{Bool, true, false, ◌&&◌}
use mathlib.Core.List.{List, [], ◌∷◌}
use Prim.Native.Nat.{ℕ, zero, suc, ◌-◌, ◌*◌, ◌≤◌}
use native.Mathlib.Omega.{arith}
use lib.Dec.{eqb, leb}
use lib.ListN.{length, length-append, length-take, length-drop, length-replicate}
use borrow.Author.Tests.{le-leb, leb-true, leb-false, eqb-false}
use Rattle.model.specs.Lists.{every}
use Rattle.model.specs.Packet.{Packet, valid_packet}
use Rattle.model.specs.Frame.{Triple, Pair, pair, Cea608, field1, field2, frame_bytes, most_frame}
use Rattle.model.specs.Rate.{Budgets, Carry, no_carry, valid_carry}
use Rattle.model.specs.Mux.{Mux, fresh_mux, with_switches, with_carry, with_mode, Switch, paddings, carrying_mode, true_counting, with_switch, flush_mux, storable, valid_mux, queued, push_packet, is_null, push_pair, push_cea608, Turned, turns_due, turn1, turn2, turned, packet_triples, triples_queued, unsent, turns_sending, turns_counted, count_due, Sent, send, padding, framed, write_frame}
use Rattle.model.specs.Run.{Accepted}
use Rattle.model.proofs.Cases.{by_cond, both, and_both, Gives, gives_mapped}
use Rattle.model.proofs.Lists.{every_append}
use Rattle.model.proofs.Packets.{valid_facts}
use Rattle.model.proofs.Sends.{triples_length}
use Rattle.model.proofs.Turns.{turns_count}
use Rattle.model.proofs.Frames.{frame_length}

-- the limits of a multiplexer, as facts
pub record MuxLimits (s : Mux) : Type 0 where
  pub packets : length s.packets ≤ 16
  pub stored : every storable s.packets ≡ true
  pub sending : 2 * length s.sending ≤ 128
  pub queue1 : length s.queue1 ≤ 64
  pub queue2 : length s.queue2 ≤ 64
  pub carry : valid_carry s.carry ≡ true

-- what passes the test is within the limits,
pub mux_facts : (s : Mux) → valid_mux s ≡ true → MuxLimits s
unfolding valid_mux
mux_facts s e =
    let u = both _ _ e in
    let v = both _ _ u.1 in
    let w = both _ _ v.1 in
    let x = both _ _ w.1 in
    let y = both _ _ x.1 in
    record {
      packets = leb-true (length s.packets) 16 u.0;
      stored = v.0;
      sending = leb-true (2 * length s.sending) 128 w.0;
      queue1 = leb-true (length s.queue1) 64 x.0;
      queue2 = leb-true (length s.queue2) 64 y.0;
      carry = y.1;
    }

-- and what is within them passes it
pub facts_mux : (s : Mux) → MuxLimits s → valid_mux s ≡ true
unfolding valid_mux
facts_mux s f = simp (le-leb _ _ f.packets, f.stored, le-leb _ _ f.sending, le-leb _ _ f.queue1, le-leb _ _ f.queue2, f.carry)

-- a fresh multiplexer is within its limits
pub fresh_mux_valid : valid_mux fresh_mux ≡ true
unfolding valid_mux valid_carry every
fresh_mux_valid = refl

-- the switches keep it there, and so do parts within their limits
switches_valid : (a b t on : Bool) (c : Carry) (s : Mux) → valid_mux s ≡ true → valid_carry c ≡ true → valid_mux (with_switches a b t on c s) ≡ true
switches_valid a b t on c s e v =
    let f = mux_facts s e in
    facts_mux (with_switches a b t on c s) (record { packets = f.packets; stored = f.stored; sending = f.sending; queue1 = f.queue1; queue2 = f.queue2; carry = v })

-- parts that are 0 are within their limits
none_valid : valid_carry no_carry ≡ true
unfolding valid_carry
none_valid = refl

-- the mode with other parts
pub carry_valid : (on : Bool) (c : Carry) (s : Mux) → valid_mux s ≡ true → valid_carry c ≡ true → valid_mux (with_carry on c s) ≡ true
carry_valid on c s e v = switches_valid s.pad608 s.pad_out s.true_count on c s e v

-- and by itself
mode_valid : (on : Bool) (s : Mux) → valid_mux s ≡ true → valid_mux (with_mode on s) ≡ true
mode_valid on s e = carry_valid on _ s e (by_cond (λ (c : Carry). valid_carry c ≡ true) (on && s.carrying) (λ _. (mux_facts s e).carry) (λ _. none_valid))

-- whatever is set
pub switch_valid : (x : Switch) (s : Mux) → valid_mux s ≡ true → valid_mux (with_switch x s) ≡ true
switch_valid (paddings a b) s e = switches_valid a b s.true_count s.carrying s.carry s e (mux_facts s e).carry
switch_valid (carrying_mode on) s e = mode_valid on s e
switch_valid (true_counting t) s e = switches_valid s.pad608 s.pad_out t s.carrying s.carry s e (mux_facts s e).carry

-- and flush
pub flush_mux_valid : (s : Mux) → valid_mux (flush_mux s) ≡ true
unfolding every
flush_mux_valid s =
    facts_mux (flush_mux s) (record { packets = omega arith; stored = refl; sending = omega arith; queue1 = omega arith; queue2 = omega arith; carry = none_valid })

-- a queue that takes one more has at most as many as it has places
queued_few : {A : Type 0} (most : ℕ) (x : A) (q : List A) → Gives (λ (r : List A). length r ≤ most) (queued most x q)
unfolding queued
queued_few {A} most x q =
    by_cond (Gives (λ (r : List A). length r ≤ most)) (leb most (length q)) (λ _. tt)
    (λ e. rw length-append (omega (arith, leb-false most (length q) e)))

-- a pair pushed to a queue
pair_few : (x : Pair) (q : List Pair) → length q ≤ 64 → Gives (λ (r : List Pair). length r ≤ 64) (push_pair x q)
unfolding push_pair
pair_few x q h = by_cond (Gives (λ (r : List Pair). length r ≤ 64)) (is_null x) (λ _. h) (λ _. queued_few 64 x q)

-- a pair pushed to its field
pub push608_valid : (x : Cea608) (s : Mux) → valid_mux s ≡ true → Gives (λ (r : Mux). valid_mux r ≡ true) (push_cea608 x s)
unfolding push_cea608
push608_valid (field1 x) s e =
    let f = mux_facts s e in
    gives_mapped (λ (r : Mux). valid_mux r ≡ true) (λ (r : List Pair). length r ≤ 64) (push_pair x s.queue1) _ (pair_few x s.queue1 f.queue1)
    (λ q h. facts_mux _ (record { packets = f.packets; stored = f.stored; sending = f.sending; queue1 = h; queue2 = f.queue2; carry = f.carry }))
push608_valid (field2 x) s e =
    let f = mux_facts s e in
    gives_mapped (λ (r : Mux). valid_mux r ≡ true) (λ (r : List Pair). length r ≤ 64) (push_pair x s.queue2) _ (pair_few x s.queue2 f.queue2)
    (λ q h. facts_mux _ (record { packets = f.packets; stored = f.stored; sending = f.sending; queue1 = f.queue1; queue2 = h; carry = f.carry }))

-- the packets queued after one more
record Queued (ps : List Packet) : Type 0 where
  few : length ps ≤ 16
  stored : every storable ps ≡ true

-- a packet that is stored leaves a queue of such packets
queued_stored : (p : Packet) (ps : List Packet) → storable p ≡ true → every storable ps ≡ true → Gives Queued (queued 16 p ps)
unfolding queued every
queued_stored p ps v h =
    by_cond (Gives Queued) (leb 16 (length ps)) (λ _. tt)
    (λ e. record {
      few = rw length-append (omega (arith, leb-false 16 (length ps) e));
      stored = every_append storable ps (p ∷ []) h (and_both (storable p) true v refl);
    })

-- a packet pushed that breaks no limit
pub push_valid : (p : Packet) (s : Mux) → valid_packet p ≡ true → valid_mux s ≡ true → Gives (λ (r : Mux). valid_mux r ≡ true) (push_packet p s)
unfolding push_packet storable
push_valid p s v e =
    let f = mux_facts s e in
    by_cond (Gives (λ (r : Mux). valid_mux r ≡ true)) (eqb (length p.blocks) 0) (λ _. e)
    (λ z. let some : leb 1 (length p.blocks) ≡ true = le-leb 1 (length p.blocks) (omega (arith, eqb-false (length p.blocks) 0 z)) in
    gives_mapped (λ (r : Mux). valid_mux r ≡ true) Queued (queued 16 p s.packets) _ (queued_stored p s.packets (and_both _ _ v some) f.stored)
    (λ ps h. facts_mux _ (record { packets = h.few; stored = h.stored; sending = f.sending; queue1 = f.queue1; queue2 = f.queue2; carry = f.carry })))

-- turns leave queues no longer than they were
record Shorter (q1 q2 : List Pair) (t : Turned) : Type 0 where
  queue1 : length t.queue1 ≤ length q1
  queue2 : length t.queue2 ≤ length q2

mutual
  unfolding turn1 turn2

  -- from a field 1 turn on
  shorter1 : (n : ℕ) (pad : Bool) (q1 q2 : List Pair) → Shorter q1 q2 (turn1 n pad q1 q2)
  shorter1 zero pad q1 q2 = record { queue1 = omega arith; queue2 = omega arith }
  shorter1 (suc n) pad (pair a b ∷ q1) q2 = let r = shorter2 n pad q1 q2 in record { queue1 = omega (arith, r.queue1); queue2 = r.queue2 }
  shorter1 (suc n) pad [] (x ∷ q2) = let r = shorter2 n pad [] (x ∷ q2) in record { queue1 = r.queue1; queue2 = r.queue2 }
  shorter1 (suc n) true [] [] = let r = shorter2 n true [] [] in record { queue1 = r.queue1; queue2 = r.queue2 }
  shorter1 (suc n) false [] [] = let r = shorter2 n false [] [] in record { queue1 = r.queue1; queue2 = r.queue2 }

  -- from a field 2 turn on
  shorter2 : (n : ℕ) (pad : Bool) (q1 q2 : List Pair) → Shorter q1 q2 (turn2 n pad q1 q2)
  shorter2 zero pad q1 q2 = record { queue1 = omega arith; queue2 = omega arith }
  shorter2 (suc n) pad q1 (pair a b ∷ q2) = let r = shorter1 n pad q1 q2 in record { queue1 = r.queue1; queue2 = omega (arith, r.queue2) }
  shorter2 (suc n) true q1 [] = let r = shorter1 n true q1 [] in record { queue1 = r.queue1; queue2 = r.queue2 }
  shorter2 (suc n) false q1 [] = let r = shorter1 n false q1 [] in record { queue1 = r.queue1; queue2 = r.queue2 }

-- whoever has the first turn
shorter : (n : ℕ) (s : Mux) → Shorter s.queue1 s.queue2 (turned n s)
unfolding turned
shorter n s = by_cond (Shorter s.queue1 s.queue2) s.next1 (λ _. shorter1 n s.pad608 s.queue1 s.queue2) (λ _. shorter2 n s.pad608 s.queue1 s.queue2)

-- m packet triples at most are sent, and leave no more packets than there were and at most a packet's triples
record Leaves (m : ℕ) (ps : List Packet) (o : Sent) : Type 0 where
  out : length o.out ≤ m
  packets : length o.packets ≤ length ps
  stored : every storable o.packets ≡ true
  sending : 2 * length o.sending ≤ 128

-- a stored packet has at most 64 triples
triples_few : (p : Packet) → storable p ≡ true → 2 * length (packet_triples p) ≤ 128
unfolding storable
triples_few p e =
    let w = both (valid_packet p) (leb 1 (length p.blocks)) e in
    let v = valid_facts p w.0 in
    omega (arith, triples_length p v (leb-true 1 (length p.blocks) w.1), v.length)

-- so have as many of them
queued_triples : (ps : List Packet) → every storable ps ≡ true → triples_queued ps ≤ 64 * length ps
unfolding triples_queued every
queued_triples [] v = omega arith
queued_triples (p ∷ ps) v = let w = both (storable p) (every storable ps) v in omega (arith, triples_few p w.0, queued_triples ps w.1)

-- and a multiplexer within its limits at most 1088 that are not yet sent
pub unsent_few : (s : Mux) → MuxLimits s → unsent s ≤ 1088
unsent_few s f = omega (arith, queued_triples s.packets f.stored, f.packets, f.sending)

-- packet triples are sent of packets that are stored
send_leaves : (m : ℕ) (ts : List Triple) (ps : List Packet) → 2 * length ts ≤ 128 → every storable ps ≡ true → Leaves m ps (send m ts ps)
unfolding send every
send_leaves m ts [] h v = record { out = rw length-take (omega arith); packets = omega arith; stored = refl; sending = rw length-drop (omega arith) }
send_leaves m ts (p ∷ ps) h v =
    let w = both (storable p) (every storable ps) v in
    by_cond (Leaves m (p ∷ ps)) (leb m (length ts))
    (λ _. record { out = rw length-take (omega arith); packets = omega arith; stored = v; sending = rw length-drop (omega arith) })
    (λ e. let r = send_leaves (m - length ts) (packet_triples p) ps (triples_few p w.0) w.1 in
    record { out = rw length-append (omega (arith, r.out, leb-false m (length ts) e)); packets = omega (arith, r.packets); stored = r.stored; sending = r.sending })

-- padding fills up to the end
pub padding_few : (on : Bool) (n : ℕ) → length (padding on n) ≤ n
unfolding padding
padding_few on n = by_cond (λ (l : List Triple). length l ≤ n) on (λ _. rw length-replicate (omega arith)) (λ _. omega arith)

-- no more turns than pairs
pub turns_most : (pairs : ℕ) (s : Mux) → turns_due pairs s ≤ pairs
unfolding turns_due
turns_most pairs s = by_cond (λ (n : ℕ). n ≤ pairs) s.pad608 (λ _. omega arith) (λ _. omega arith)

-- every turn that sends is counted
pub turns_counted_bound : (pairs : ℕ) (s : Mux) → length (turned (turns_due pairs s) s).out ≤ turns_counted pairs s
unfolding turns_counted turns_sending
turns_counted_bound pairs s =
    let n : ℕ = turns_due pairs s in
    by_cond (λ k. length (turned n s).out ≤ k) s.true_count (λ _. omega arith) (λ _. (turns_count n s).most)

-- the count is at most the budget of triples
pub count_most : (b : Budgets) (s : Mux) → count_due b s ≤ b.triples
unfolding count_due
count_most b s = by_cond (λ (n : ℕ). n ≤ b.triples) s.pad_out (λ _. omega arith) (λ _. omega arith)

-- and has room for the turns that send
pub count_room : (b : Budgets) (s : Mux) → b.pairs ≤ b.triples → length (turned (turns_due b.pairs s) s).out ≤ count_due b s
unfolding count_due
count_room b s h =
    let n : ℕ = turns_due b.pairs s in
    let few = (turns_count n s).most in
    let most = turns_most b.pairs s in
    by_cond (λ k. length (turned n s).out ≤ k) s.pad_out (λ _. omega arith) (λ _. omega (arith, turns_counted_bound b.pairs s))

module _ (b : Budgets) (s : Mux) (f : MuxLimits s) where
  -- the packet triples of the frame, m at most
  sends_frame : (m : ℕ) → Leaves m s.packets (send m s.sending s.packets)
  sends_frame m = send_leaves m s.sending s.packets f.sending f.stored

  -- a frame written at any budgets leaves the limits kept
  written_within : MuxLimits (write_frame b s).next
  unfolding write_frame framed
  written_within =
      let t = shorter (turns_due b.pairs s) s in
      let o = sends_frame (count_due b s - length (turned (turns_due b.pairs s) s).out) in
      record {
        packets = omega (arith, o.packets, f.packets);
        stored = o.stored;
        sending = o.sending;
        queue1 = omega (arith, t.queue1, f.queue1);
        queue2 = omega (arith, t.queue2, f.queue2);
        carry = f.carry;
      }

  -- and has at most its budget of triples
  triples_most : b.pairs ≤ b.triples → length (write_frame b s).frame.triples ≤ b.triples
  unfolding write_frame framed
  triples_most h =
      let n : ℕ = count_due b s in
      let ts : List Triple = (turned (turns_due b.pairs s) s).out in
      let us : List Triple = (send (n - length ts) s.sending s.packets).out in
      let o = sends_frame (n - length ts) in
      rw (length-append, length-append)
      (omega (arith, o.out, padding_few s.pad_out (n - length ts - length us), count_room b s h, count_most b s))

-- a frame written keeps the limits
pub write_valid : (b : Budgets) (s : Mux) → valid_mux s ≡ true → valid_mux (write_frame b s).next ≡ true
write_valid b s e = facts_mux (write_frame b s).next (written_within b s (mux_facts s e))

-- a frame has at most 95 bytes [S5]
pub frame_most : (b : Budgets) (s : Mux) → Accepted b → valid_mux s ≡ true → length (frame_bytes (write_frame b s).frame) ≤ most_frame
frame_most b s a e = rw (frame_length (write_frame b s).frame) (omega (arith, a.apart, a.most, triples_most b s (mux_facts s e) (omega (arith, a.apart))))
