-- The multiplexer: rules W of docs/RULES.md. Assumes nothing.
use Rattle.std.specs.Prelude.{Bool, true, false, cond, ◌&&◌, List, [], ◌∷◌, ◌++◌, ℕ, zero, suc, ◌+◌, ◌-◌, ◌*◌, min, max, eqb, leb, length, take, drop, replicate}
use Rattle.model.specs.Lists.{every}
use Rattle.model.specs.Said.{Outcome, gave, refused, and_then, mapped, put_into, full}
use Rattle.model.specs.Packet.{Packet, packet_header, written_blocks, most_packet, valid_packet}
use Rattle.model.specs.Frame.{Frame, Triple, tri, Pair, pair, Cea608, field1, field2, frame_bytes}
use Rattle.model.specs.Rate.{Budgets, Carry, no_carry, valid_carry, Share, share_by}

-- the two paddings, the carrying mode and the carried parts, the true count, the packets queued, the triples left of the packet being sent, each
-- field's queue, and whether field 1 has the next turn
pub record Mux : Type 0 where
  pub pad608 : Bool
  pub pad_out : Bool
  pub carrying : Bool
  pub carry : Carry
  pub true_count : Bool
  pub packets : List Packet
  pub sending : List Triple
  pub queue1 : List Pair
  pub queue2 : List Pair
  pub next1 : Bool

-- a fresh multiplexer: it holds nothing, the switches are off [W12] [W15] [W17] and the first turn is field 1's [W4]
abbrev pub fresh_mux : Mux
fresh_mux =
    record { pad608 = false; pad_out = false; carrying = false; carry = no_carry; true_count = false; packets = []; sending = []; queue1 = []; queue2 = []; next1 = true }

-- the multiplexer with its switches set, the paddings, the true count and the mode, and parts carried
abbrev pub with_switches : Bool → Bool → Bool → Bool → Carry → Mux → Mux
with_switches a b t on c s =
    record {
      pad608 = a;
      pad_out = b;
      carrying = on;
      carry = c;
      true_count = t;
      packets = s.packets;
      sending = s.sending;
      queue1 = s.queue1;
      queue2 = s.queue2;
      next1 = s.next1;
    }

-- the paddings alone [W12]
abbrev pub with_pads : Bool → Bool → Mux → Mux
with_pads a b s = with_switches a b s.true_count s.carrying s.carry s

-- the true count alone [W17]
abbrev pub with_true_count : Bool → Mux → Mux
with_true_count t s = with_switches s.pad608 s.pad_out t s.carrying s.carry s

-- the mode and the parts
abbrev pub with_carry : Bool → Carry → Mux → Mux
with_carry on c s = with_switches s.pad608 s.pad_out s.true_count on c s

-- Turning the mode on from off sets all four parts to 0, and so does turning it off; turning it on when it is on changes nothing [W15].
abbrev pub with_mode : Bool → Mux → Mux
with_mode on s = with_carry on (cond (on && s.carrying) s.carry no_carry) s

-- what is set: the two paddings, the carrying mode, or the true count
pub data Switch : Type 0 where
  paddings : Bool → Bool → Switch
  carrying_mode : Bool → Switch
  true_counting : Bool → Switch

-- the multiplexer with it set
abbrev pub with_switch : Switch → Mux → Mux
with_switch (paddings a b) s = with_pads a b s
with_switch (carrying_mode on) s = with_mode on s
with_switch (true_counting on) s = with_true_count on s

-- A flush drops what is queued and being sent, and sets the carried parts to 0; the switches and the next turn stay [W13].
abbrev pub flush_mux : Mux → Mux
flush_mux s =
    record {
      pad608 = s.pad608;
      pad_out = s.pad_out;
      carrying = s.carrying;
      carry = no_carry;
      true_count = s.true_count;
      packets = [];
      sending = [];
      queue1 = [];
      queue2 = [];
      next1 = s.next1;
    }

-- the most packets that wait [S1]
abbrev pub most_packets : ℕ
most_packets = 16

-- the most pairs that wait of a field [S2]
abbrev pub most_queued : ℕ
most_queued = 64

-- a packet that may wait: within its limits, and with a block [W14]
unfoldable pub storable : Packet → Bool
storable p = valid_packet p && leb 1 (length p.blocks)

-- A multiplexer that breaks no limit [W14]. Of the triples left of the packet being sent only the number is bounded, two bytes each within the most
-- of a packet; that they are the last of some packet's is not asked.
unfoldable pub valid_mux : Mux → Bool
valid_mux s =
    leb (length s.packets) most_packets
    && (every storable s.packets
    && (leb (2 * length s.sending) most_packet
    && (leb (length s.queue1) most_queued
    && (leb (length s.queue2) most_queued
    && valid_carry s.carry))))

-- the multiplexer with other packets queued
abbrev pub with_packets : List Packet → Mux → Mux
with_packets ps s =
    record {
      pad608 = s.pad608;
      pad_out = s.pad_out;
      carrying = s.carrying;
      carry = s.carry;
      true_count = s.true_count;
      packets = ps;
      sending = s.sending;
      queue1 = s.queue1;
      queue2 = s.queue2;
      next1 = s.next1;
    }

-- the multiplexer with other pairs queued
abbrev pub with_queues : List Pair → List Pair → Mux → Mux
with_queues q1 q2 s =
    record {
      pad608 = s.pad608;
      pad_out = s.pad_out;
      carrying = s.carrying;
      carry = s.carry;
      true_count = s.true_count;
      packets = s.packets;
      sending = s.sending;
      queue1 = q1;
      queue2 = q2;
      next1 = s.next1;
    }

-- a queue with one more at its end, or 10 where it has no place [R10]
unfoldable pub queued : {A : Type 0} → ℕ → A → List A → Outcome (List A)
queued most x q = cond (leb most (length q)) (refused full) (gave (q ++ (x ∷ [])))

-- A packet pushed: one without blocks is accepted and not kept [W10]. The Rust keeps it; no frame differs.
unfoldable pub push_packet : Packet → Mux → Outcome Mux
push_packet p s = cond (eqb (length p.blocks) 0) (gave s) (mapped (λ ps. with_packets ps s) (queued most_packets p s.packets))

-- whether it is the pair 0x80,0x80
unfoldable pub is_null : Pair → Bool
is_null (pair a b) = eqb a 0x80 && eqb b 0x80

-- A pair pushed: 80 80 is accepted and not kept [W11].
unfoldable pub push_pair : Pair → List Pair → Outcome (List Pair)
push_pair x q = cond (is_null x) (gave q) (queued most_queued x q)

-- a pair goes to the queue of its field
unfoldable pub push_cea608 : Cea608 → Mux → Outcome Mux
push_cea608 (field1 x) s = mapped (λ q. with_queues q s.queue2 s) (push_pair x s.queue1)
push_cea608 (field2 x) s = mapped (λ q. with_queues s.queue1 q s) (push_pair x s.queue2)

-- the turns of a frame [W1]
unfoldable pub turns_due : ℕ → Mux → ℕ
turns_due pairs s = cond s.pad608 pairs (min pairs (max (length s.queue1) (2 * length s.queue2)))

-- the triples of the turns, what they leave in the queues, and whether field 1 has the next turn
pub record Turned : Type 0 where
  pub out : List Triple
  pub queue1 : List Pair
  pub queue2 : List Pair
  pub next1 : Bool

-- a triple sent before those of the turns that follow
abbrev pub sent_before : Triple → Turned → Turned
sent_before t r = record { out = t ∷ r.out; queue1 = r.queue1; queue2 = r.queue2; next1 = r.next1 }

-- turns of field 1 and of field 2 follow each other until none is left [W4]
unfoldable mutual
  -- field 1: its pair; else 80 80 for the sake of field 2, or as padding; else nothing, and the turn is taken all the same [W5]
  pub turn1 : ℕ → Bool → List Pair → List Pair → Turned
  turn1 zero pad q1 q2 = record { out = []; queue1 = q1; queue2 = q2; next1 = true }
  turn1 (suc n) pad (pair a b ∷ q1) q2 = sent_before (tri 0xFC a b) (turn2 n pad q1 q2)
  turn1 (suc n) pad [] (x ∷ q2) = sent_before (tri 0xFC 0x80 0x80) (turn2 n pad [] (x ∷ q2))
  turn1 (suc n) true [] [] = sent_before (tri 0xF8 0x80 0x80) (turn2 n true [] [])
  turn1 (suc n) false [] [] = turn2 n false [] []

  -- field 2: its pair; else padding; else nothing [W6]
  pub turn2 : ℕ → Bool → List Pair → List Pair → Turned
  turn2 zero pad q1 q2 = record { out = []; queue1 = q1; queue2 = q2; next1 = false }
  turn2 (suc n) pad q1 (pair a b ∷ q2) = sent_before (tri 0xFD a b) (turn1 n pad q1 q2)
  turn2 (suc n) true q1 [] = sent_before (tri 0xF9 0x80 0x80) (turn1 n true q1 [])
  turn2 (suc n) false q1 [] = turn1 n false q1 []

-- whose turn is next is kept from frame to frame [W4]
unfoldable pub turned : ℕ → Mux → Turned
turned n s = cond s.next1 (turn1 n s.pad608 s.queue1 s.queue2) (turn2 n s.pad608 s.queue1 s.queue2)

-- what follows a packet's first two bytes: under 0xFE, an odd last byte filled with 0x00 [W7]
unfoldable pub continued : List ℕ → List Triple
continued [] = []
continued (a ∷ []) = tri 0xFE a 0x00 ∷ []
continued (a ∷ b ∷ d) = tri 0xFE a b ∷ continued d

-- a packet's bytes: the first two under 0xFF [W7]
unfoldable pub started : List ℕ → List Triple
started [] = []
started (a ∷ []) = tri 0xFF a 0x00 ∷ []
started (a ∷ b ∷ d) = tri 0xFF a b ∷ continued d

-- the triples of a packet: of its header and its blocks [W7]
unfoldable pub packet_triples : Packet → List Triple
packet_triples p = started (packet_header p ∷ written_blocks p.blocks)

-- how many triples the queued packets are
unfoldable pub triples_queued : List Packet → ℕ
triples_queued [] = 0
triples_queued (p ∷ ps) = length (packet_triples p) + triples_queued ps

-- the packet triples not yet sent, those of the packet being sent among them [W2]
abbrev pub unsent : Mux → ℕ
unsent s = length s.sending + triples_queued s.packets

-- the turns of a frame that will send: each sends one triple or none [W5] [W6]
unfoldable pub turns_sending : ℕ → Mux → ℕ
turns_sending pairs s = length (turned (turns_due pairs s) s).out

-- the turns that the count counts: all [W9], or with the true count those that will send [W17]
unfoldable pub turns_counted : ℕ → Mux → ℕ
turns_counted pairs s = cond s.true_count (turns_sending pairs s) (turns_due pairs s)

-- the count of a frame [W2]
unfoldable pub count_due : Budgets → Mux → ℕ
count_due b s = cond s.pad_out b.triples (min b.triples (turns_counted b.pairs s + unsent s))

-- packet triples sent, and what they leave
pub record Sent : Type 0 where
  pub out : List Triple
  pub sending : List Triple
  pub packets : List Packet

-- triples sent before those that are sent next
abbrev pub behind : List Triple → Sent → Sent
behind ts r = record { out = ts ++ r.out; sending = r.sending; packets = r.packets }

-- Packet triples, m of them: those of the packet being sent first [W7], then of the packets in order [S3].
unfoldable pub send : ℕ → List Triple → List Packet → Sent
send m ts [] = record { out = take m ts; sending = drop m ts; packets = [] }
send m ts (p ∷ ps) =
    cond (leb m (length ts)) (record { out = take m ts; sending = drop m ts; packets = p ∷ ps })
    (behind ts (send (m - length ts) (packet_triples p) ps))

-- FA 00 00 up to the count, with output padding [W8]
unfoldable pub padding : Bool → ℕ → List Triple
padding on n = cond on (replicate n (tri 0xFA 0x00 0x00)) []

-- the frame, and the multiplexer afterwards
pub record Framed : Type 0 where
  pub frame : Frame
  pub next : Mux

-- the frame of n, with the triples of the turns, the packet triples and the padding; and what these leave of the multiplexer [W3]
unfoldable pub framed : ℕ → Turned → Sent → Mux → Framed
framed n t o s =
    record {
      frame = record { count = n; triples = t.out ++ (o.out ++ padding s.pad_out (n - length t.out - length o.out)) };
      next = record {
        pad608 = s.pad608;
        pad_out = s.pad_out;
        carrying = s.carrying;
        carry = s.carry;
        true_count = s.true_count;
        packets = o.packets;
        sending = o.sending;
        queue1 = t.queue1;
        queue2 = t.queue2;
        next1 = t.next1;
      };
    }

-- A frame at given budgets: the turns, then packet triples up to the count, then padding.
unfoldable pub write_frame : Budgets → Mux → Framed
write_frame b s =
    let n = count_due b s in
    let t = turned (turns_due b.pairs s) s in
    framed n t (send (n - length t.out) s.sending s.packets) s

-- what a write at a rate gets, by the mode [G4]
abbrev pub share_at : ℕ → ℕ → Mux → Outcome Share
share_at numer denom s = share_by s.carrying numer denom s.carry

-- a write with its share: the frame at its budgets; the multiplexer afterwards keeps the parts [W16]
abbrev pub write_share : Share → Mux → Framed
write_share h s = let w = write_frame h.budgets s in record { frame = w.frame; next = with_carry s.carrying h.carry w.next }

-- the bytes of the frame, the lent output with them, and the multiplexer after a write
pub record Written : Type 0 where
  pub frame : List ℕ
  pub out : List ℕ
  pub next : Mux

-- A frame written to a lent output at a rate: 8, then 9 [A4].
unfoldable pub write_at : ℕ → ℕ → List ℕ → Mux → Outcome Written
write_at numer denom out s =
    and_then (share_at numer denom s)
    (λ h. let w = write_share h s in mapped (λ o. record { frame = frame_bytes w.frame; out = o; next = w.next }) (put_into out (frame_bytes w.frame)))
