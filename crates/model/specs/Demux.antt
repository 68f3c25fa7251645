-- The demultiplexer: rules F of docs/RULES.md. Assumes nothing.
use Rattle.std.specs.Prelude.{Bool, true, false, cond, not, ◌&&◌, ◌||◌, List, [], ◌∷◌, ◌++◌, ℕ, suc, ◌+◌, ◌-◌, ◌*◌, ◌%◌, eqb, leb, ltb, length, get_or, take, drop}
use Rattle.std.proofs.Math.Option.{Option, none, some}
use Rattle.model.specs.Lists.{every}
use Rattle.model.specs.Said.{Said, Outcome, gave, refused, accepted, cea608_after_cea708, full, frame_length_wrong}
use Rattle.model.specs.Packet.{Packet, no_packet, packet_size, read_packet, reads, valid_packet}
use Rattle.model.specs.Frame.{pair, Cea608, field1, field2, Seen, first, second, start, more, void608, void708, seen_all, triples_in, flagged, count_in}

-- whether 608 is on, the pairs of the last frame, the bytes of a packet that is not complete, the packets not yet drawn
pub record Demux : Type 0 where
  pub on608 : Bool
  pub pairs : List Cea608
  pub pending : List ℕ
  pub waiting : List Packet

-- the most packets that wait [S4]
abbrev pub most_waiting : ℕ
most_waiting = 32

-- the most pairs of a frame [S4]
abbrev pub most_pairs : ℕ
most_pairs = 31

-- bytes of a packet that is not complete: none, or an even number below its size [F17]
unfoldable pub valid_pending : List ℕ → Bool
valid_pending g = eqb (length g) 0 || (eqb (length g % 2) 0 && ltb (length g) (packet_size (get_or g 0 0)))

-- A demultiplexer that breaks no limit: pairs, and none with 608 off; packets; pending bytes [F17].
unfoldable pub valid_demux : Demux → Bool
valid_demux d =
    leb (length d.pairs) most_pairs
    && ((d.on608 || eqb (length d.pairs) 0)
    && (leb (length d.waiting) most_waiting
    && (every valid_packet d.waiting
    && valid_pending d.pending)))

-- a fresh demultiplexer: it holds nothing, and 608 is off [F16]
abbrev pub fresh_demux : Demux
fresh_demux = record { on608 = false; pairs = []; pending = []; waiting = [] }

-- 608 turned on: the list is emptied [F15]
abbrev pub turn608_on : Demux → Demux
turn608_on d = record { on608 = true; pairs = []; pending = d.pending; waiting = d.waiting }

-- a flush: fresh again [F16]
abbrev pub flush_demux : Demux → Demux
flush_demux d = fresh_demux

-- the pairs of a frame: valid triples of type 0 and 1 [F7], up to the first of type 2 or 3, valid or not [F6]
unfoldable pub pairs_in : List Seen → List Cea608
pairs_in [] = []
pairs_in (first a b ∷ ts) = field1 (pair a b) ∷ pairs_in ts
pairs_in (second a b ∷ ts) = field2 (pair a b) ∷ pairs_in ts
pairs_in (void608 ∷ ts) = pairs_in ts
pairs_in (start a b ∷ ts) = []
pairs_in (more a b ∷ ts) = []
pairs_in (void708 ∷ ts) = []

-- the first valid triple of type 0 or 1 in what follows the part with pairs, i triples into the frame: three times its place [F6]
unfoldable pub late_after : ℕ → List Seen → Option ℕ
late_after i [] = none
late_after i (first a b ∷ ts) = some (3 * i)
late_after i (second a b ∷ ts) = some (3 * i)
late_after i (void608 ∷ ts) = late_after (suc i) ts
late_after i (start a b ∷ ts) = late_after (suc i) ts
late_after i (more a b ∷ ts) = late_after (suc i) ts
late_after i (void708 ∷ ts) = late_after (suc i) ts

-- the first such triple of a frame whose part with pairs still lasts: any of type 2 or 3 ends it [F6]
unfoldable pub late_from : ℕ → List Seen → Option ℕ
late_from i [] = none
late_from i (first a b ∷ ts) = late_from (suc i) ts
late_from i (second a b ∷ ts) = late_from (suc i) ts
late_from i (void608 ∷ ts) = late_from (suc i) ts
late_from i (start a b ∷ ts) = late_after (suc i) ts
late_from i (more a b ∷ ts) = late_after (suc i) ts
late_from i (void708 ∷ ts) = late_after (suc i) ts

-- whether a triple of type 2 or 3 is valid [F8]
unfoldable pub carries708 : List Seen → Bool
carries708 [] = false
carries708 (first a b ∷ ts) = carries708 ts
carries708 (second a b ∷ ts) = carries708 ts
carries708 (void608 ∷ ts) = carries708 ts
carries708 (start a b ∷ ts) = true
carries708 (more a b ∷ ts) = true
carries708 (void708 ∷ ts) = carries708 ts

-- the runs of bytes that become the packets that a frame delivers, and the bytes gathered of the next
pub record Gathered : Type 0 where
  pub runs : List (List ℕ)
  pub bytes : List ℕ

-- the packet that a reading gives, or none
abbrev pub given_in : Outcome Packet → List Packet
given_in (gave p) = p ∷ []
given_in (refused why) = []

-- the packet of closed bytes, if they read as one [F10]
unfoldable pub closed : List ℕ → List Packet
closed g = given_in (read_packet g)

-- the packets of runs, one after the other
unfoldable pub packets_of : List (List ℕ) → List Packet
packets_of [] = []
packets_of (g ∷ gs) = closed g ++ packets_of gs

-- closed bytes that read as a packet; others are dropped [F10]
unfoldable pub kept : List ℕ → List (List ℕ)
kept g = cond (reads g) (g ∷ []) []

-- how many bytes are still wanted where g is gathered: up to the size of its first byte, and none before any start [F11]
unfoldable pub wants : List ℕ → ℕ
wants g = cond (eqb (length g) 0) 0 (packet_size (get_or g 0 0) - length g)

-- runs before those that are gathered next
abbrev pub delivered : List (List ℕ) → Gathered → Gathered
delivered gs o = record { runs = gs ++ o.runs; bytes = o.bytes }

-- What triples gather: a start closes what there is and begins anew [F9]; more is added up to the size [F11].
unfoldable pub gather : List ℕ → List Seen → Gathered
gather g [] = record { runs = []; bytes = g }
gather g (start a b ∷ ts) = delivered (kept g) (gather (take (packet_size a) (a ∷ b ∷ [])) ts)
gather g (more a b ∷ ts) = gather (g ++ take (wants g) (a ∷ b ∷ [])) ts
gather g (first a b ∷ ts) = gather g ts
gather g (second a b ∷ ts) = gather g ts
gather g (void608 ∷ ts) = gather g ts
gather g (void708 ∷ ts) = gather g ts

-- at the end of the frame a packet that has its size is closed, and one that has not waits [F12]
unfoldable pub ended : Gathered → Gathered
ended o = cond (eqb (wants o.bytes) 0) (record { runs = o.runs ++ kept o.bytes; bytes = [] }) o

-- without a valid triple of type 2 or 3 the pending bytes stay [F8]
unfoldable pub gathered : List ℕ → List Seen → Gathered
gathered pending ts = cond (carries708 ts) (ended (gather pending ts)) (record { runs = []; bytes = pending })

-- what a frame answers, the runs of bytes of the packets that it delivers, and the demultiplexer afterwards
pub record Taken : Type 0 where
  pub answer : Said
  pub runs : List (List ℕ)
  pub next : Demux

-- a call that is accepted and delivers nothing
abbrev pub quiet : Demux → Taken
quiet d = record { answer = accepted []; runs = []; next = d }

-- the demultiplexer with another list of pairs; without 608 there is none [F7]
abbrev pub with_pairs : List Cea608 → Demux → Demux
with_pairs ps d = record { on608 = d.on608; pairs = cond d.on608 ps []; pending = d.pending; waiting = d.waiting }

-- 10 exactly if too many packets would wait [F13], and then all stays, the list too [A3].
unfoldable pub take_gathered : List Cea608 → Gathered → Demux → Taken
take_gathered ps o d =
    cond (ltb most_waiting (length d.waiting + length (packets_of o.runs))) (record { answer = full; runs = []; next = d })
    (record {
      answer = accepted [];
      runs = o.runs;
      next = record { on608 = d.on608; pairs = cond d.on608 ps []; pending = o.bytes; waiting = d.waiting ++ packets_of o.runs };
    })

-- a late triple is 2, and the pairs before it are listed [A3]
unfoldable pub take_triples : List Seen → Option ℕ → Demux → Taken
take_triples ts (some at) d = record { answer = cea608_after_cea708 at; runs = []; next = with_pairs (pairs_in ts) d }
take_triples ts none d = take_gathered (pairs_in ts) (gathered d.pending ts) d

-- a frame that is accepted with nothing more done [F2]
unfoldable pub unread : List ℕ → Bool
unread f = ltb (length f) 5 || (not (flagged (get_or f 0 0)) || eqb (count_in (get_or f 0 0)) 0)

-- A frame: the list is emptied first [F1]; a wrong length is 12, with 3n+2 expected [F3]; triples begin at the third byte [F4].
unfoldable pub take_frame : List ℕ → Demux → Taken
take_frame f d =
    let n = count_in (get_or f 0 0) in
    let ts = seen_all (triples_in (drop 2 f)) in
    cond (unread f) (quiet (with_pairs [] d))
    (cond (eqb (length f) (3 * n + 2)) (take_triples ts (late_from 0 ts) d)
    (record { answer = frame_length_wrong (3 * n + 2) (length f); runs = []; next = with_pairs [] d }))

-- what is drawn: a pair, a packet, or nothing [F14]
pub data Item : Type 0 where
  a_pair : Cea608 → Item
  a_packet : Packet → Item
  no_item : Item

-- what a pair says: its field, 1 or 2, and its two bytes [F14]
abbrev pub pair_values : Cea608 → List ℕ
pair_values (field1 (pair a b)) = 1 ∷ a ∷ b ∷ []
pair_values (field2 (pair a b)) = 2 ∷ a ∷ b ∷ []

-- what an item says: a pair, 3 for a packet, or nothing
abbrev pub item_values : Item → List ℕ
item_values (a_pair x) = pair_values x
item_values (a_packet p) = 3 ∷ []
item_values no_item = []

-- the packet beside an item
abbrev pub item_packet : Item → Packet
item_packet (a_pair x) = no_packet
item_packet (a_packet p) = p
item_packet no_item = no_packet

-- what is drawn, and the demultiplexer without it
pub record Drawn : Type 0 where
  pub item : Item
  pub next : Demux

-- by what there is: a pair of the list, else the oldest packet, else nothing
abbrev draw_by : Bool → List ℕ → List Cea608 → List Packet → Drawn
draw_by on pending (x ∷ pairs) waiting = record { item = a_pair x; next = record { on608 = on; pairs = pairs; pending = pending; waiting = waiting } }
draw_by on pending [] (p ∷ waiting) = record { item = a_packet p; next = record { on608 = on; pairs = []; pending = pending; waiting = waiting } }
draw_by on pending [] [] = record { item = no_item; next = record { on608 = on; pairs = []; pending = pending; waiting = [] } }

-- A draw: the listed pairs in order, then the packets, the oldest first [F14].
unfoldable pub draw : Demux → Drawn
draw d = draw_by d.on608 d.pending d.pairs d.waiting
