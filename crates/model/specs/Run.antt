-- Sequences of calls on a multiplexer, and on a demultiplexer that is emptied after each frame: rules J of docs/RULES.md. Assumes nothing.
use Rattle.std.specs.Prelude.{◌≡◌, Bool, true, cond, not, ◌&&◌, ◌||◌, List, [], ◌∷◌, ◌++◌, ℕ, zero, suc, ◌+◌, ◌≤◌, eqb, length}
use Rattle.model.specs.Said.{Said, gave, is_given, after}
use Rattle.model.specs.Packet.{Packet, valid_packet}
use Rattle.model.specs.Frame.{Pair, Cea608, field1, field2, frame_bytes}
use Rattle.model.specs.Demux.{Demux, Item, draw, take_frame}
use Rattle.model.specs.Rate.{Rate, Budgets, most_triples, Share}
use Rattle.model.specs.Mux.{Mux, Framed, Switch, paddings, carrying_mode, true_counting, with_switch, push_packet, push_pair, push_cea608, is_null, share_at, write_share}

-- what is done to a multiplexer, in any order; no flush [J0]. A write is with its share
pub data Call : Type 0 where
  pushes : Packet → Call
  pushes608 : Cea608 → Call
  sets : Switch → Call
  writes : Share → Call

-- the frames that calls make, the nonempty packets and each field's pairs that are accepted, and the multiplexer at the end
pub record Run : Type 0 where
  pub frames : List (List ℕ)
  pub packets : List Packet
  pub pairs1 : List Pair
  pub pairs2 : List Pair
  pub last : Mux

-- one item under a test, else none
abbrev pub only_if : {A : Type 0} → Bool → A → List A
only_if b x = cond b (x ∷ []) []

-- what one call does
unfoldable pub call : Call → Mux → Run
call (pushes p) s =
    record {
      frames = [];
      packets = only_if (is_given (push_packet p s) && not (eqb (length p.blocks) 0)) p;
      pairs1 = [];
      pairs2 = [];
      last = after s (push_packet p s);
    }
call (pushes608 (field1 x)) s =
    record { frames = []; packets = []; pairs1 = only_if (is_given (push_pair x s.queue1)) x; pairs2 = []; last = after s (push_cea608 (field1 x) s) }
call (pushes608 (field2 x)) s =
    record { frames = []; packets = []; pairs1 = []; pairs2 = only_if (is_given (push_pair x s.queue2)) x; last = after s (push_cea608 (field2 x) s) }
call (sets x) s = record { frames = []; packets = []; pairs1 = []; pairs2 = []; last = with_switch x s }
call (writes h) s =
    let w : Framed = write_share h s in
    record { frames = frame_bytes w.frame ∷ []; packets = []; pairs1 = []; pairs2 = []; last = w.next }

-- what calls do, one after the other
unfoldable pub run : List Call → Mux → Run
run [] s = record { frames = []; packets = []; pairs1 = []; pairs2 = []; last = s }
run (c ∷ cs) s =
    let k = call c s in
    let r = run cs k.last in
    record { frames = k.frames ++ r.frames; packets = k.packets ++ r.packets; pairs1 = k.pairs1 ++ r.pairs1; pairs2 = k.pairs2 ++ r.pairs2; last = r.last }

-- What is asked of the budgets of an accepted write, in either mode [G2] [G6]. Budgets that no rate has are within these bounds too.
pub record Accepted (b : Budgets) : Type 0 where
  pub apart : b.pairs + 4 ≤ b.triples
  pub most : b.triples ≤ most_triples

-- with so many pairs, and those of the next, there is a pair
abbrev pub PairBeside : ℕ → List Budgets → Type 0
PairBeside n [] = Unit {0}
PairBeside n (b ∷ bs) = 1 ≤ n + b.pairs

-- And of those of writes in a row: of any two there is at least one pair [J3].
abbrev pub OneOfTwo : List Budgets → Type 0
OneOfTwo [] = Unit {0}
OneOfTwo (b ∷ bs) = PairBeside b.pairs bs × OneOfTwo bs

-- with the carrying mode off each has one [G2]
abbrev pub AllPaired : List Budgets → Type 0
AllPaired [] = Unit {0}
AllPaired (b ∷ bs) = (1 ≤ b.pairs) × AllPaired bs

-- whether a padding or the true count is on [J0]
abbrev pub exact_count : Mux → Bool
exact_count s = s.pad608 || (s.pad_out || s.true_count)

-- a write has accepted budgets and is of a multiplexer that passes a test; a packet is one that breaks no limit
abbrev pub AllowedCall : (Mux → Bool) → Call → Mux → Type 0
AllowedCall passes (pushes p) s = valid_packet p ≡ true
AllowedCall passes (pushes608 x) s = Unit {0}
AllowedCall passes (sets x) s = Unit {0}
AllowedCall passes (writes h) s = Accepted h.budgets × (passes s ≡ true)

-- each call is allowed at the multiplexer that it meets
abbrev pub Allowed : (Mux → Bool) → List Call → Mux → Type 0
Allowed passes [] s = Unit {0}
Allowed passes (c ∷ cs) s = AllowedCall passes c s × Allowed passes cs (call c s).last

-- the mode stays on or off: it is set to what it is
abbrev pub StaysSwitch : Bool → Switch → Type 0
StaysSwitch on (paddings a b) = Unit {0}
StaysSwitch on (carrying_mode x) = x ≡ on
StaysSwitch on (true_counting x) = Unit {0}

-- A write gets its share at a rate; with the mode on that is always the rate r.
abbrev pub StaysCall : Bool → Rate → Call → Mux → Type 0
StaysCall on r (pushes p) s = Unit {0}
StaysCall on r (pushes608 x) s = Unit {0}
StaysCall on r (sets x) s = StaysSwitch on x
StaysCall on r (writes h) s = (q : Rate) × (share_at q.numer q.denom s ≡ gave h) × (on ≡ true → q ≡ r)

-- each call leaves it so
abbrev pub Stays : Bool → Rate → List Call → Mux → Type 0
Stays on r [] s = Unit {0}
Stays on r (c ∷ cs) s = StaysCall on r c s × Stays on r cs (call c s).last

-- nothing is queued and nothing is being sent [J1]
pub record Drained (s : Mux) : Type 0 where
  pub no_packet : s.packets ≡ []
  pub no_triple : s.sending ≡ []
  pub no_pair1 : s.queue1 ≡ []
  pub no_pair2 : s.queue2 ≡ []

-- the items that n draws give, and the demultiplexer after them
pub record Draws : Type 0 where
  pub items : List Item
  pub last : Demux

-- n draws, one after the other
unfoldable pub draw_times : ℕ → Demux → Draws
draw_times zero d = record { items = []; last = d }
draw_times (suc n) d = let r = draw_times n (draw d).next in record { items = (draw d).item ∷ r.items; last = r.last }

-- a demultiplexer of which everything has been drawn
abbrev pub emptied : Demux → Demux
emptied d = record { on608 = d.on608; pairs = []; pending = d.pending; waiting = [] }

-- what frames answer, what is drawn after each of them, and the demultiplexer at the end
pub record Read : Type 0 where
  pub answers : List Said
  pub pairs : List Cea608
  pub packets : List Packet
  pub last : Demux

-- every frame is given to the demultiplexer, and all is drawn after each [J1]
unfoldable pub read_frames : List (List ℕ) → Demux → Read
read_frames [] d = record { answers = []; pairs = []; packets = []; last = d }
read_frames (f ∷ fs) d =
    let t = take_frame f d in
    let r = read_frames fs (emptied t.next) in
    record { answers = t.answer ∷ r.answers; pairs = t.next.pairs ++ r.pairs; packets = t.next.waiting ++ r.packets; last = r.last }

-- the pairs of field 1
unfoldable pub of_field1 : List Cea608 → List Pair
of_field1 [] = []
of_field1 (field1 x ∷ xs) = x ∷ of_field1 xs
of_field1 (field2 x ∷ xs) = of_field1 xs

-- the pairs of field 2
unfoldable pub of_field2 : List Cea608 → List Pair
of_field2 [] = []
of_field2 (field1 x ∷ xs) = of_field2 xs
of_field2 (field2 x ∷ xs) = x ∷ of_field2 xs

-- pairs other than 80 80, which are never queued [W11]
unfoldable pub others : List Pair → List Pair
others [] = []
others (x ∷ xs) = cond (is_null x) (others xs) (x ∷ others xs)
