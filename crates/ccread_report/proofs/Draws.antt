-- What is drawn is what waits: each item's lines are the first of those left, and once nothing waits a draw changes nothing. Assumes nothing.
use mathlib.Core.Path.{◌≡◌, refl, sym, ap, ◌∙◌}
use mathlib.Core.List.{List, [], ◌∷◌, ◌++◌, append_assoc}
use Prim.Native.Nat.{ℕ, zero, suc, ◌+◌, ◌≤◌}
use native.Mathlib.Omega.{arith}
use lib.ListN.{length}
use mathlib.Core.Bool.{true≢false}
use Rattle.model.specs.Said.{Said, gave, refused, is_given, after}
use Rattle.model.specs.Packet.{Packet}
use Rattle.model.specs.Frame.{Cea608, field1, field2, pair}
use Rattle.model.specs.Demux as model
use Rattle.model.specs.Demux.{Demux, a_pair, a_packet, no_item, item_values, item_packet}
use Rattle.model.proofs.DemuxStates.{demux_facts}
use Rattle.packet.specs.Packet.{packet_of, blank, laid}
use Rattle.packet.proofs.Holds.{blank_places}
use Rattle.packet.proofs.Keeps.{laid_over}
use Rattle.parser.specs.Means.{means}
use Rattle.parser.specs.After.{asked, drawn}
use Rattle.parser.specs.Items.{said_item, item_of, drawn_of}
use Rattle.parser.specs.declared.Item.TheVariants as item
use Rattle.parser.specs.declared.Drawn.{Drawn}
use Rattle.parser.specs.declared.CCDataParser.{CCDataParser}
use Rattle.parser.proofs.Laid.{Sound}
use Rattle.parser.proofs.Kept.{sound_demux, laid_still}
use Rattle.parser.proofs.Items.{item_says}
use Rattle.parser.proofs.Beside.{Holds, first_holds}
use Rattle.ccread_report.specs.Report.{pair_line, packet_lines, pair_lines, packets_lines, waiting_lines, item_lines, drawn_out}

-- the lines of the model's item
abbrev pub lines_of : model.Item → List ℕ
lines_of (a_pair x) = pair_line x
lines_of (a_packet p) = packet_lines p
lines_of no_item = []

-- the items that wait
abbrev pub items_in : Demux → ℕ
items_in d = length d.pairs + length d.waiting

-- the first item, and those behind it
pub drawn_first : (d : Demux) → waiting_lines d ≡ lines_of (model.draw d).item ++ waiting_lines (model.draw d).next
unfolding model.draw waiting_lines pair_lines packets_lines
drawn_first d = by_items d.on608 d.pairs d.pending d.waiting
  where
    by_items : (on : _) (xs : List Cea608) (g : List ℕ) (ps : List Packet)
        → let e : Demux = record { on608 = on; pairs = xs; pending = g; waiting = ps } in
        waiting_lines e ≡ lines_of (model.draw e).item ++ waiting_lines (model.draw e).next
    by_items on (x ∷ xs) g ps = append_assoc (pair_line x) (pair_lines xs) (packets_lines ps)
    by_items on [] g (p ∷ ps) = refl
    by_items on [] g [] = refl

-- one fewer waits
pub drawn_fewer : (d : Demux) (n : ℕ) → items_in d ≤ suc n → items_in (model.draw d).next ≤ n
unfolding model.draw
drawn_fewer d n h = by_items d.on608 d.pairs d.pending d.waiting h
  where
    by_items : (on : _) (xs : List Cea608) (g : List ℕ) (ps : List Packet)
        → let e : Demux = record { on608 = on; pairs = xs; pending = g; waiting = ps } in
        items_in e ≤ suc n → items_in (model.draw e).next ≤ n
    by_items on (x ∷ xs) g ps k = omega arith
    by_items on [] g (p ∷ ps) k = omega arith
    by_items on [] g [] k = omega arith

-- with none left nothing is printed
pub none_lines : (d : Demux) → items_in d ≡ 0 → waiting_lines d ≡ []
unfolding waiting_lines pair_lines packets_lines
none_lines d z = by_items d.pairs d.waiting z
  where
    by_items : (xs : List Cea608) (ps : List Packet) → length xs + length ps ≡ 0 → pair_lines xs ++ packets_lines ps ≡ []
    by_items (x ∷ xs) ps z = absurd (omega arith)
    by_items [] (p ∷ ps) z = absurd (omega arith)
    by_items [] [] z = refl

-- the lines of the item, beside which the packet stands
item_lines_same : (i : model.Item) → Holds i → item_lines (item_of i) (packet_of (laid (item_packet i))) ≡ lines_of i
unfolding item_lines
item_lines_same (a_pair (field1 (pair a b))) h = refl
item_lines_same (a_pair (field2 (pair a b))) h = refl
item_lines_same (a_packet p) h = ap packet_lines (laid_over blank blank_places p h).holds
item_lines_same no_item h = refl

-- a draw that tells nothing found nothing
none_told : (i : model.Item) → item_of i ≡ item.Nothing → i ≡ no_item
none_told i e = by_values i (sym (item_says i) ∙ ap said_item e)
  where
    by_values : (i : model.Item) → item_values i ≡ [] → i ≡ no_item
    by_values (a_pair (field1 (pair a b))) z = absurd (omega (arith, ap length z))
    by_values (a_pair (field2 (pair a b))) z = absurd (omega (arith, ap length z))
    by_values (a_packet p) z = absurd (omega (arith, ap length z))
    by_values no_item z = refl

none_left : (d : Demux) → (model.draw d).item ≡ no_item → items_in d ≡ 0
unfolding model.draw
none_left d e = by_items d.on608 d.pairs d.pending d.waiting e
  where
    by_items : (on : _) (xs : List Cea608) (g : List ℕ) (ps : List Packet)
        → let w : Demux = record { on608 = on; pairs = xs; pending = g; waiting = ps } in
        (model.draw w).item ≡ no_item → items_in w ≡ 0
    by_items on (field1 (pair a b) ∷ xs) g ps k = absurd (omega (arith, ap (λ (i : model.Item). length (item_values i)) k))
    by_items on (field2 (pair a b) ∷ xs) g ps k = absurd (omega (arith, ap (λ (i : model.Item). length (item_values i)) k))
    by_items on [] g (p ∷ ps) k = absurd (omega (arith, ap (λ (i : model.Item). length (item_values i)) k))
    by_items on [] g [] k = refl

-- with none left a draw leaves all as it is
draw_none : (d : Demux) → items_in d ≡ 0 → model.draw d ≡ record { item = no_item; next = d }
unfolding model.draw
draw_none d z = by_items d.on608 d.pairs d.pending d.waiting z
  where
    by_items : (on : _) (xs : List Cea608) (g : List ℕ) (ps : List Packet)
        → let w : Demux = record { on608 = on; pairs = xs; pending = g; waiting = ps } in
        items_in w ≡ 0 → model.draw w ≡ record { item = no_item; next = w }
    by_items on (x ∷ xs) g ps k = absurd (omega arith)
    by_items on [] g (p ∷ ps) k = absurd (omega arith)
    by_items on [] g [] k = refl

-- a draw from a state within the limits
module _ (p : CCDataParser) (s : Sound p) (r : Drawn) (h : gave r ≡ asked p (λ d. drawn_of (model.draw d).item)) where
  abbrev first : model.Item
  first = (model.draw (means p)).item

  holds : Holds first
  holds = first_holds (means p) (demux_facts (means p) (sound_demux p s)).packets

  drawn_is : r ≡ drawn_of first
  drawn_is = let u : gave r ≡ gave (drawn_of first) = h ∙ rw s.valid in ap (after r) u

  -- its lines are the first of those left
  pub drawn_lines : waiting_lines (means p) ≡ item_lines r.item (packet_of r.packet) ++ waiting_lines (model.draw (means p)).next
  drawn_lines = rw (drawn_is, item_lines_same first holds) (drawn_first (means p))

  -- nothing is drawn where nothing waits
  pub drawn_none : r.item ≡ item.Nothing → items_in (means p) ≡ 0
  drawn_none e = none_left (means p) (none_told first (sym (ap (λ (x : Drawn). x.item) drawn_is) ∙ e))

-- it is not refused
pub draw_gives : (p : CCDataParser) → Sound p → (why : Said) → refused why ≡ asked p (λ d. drawn_of (model.draw d).item) → ⊥
draw_gives p s why e =
    let q : refused why ≡ gave (drawn_of (model.draw (means p)).item) = e ∙ rw s.valid in
    true≢false (sym (ap is_given q))

-- few items wait in a state within the limits
module _ (p : CCDataParser) (s : Sound p) where
  pub items_few : items_in (means p) ≤ 63
  items_few = let d = demux_facts (means p) (sound_demux p s) in omega (arith, d.pairs, d.waiting)

  -- where nothing waits a draw changes nothing,
  drawn_stays : items_in (means p) ≡ 0 → drawn p ≡ p
  drawn_stays z = rw (s.valid, draw_none (means p) z) (laid_still p s)

  -- nor do more
  pub stays : (n : ℕ) → items_in (means p) ≡ 0 → drawn_out n p ≡ p
  unfolding drawn_out
  stays zero z = refl
  stays (suc n) z = ap (drawn_out n) (drawn_stays z) ∙ stays n z
