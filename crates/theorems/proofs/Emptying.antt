-- Draws until there is nothing left tell and give all that a demultiplexer holds, in order. Assumes nothing.
use mathlib.Core.Path.{◌≡◌, refl, sym, ap, ◌∙◌}
use mathlib.Core.Bool.{Bool, true, false≢true}
use mathlib.Core.List.{List, [], ◌∷◌, ◌++◌, map}
use Prim.Native.Nat.{ℕ}
use lib.ListN.{get_or, get_or-map}
use contract.Lifetimes.{Lfts}
use Rattle.std.specs.Prelude.{Result, Ok, Err}
use Rattle.model.specs.Lists.{every}
use Rattle.model.specs.Packet.{Packet, valid_packet}
use Rattle.model.specs.Frame.{pair, Cea608, field1, field2}
use Rattle.model.specs.Demux as model
use Rattle.model.specs.Demux.{Demux, a_pair, a_packet, no_item}
use Rattle.model.specs.Run.{emptied, of_field1, of_field2, others}
use Rattle.model.proofs.Cases.{both}
use Rattle.model.proofs.Packets.{valid_facts}
use Rattle.model_journey.proofs.Turns.{others_append}
use Rattle.model_journey.proofs.Draws as draws
use Rattle.caption.specs.Pairs.{cea608_of}
use Rattle.caption.specs.declared.Refusal.{Refusal}
use Rattle.caption.specs.declared.Cea608 as caption
use Rattle.packet.specs.Packet.{packet_of, laid, blank}
use Rattle.packet.specs.declared.DTVCCPacket.{DTVCCPacket}
use Rattle.packet.proofs.Holds.{over_holds}
use Rattle.parser.specs.Means.{means}
use Rattle.parser.specs.Items.{pair_of, item_of, drawn_of}
use Rattle.parser.proofs.Laid.{Sound}
use Rattle.parser.proofs.Kept.{drawn_sound}
use Rattle.parser.specs.declared.CCDataParser.{CCDataParser}
use Rattle.parser.specs.declared.Drawn.{Drawn}
use Rattle.parser.specs.declared.Item.{Item}
use Rattle.parser.specs.declared.Item.TheVariants as item
use Rattle.theorems.specs.Items.{Items, no_items, and_then, one_pair}
use Rattle.theorems.specs.Allowed.{Parser, Draw}
use Rattle.theorems.specs.Reading.{Told, told_in, given_in, Empties, nothing_left, draw, drawn_item}
use Rattle.theorems.proofs.Contracts.{draw_says}

-- the items that a demultiplexer holds
abbrev pub items_in : List Cea608 → List Packet → Items
items_in pairs waiting = record { packets = waiting; pairs1 = others (of_field1 pairs); pairs2 = others (of_field2 pairs) }

-- a pair that is drawn is the pair
pair_drawn : (x : Cea608) → cea608_of (pair_of x) ≡ x
pair_drawn (field1 (pair a b)) = refl
pair_drawn (field2 (pair a b)) = refl

-- an item as it is told
abbrev pub told_for : model.Item → Told
told_for i = Ok (item_of i)

-- none of such is a refusal
pub none_refused : (l : List model.Item) (i : ℕ) (why : Refusal) → get_or (map told_for l) i (Ok item.Nothing) ≡ Err why → ⊥
none_refused l i why e =
    let z : told_for (get_or l i no_item) ≡ Err why = sym (get_or-map told_for l i no_item) ∙ e in
    false≢true (cc)

-- what draws until there is nothing left tell
abbrev pub told_of : Demux → List model.Item
told_of d = draws.items_in d ++ (no_item ∷ [])

-- what the contract of a draw says of a state within the limits: it gives what the model draws, and what is left is the model's
pub record Drew (i : model.Item) (next : Demux) (r : Result Drawn Refusal) (p : CCDataParser) : Type 0 where
  pub answer : r ≡ Ok (drawn_of i)
  pub sound : Sound p
  pub means : means p ≡ next

-- from the contract
pub drew : (κs : Lfts 1) (p p' : Parser) (r : Result Drawn Refusal) (d : Demux) → Sound p.now → means p.now ≡ d → Draw κs p r p'
    → Drew (model.draw d).item (model.draw d).next r p'.now
drew κs p p' r d s e a =
    let c = draw_says κs p p' r a in
    record {
      answer = c.answer s.valid ∙ ap (λ (x : Demux). Ok (drawn_of (model.draw x).item)) e;
      sound = rw c.places (drawn_sound p.now s);
      means = c.means s.valid ∙ ap (λ (x : Demux). (model.draw x).next) e;
    }

-- a pair before others of its field
pair_first : (x : Cea608) (pairs : List Cea608) (waiting : List Packet) → and_then (one_pair x) (items_in pairs waiting) ≡ items_in (x ∷ pairs) waiting
unfolding of_field1 of_field2
pair_first (field1 x) pairs waiting = rw (← others_append (x ∷ []) (of_field1 pairs))
pair_first (field2 x) pairs waiting = rw (← others_append (x ∷ []) (of_field2 pairs))

-- what emptying tells, gives and leaves
pub record Emptied (d next : Demux) (told : List Told) (is : Items) (p' : CCDataParser) : Type 0 where
  pub tells : told ≡ map told_for (told_of d)
  pub items : is ≡ items_in d.pairs d.waiting
  pub sound : Sound p'
  pub means : means p' ≡ next

-- one item, and then those that follow
before : {d d' next : Demux} {told : List Told} {is : Items} {p' : CCDataParser} (x : Drawn)
    → Ok x.item ∷ map told_for (told_of d) ≡ map told_for (told_of d') → and_then (given_in (Ok x)) (items_in d.pairs d.waiting) ≡ items_in d'.pairs d'.waiting
    → Emptied d next told is p' → Emptied d' next (Ok x.item ∷ told) (and_then (given_in (Ok x)) is) p'
before x z e t = record { tells = rw t.tells z; items = rw t.items e; sound = t.sound; means = t.means }

-- only a pair or a packet gives anything
pub drawn_only : (i : Item) (d : DTVCCPacket) → ((x : caption.Cea608) → i ≡ item.Pair x → ⊥) → (i ≡ item.Packet → ⊥) → drawn_item i d ≡ no_items
drawn_only (item.Pair x) d no_pair no_packet = absurd (no_pair x refl)
drawn_only item.Packet d no_pair no_packet = absurd (no_packet refl)
drawn_only item.Nothing d no_pair no_packet = refl

-- a packet that was laid out is the packet held
laid_holds : (q : Packet) → valid_packet q ≡ true → packet_of (laid q) ≡ q
laid_holds q v = over_holds blank (record { numbers = refl; sizes = refl; payload = refl }) q (valid_facts q v)

-- a packet is something
pub packet_some : ◌≡◌ {A = Told} (Ok item.Packet) (Ok item.Nothing) → ⊥
packet_some e = false≢true (cc)

-- and so is a pair
pub pair_some : (x : caption.Cea608) → ◌≡◌ {A = Told} (Ok (item.Pair x)) (Ok item.Nothing) → ⊥
pair_some x e = false≢true (cc)

module _ (on : Bool) (pending : List ℕ) where
  -- the demultiplexer of these lists
  abbrev holds : List Cea608 → List Packet → Demux
  holds pairs waiting = record { on608 = on; pairs = pairs; pending = pending; waiting = waiting }

  -- by what there is
  empties_by : (pairs : List Cea608) (waiting : List Packet) {p p' : CCDataParser} {told : List Told} {is : Items} → Empties p told is p' → Sound p → every valid_packet waiting ≡ true
      → means p ≡ holds pairs waiting → Emptied (holds pairs waiting) (holds [] []) told is p'
  unfolding model.draw every of_field1 of_field2 others
  empties_by [] [] (nothing_left κs p q r a z) s v e =
      let k = drew κs p q r (holds [] []) s e a in
      record { tells = ap (λ x. told_in x ∷ []) k.answer; items = rw k.answer; sound = k.sound; means = k.means }
  empties_by [] [] (draw κs p q r a n c) s v e = let k = drew κs p q r (holds [] []) s e a in absurd (n (ap told_in k.answer))
  empties_by [] (u ∷ waiting) (nothing_left κs p q r a z) s v e =
      let k = drew κs p q r (holds [] (u ∷ waiting)) s e a in absurd (packet_some (sym (ap told_in k.answer) ∙ z))
  empties_by [] (u ∷ waiting) (draw κs p q r a n c) s v e =
      let k = drew κs p q r (holds [] (u ∷ waiting)) s e a in
      let t = both (valid_packet u) (every valid_packet waiting) v in
      rw k.answer (before (drawn_of (a_packet u)) refl (rw (laid_holds u t.0)) (empties_by [] waiting c k.sound t.1 k.means))
  empties_by (x ∷ pairs) waiting (nothing_left κs p q r a z) s v e =
      let k = drew κs p q r (holds (x ∷ pairs) waiting) s e a in absurd (pair_some (pair_of x) (sym (ap told_in k.answer) ∙ z))
  empties_by (x ∷ pairs) waiting (draw κs p q r a n c) s v e =
      let k = drew κs p q r (holds (x ∷ pairs) waiting) s e a in
      rw k.answer (before (drawn_of (a_pair x)) refl (rw (pair_drawn x) (pair_first x pairs waiting)) (empties_by pairs waiting c k.sound v k.means))

-- from a state within the limits, by what it is in the model
pub empties_from : {p p' : CCDataParser} {told : List Told} {is : Items} → Empties p told is p' → Sound p → (d : Demux) → means p ≡ d → every valid_packet d.waiting ≡ true
    → Emptied d (emptied d) told is p'
empties_from c s d e v = empties_by d.on608 d.pending d.pairs d.waiting c s v e
