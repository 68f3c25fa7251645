-- The packet beside a draw is within its limits, so that its set is that of its services. Assumes nothing.
use mathlib.Core.Path.{◌≡◌, refl, ap, ◌∙◌}
use mathlib.Core.Bool.{true}
use mathlib.Core.List.{List, [], ◌∷◌}
use Prim.Native.Nat.{ℕ}
use Rattle.model.specs.Lists.{every}
use Rattle.model.specs.Packet.{Packet, no_packet, packet_length, valid_packet}
use Rattle.model.specs.Services.{services_of}
use Rattle.model.specs.Frame.{Cea608}
use Rattle.model.specs.Demux as model
use Rattle.model.specs.Demux.{Demux, item_packet}
use Rattle.caption.proofs.Outcomes.{given_valid}
use Rattle.model.specs.Said.{Outcome, gave, after}
use Rattle.model.proofs.Cases.{both}
use Rattle.model.proofs.Packets.{Valid, valid_facts}
use Rattle.model.proofs.DemuxStates.{demux_facts}
use Rattle.packet.specs.Packet.{packet_of, blank, laid, valid_dtvcc}
use Rattle.packet.proofs.Holds.{blank_places, over_valid, services_held}
use Rattle.parser.specs.Means.{means}
use Rattle.parser.specs.Valid.{valid}
use Rattle.parser.specs.After.{asked}
use Rattle.parser.specs.Items.{drawn_of}
use Rattle.parser.specs.declared.Drawn.{Drawn}
use Rattle.parser.specs.declared.CCDataParser.{CCDataParser}
use Rattle.parser.proofs.Valids.{valid_fine, fine_demux}

-- the packet of an item is within its limits
abbrev pub Holds : model.Item → Type 0
Holds i = Valid (item_packet i)

none_holds : Valid no_packet
unfolding valid_packet every packet_length
none_holds = valid_facts no_packet refl

-- that of the item that is drawn, if all that wait are
pub first_holds : (d : Demux) → every valid_packet d.waiting ≡ true → Holds (model.draw d).item
unfolding model.draw every
first_holds d v = by_items d.on608 d.pairs d.pending d.waiting v
  where
    by_items : (on : _) (xs : List Cea608) (g : List ℕ) (ps : List Packet)
        → let w : Demux = record { on608 = on; pairs = xs; pending = g; waiting = ps } in
        every valid_packet ps ≡ true → Holds (model.draw w).item
    by_items on (x ∷ xs) g ps k = none_holds
    by_items on [] g (p ∷ ps) k = valid_facts p (both (valid_packet p) (every valid_packet ps) k).0
    by_items on [] g [] k = none_holds

laid_valid : (p : Packet) → Valid p → valid_dtvcc (laid p) ≡ true
laid_valid p v = over_valid blank blank_places p v

-- whatever state is drawn from, and whatever the contract allows
module _ (p : CCDataParser) (x : Drawn) (h : gave x ≡ asked p (λ d. drawn_of (model.draw d).item)) where
  within : valid p ≡ true
  within = given_valid (valid p) x (drawn_of (model.draw (means p)).item) h

  here : x.packet ≡ laid (item_packet (model.draw (means p)).item)
  here = ap (λ (o : Outcome Drawn). (after x o).packet) h ∙ rw within

  pub drawn_valid : valid_dtvcc x.packet ≡ true
  drawn_valid = rw here (laid_valid _ (first_holds (means p) (demux_facts (means p) (fine_demux p (valid_fine p within))).packets))

  -- The packet that is drawn has the set of its own services [P15].
  pub drawn_set : x.packet.services ≡ services_of (packet_of x.packet)
  drawn_set = services_held x.packet drawn_valid
