-- Where the set is that of the services, the extent tells whether a limit is broken, and the length. Assumes nothing.
use mathlib.Core.Path.{sym, ◌∙◌}
use borrow.Author.Rules.{rules}
use Rattle.model.specs.Packet.{packet_length}
use Rattle.packet.proofs.Holds.{Places, disagreed_invalid}
use Rattle.packet.proofs.Measures.{asked_is, asked_bad, no_extent, extent_valid, extent_length}
use Rattle.packet.proofs.DTVCCPacket.len.Goals as goal
use Rattle.packet.proofs.DTVCCPacket.len.Goals.{Start}

places : (c : Start) → Places c.args.self.now
places c = record { numbers = search rules; sizes = search rules; payload = search rules }

pub returns-then-not-services_agree : goal.returns-then-not-services_agree
returns-then-not-services_agree c =
    let s = (goal.at.returns-then-not-services_agree c).Start in
    asked_bad _ packet_length (disagreed_invalid c.args.self.now (places s) (sym c.services_agree.ensures ∙ c.if-not-services_agree.true))

pub returns-in-Some : goal.returns-in-Some
returns-in-Some c =
    let s = (goal.at.returns-in-Some c).Start in
    let agreed = sym c.services_agree.ensures ∙ c.if-not-services_agree.false in
    let l = extent_length c.args.self.now (places s) agreed _ c.extent_of.ensures _ c.in-Some.is in
    asked_is _ packet_length _ (extent_valid c.args.self.now (places s) agreed _ c.extent_of.ensures _ c.in-Some.is) l

pub returns-in-None : goal.returns-in-None
returns-in-None c =
    let s = (goal.at.returns-in-None c).Start in
    asked_bad _ packet_length (no_extent c.args.self.now (places s) (sym c.services_agree.ensures ∙ c.if-not-services_agree.false) _ c.extent_of.ensures c.in-None.is)
