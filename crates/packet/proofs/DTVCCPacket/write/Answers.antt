-- What is written of the three arrays is the packet as written, where the set is that of its services. Assumes nothing.
use mathlib.Core.Path.{sym, ◌∙◌}
use borrow.Author.Rules.{rules}
use Rattle.packet.proofs.Holds.{Places, agreed_valid, disagreed_invalid}
use Rattle.packet.proofs.DTVCCPacket.write.Goals as goal
use Rattle.packet.proofs.DTVCCPacket.write.Goals.{Start}

places : (c : Start) → Places c.args.self.now
places c = record { numbers = search rules; sizes = search rules; payload = search rules }

pub returns-then-not-services_agree-clause-answer : goal.returns-then-not-services_agree-clause-answer
returns-then-not-services_agree-clause-answer c =
    rw (disagreed_invalid c.args.self.now (places (goal.at.returns-then-not-services_agree-clause-answer c).Start) (sym c.services_agree.ensures ∙ c.if-not-services_agree.true))

pub returns-then-not-services_agree-clause-output : goal.returns-then-not-services_agree-clause-output
returns-then-not-services_agree-clause-output c =
    rw (disagreed_invalid c.args.self.now (places (goal.at.returns-then-not-services_agree-clause-output c).Start) (sym c.services_agree.ensures ∙ c.if-not-services_agree.true))

pub returns-clause-answer : goal.returns-clause-answer
returns-clause-answer c =
    rw (agreed_valid c.args.self.now (places (goal.at.returns-clause-answer c).Start) (sym c.services_agree.ensures ∙ c.if-not-services_agree.false)) c.write.ensures.answer

pub returns-clause-output : goal.returns-clause-output
returns-clause-output c =
    rw (agreed_valid c.args.self.now (places (goal.at.returns-clause-output c).Start) (sym c.services_agree.ensures ∙ c.if-not-services_agree.false)) c.write.ensures.output
