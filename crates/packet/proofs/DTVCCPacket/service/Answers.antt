-- The place holds a block of a packet that breaks no limit, and the arrays hand it out. Assumes nothing.
use borrow.Author.Rules.{rules}
use Rattle.caption.proofs.Outcomes.{given_valid}
use Rattle.packet.proofs.Holds.{Places}
use Rattle.packet.proofs.Placed.{place_none, place_here}
use Rattle.packet.proofs.DTVCCPacket.service.Goals as goal
use Rattle.packet.proofs.DTVCCPacket.service.Goals.{Start}

places : (c : Start) → Places c.args.self.now
places c = record { numbers = search rules; sizes = search rules; payload = search rules }

pub returns-then-self-place : goal.returns-then-self-place
returns-then-self-place c =
    place_none c.args.self.now (given_valid _ _ _ c.in_ok-check.ensures) (places (goal.at.returns-then-self-place c).Start) _ c.if-self-place.true

pub returns : goal.returns
returns c =
    place_here c.args.self.now (given_valid _ _ _ c.in_ok-check.ensures) (places (goal.at.returns c).Start) _ c.if-self-place.false _ c.block_at.ensures
