-- The latest block that the arrays have is that of the packet that they hold. Assumes nothing.
use Rattle.packet.proofs.Holds.{Places}
use Rattle.packing.proofs.Fillings.{block_at, block_none}
use borrow.Author.Rules.{rules}
use Rattle.packing.proofs.block_of.Goals as goal
use Rattle.packing.proofs.block_of.Goals.{Start}

places : (c : Start) → Places c.args.packet.now
places c = record { numbers = search rules; sizes = search rules; payload = search rules }

pub returns-in-Some : goal.returns-in-Some
returns-in-Some c =
    block_at c.args.packet.now c.requires (places (goal.at.returns-in-Some c).Start) c.args.service _ c.latest.ensures _ c.in-Some.is

pub returns-in-None : goal.returns-in-None
returns-in-None c =
    block_none c.args.packet.now c.requires (places (goal.at.returns-in-None c).Start) c.args.service _ c.latest.ensures c.in-None.is
