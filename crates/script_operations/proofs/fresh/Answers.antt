-- Each part is fresh. Assumes nothing.
use mathlib.Core.Path.{ap}
use Rattle.model.specs.Said.{after}
use Rattle.model.specs.Block.{new_block}
use Rattle.model.specs.Packet.{new_packet}
use Rattle.service.specs.Service as block
use Rattle.packet.specs.Packet as packet
use Rattle.script_operations.proofs.Records.{is_ok}
use Rattle.script_operations.specs.Ran.{fresh_machine}
use Rattle.script_operations.proofs.fresh.Goals as goal

pub unwrap-s-requires : goal.unwrap-s-requires
unfolding new_block
unwrap-s-requires c = is_ok _ _ c.new.ensures.places

pub unwrap-p-requires : goal.unwrap-p-requires
unfolding new_packet
unwrap-p-requires c = is_ok _ _ c.new-2.ensures.places

pub returns : goal.returns
unfolding fresh_machine
returns c =
    let s = ap (after block.blank) (rw c.unwrap-s.ensures at c.new.ensures.places) in
    let p = ap (after packet.blank) (rw c.unwrap-p.ensures at c.new-2.ensures.places) in
    rw (s, p, c.new-r.ensures.places, c.new-w.ensures.places, c.fresh-link.ensures)
