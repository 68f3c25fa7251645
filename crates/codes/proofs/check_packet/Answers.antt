-- The payloads of the blocks of a packet that breaks no limit are checked, as they stand in its places. Assumes nothing.
use mathlib.Core.Path.{◌≡◌, sym, ◌∙◌}
use mathlib.Core.Bool.{true}
use Rattle.model.specs.Codes.{codes_of_blocks}
use Rattle.packet.specs.Packet.{packet_of, valid_dtvcc}
use Rattle.packet.proofs.Holds.{within_facts}
use Rattle.codes.proofs.Runs.{unbroken, held_payloads}
use Rattle.codes.proofs.check_packet.Goals as goal
use Rattle.codes.proofs.check_packet.Goals.{Else-not-is_valid}

-- past the first test the packet breaks no limit
valid : (c : Else-not-is_valid) → valid_dtvcc c.args.packet.now ≡ true
valid c = sym c.is_valid.ensures ∙ c.if-not-is_valid.false

pub check_payloads-requires : goal.check_payloads-requires
check_payloads-requires c = (within_facts c.args.packet.now (valid (goal.at.check_payloads-requires c).Else-not-is_valid)).count

pub returns : goal.returns
returns c = let p = c.args.packet.now in
    unbroken (codes_of_blocks (packet_of p).blocks) (valid_dtvcc p) _ c.is_valid.ensures _ c.if-not-is_valid.false
    (rw (held_payloads p.count p.numbers p.sizes p.payload) c.check_payloads.ensures)
