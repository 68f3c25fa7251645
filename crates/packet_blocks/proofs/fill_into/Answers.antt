-- What the blocks lay into zeros is the packet. Assumes nothing.
use mathlib.Core.Path.{◌≡◌, ap, ◌∙◌}
use lib.ListN.{take}
use Rattle.std.proofs.lemmas.List.{take_min}
use Rattle.caption.specs.Answers.{outcome, said_refusal}
use Rattle.model.specs.Said.{refused, mapped}
use Rattle.packet_moves.specs.Moves.{packet_with, blocks_at}
use Rattle.packet_blocks.specs.Reading.{filled_with}
use Rattle.packet_blocks.proofs.Reading.{laid_packet}
use Rattle.packet_blocks.proofs.fill_into.Goals as goal

pub returns-in-Ok-clause-read : goal.returns-in-Ok-clause-read
returns-in-Ok-clause-read g c =
    let same : take c.min-n.result c.args.data.now ≡ take 128 c.args.data.now = ap (λ n. take n c.args.data.now) c.min-n.ensures ∙ take_min 128 c.args.data.now in
    let told : mapped (λ _. c.read_blocks.new.packet) (outcome c.read_blocks.result) ≡ mapped filled_with (mapped (packet_with c.args.data.now) (blocks_at g.W.Way.way (take 128 c.args.data.now) 1)) =
    rw same at c.read_blocks.ensures ∙ laid_packet c.args.data.now _ c.sequence_in-packet.ensures _ in
    rw c.in-Ok.is at told

pub returns-in-Err-clause-read : goal.returns-in-Err-clause-read
returns-in-Err-clause-read g c =
    let same : take c.min-n.result c.args.data.now ≡ take 128 c.args.data.now = ap (λ n. take n c.args.data.now) c.min-n.ensures ∙ take_min 128 c.args.data.now in
    let told : mapped (λ _. c.read_blocks.new.packet) (outcome c.read_blocks.result) ≡ mapped filled_with (mapped (packet_with c.args.data.now) (blocks_at g.W.Way.way (take 128 c.args.data.now) 1)) =
    rw same at c.read_blocks.ensures ∙ laid_packet c.args.data.now _ c.sequence_in-packet.ensures _ in
    let why : refused (said_refusal c.in-Err.why) ≡ mapped filled_with (mapped (packet_with c.args.data.now) (blocks_at g.W.Way.way (take 128 c.args.data.now) 1)) = rw c.in-Err.is at told in
    why
