-- `writer::CCDataWriter::push_packet` meets its contract: one law gives all clauses of each way out. Assumes nothing.
use mathlib.Core.Path.{refl}
use borrow.Author.Rules.{rules}
use Rattle.std.specs.Prelude.{Err}
use Rattle.caption.proofs.Outcomes.{given_valid}
use Rattle.writer.specs.Writer.{stored}
use Rattle.writer.specs.Calls.{packet_outcome}
use Rattle.writer.specs.Making.{with_packets}
use Rattle.writer.proofs.Calls.{Answers, done}
use Rattle.writer.proofs.Packs.{stores}
use Rattle.writer.proofs.CCDataWriter.push_packet.Goals as goal
use Rattle.writer.proofs.CCDataWriter.push_packet.Goals.{In_ok-taken, In_err-taken}

-- the packet is taken
taken : (c : In_ok-taken) → (let w = c.args.self.now in Answers (packet_outcome c.args.packet.now w) (stored w) w done (with_packets c.in_ok-taken.taken c.place.new.packets w))
taken c =
    let w = c.args.self.now in
    let e = c.in_ok-taken.ensures in
    stores w (given_valid _ _ _ c.in_ok-check.ensures.answer) c.in_ok-check.ensures.shaped c.args.packet.now _ refl e.taken refl e.places

-- it is refused
refused : (c : In_err-taken) → (let w = c.args.self.now in Answers (packet_outcome c.args.packet.now w) (stored w) w (Err c.in_err-taken.field-0.0) (with_packets w.packet_count c.place.new.packets w))
refused c =
    let w = c.args.self.now in
    let e = c.in_err-taken.ensures in
    stores w (given_valid _ _ _ c.in_ok-check.ensures.answer) c.in_ok-check.ensures.shaped c.args.packet.now _ refl e.taken refl e.places

pub returns-clause-answer : goal.returns-clause-answer
returns-clause-answer c = (taken (goal.at.returns-clause-answer c).In_ok-taken).answer

pub returns-clause-state : goal.returns-clause-state
returns-clause-state c = (taken (goal.at.returns-clause-state c).In_ok-taken).state

pub returns-clause-places : goal.returns-clause-places
returns-clause-places c = (taken (goal.at.returns-clause-places c).In_ok-taken).places

pub returns-in_err-taken-clause-answer : goal.returns-in_err-taken-clause-answer
returns-in_err-taken-clause-answer c = let told = (refused (goal.at.returns-in_err-taken-clause-answer c).In_err-taken).answer in search rules

pub returns-in_err-taken-clause-state : goal.returns-in_err-taken-clause-state
returns-in_err-taken-clause-state c = (refused (goal.at.returns-in_err-taken-clause-state c).In_err-taken).state

pub returns-in_err-taken-clause-places : goal.returns-in_err-taken-clause-places
returns-in_err-taken-clause-places c = (refused (goal.at.returns-in_err-taken-clause-places c).In_err-taken).places
