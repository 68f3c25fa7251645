-- What is pushed to the three arrays is the packet's push, where the set is that of its services. Assumes nothing.
use mathlib.Core.Path.{◌≡◌, refl, sym, ◌∙◌}
use mathlib.Core.Bool.{false}
use borrow.Author.Rules.{rules}
use Rattle.std.specs.Prelude.{Ok, Err}
use Rattle.packet_entries.specs.Fields.{arrays, fields}
use Rattle.packet_pushes.specs.Pushing.{spills}
use Rattle.packet.specs.Replies.{packet_at, pushed_by}
use Rattle.packet.specs.Packet.{valid_dtvcc}
use Rattle.packet.proofs.Holds.{Places, disagreed_invalid}
use Rattle.packet.proofs.Replies.{Pushed, stored, unstored, run_same}
use Rattle.packet.proofs.DTVCCPacket.push_run.Goals as goal

-- the set is not that of its services
bad : (c : goal.Then-not-services_agree) → valid_dtvcc c.args.self.now ≡ false
bad c =
    let places : Places c.args.self.now = record { numbers = search rules; sizes = search rules; payload = search rules } in
    disagreed_invalid c.args.self.now places (sym c.services_agree.ensures ∙ c.if-not-services_agree.true)

pub returns-then-not-services_agree-clause-answer : goal.returns-then-not-services_agree-clause-answer
returns-then-not-services_agree-clause-answer c = rw (bad c)

pub returns-then-not-services_agree-clause-state : goal.returns-then-not-services_agree-clause-state
returns-then-not-services_agree-clause-state c = rw (bad c)

pub returns-then-not-services_agree-clause-places : goal.returns-then-not-services_agree-clause-places
returns-then-not-services_agree-clause-places c = rw (bad c)

-- the push into the arrays is refused
declined : (c : goal.After-from_residual)
    → Pushed (pushed_by (spills c.args.form) c.args.service_no c.args.code.now c.args.self.now) c.args.self.now (Err c.in_err-count.field-0.0)
    (packet_at c.args.self.now.services (fields c.args.self.now.seq_no c.args.self.now.count c.push_run.new.numbers c.push_run.new.sizes c.push_run.new.payload))
declined c =
    let places : Places c.args.self.now = record { numbers = search rules; sizes = search rules; payload = search rules } in
    let agreed = sym c.services_agree.ensures ∙ c.if-not-services_agree.false in
    unstored c.args.self.now places agreed _ (arrays c.push_run.new.numbers c.push_run.new.sizes c.push_run.new.payload) _ _ _
    (run_same c.args.self.now places agreed _ _ _) c.in_err-count.ensures refl

pub returns-in_err-count-clause-answer : goal.returns-in_err-count-clause-answer
returns-in_err-count-clause-answer c = rw (sym (declined c).answer) (search rules)

pub returns-in_err-count-clause-state : goal.returns-in_err-count-clause-state
returns-in_err-count-clause-state c = (declined c).state

pub returns-in_err-count-clause-places : goal.returns-in_err-count-clause-places
returns-in_err-count-clause-places c = (declined c).places

-- it is accepted
taken : (c : goal.After-hold) → Pushed (pushed_by (spills c.args.form) c.args.service_no c.args.code.now c.args.self.now) c.args.self.now (Ok (tt {0})) c.hold.new.self
taken c =
    let places : Places c.args.self.now = record { numbers = search rules; sizes = search rules; payload = search rules } in
    let agreed = sym c.services_agree.ensures ∙ c.if-not-services_agree.false in
    stored c.args.self.now places agreed _ (arrays c.push_run.new.numbers c.push_run.new.sizes c.push_run.new.payload) _ _ _
    (run_same c.args.self.now places agreed _ _ _) c.in_ok-count.ensures c.hold.ensures

pub returns-clause-answer : goal.returns-clause-answer
returns-clause-answer c = (taken c).answer

pub returns-clause-state : goal.returns-clause-state
returns-clause-state c = (taken c).state

pub returns-clause-places : goal.returns-clause-places
returns-clause-places c = (taken c).places
