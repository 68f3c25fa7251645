-- Past its test a packet is pushed to as the model's is. Assumes nothing.
use mathlib.Core.Path.{◌∙◌}
use Rattle.packing.proofs.Fillings.{pushed_valid, pushed_places, pushed_means, ok_given}
use Rattle.packing.proofs.take_run.Goals as goal

pub returns-clause-answer : goal.returns-clause-answer
returns-clause-answer c = c.is_ok.ensures.value ∙ ok_given c.args.packet.now c.requires.within c.args.service c.args.run.now _ c.push_code.ensures.answer

pub returns-clause-state : goal.returns-clause-state
returns-clause-state c = pushed_means c.args.packet.now c.requires.within c.args.service c.args.run.now c.push_code.new.self c.push_code.ensures.state

pub returns-clause-within : goal.returns-clause-within
returns-clause-within c = pushed_valid c.args.packet.now c.requires.within c.requires.places c.args.service c.args.run.now c.push_code.new.self c.push_code.ensures.places

pub returns-clause-places : goal.returns-clause-places
returns-clause-places c = pushed_places c.args.packet.now c.requires.within c.requires.places c.args.service c.args.run.now c.push_code.new.self c.push_code.ensures.places
