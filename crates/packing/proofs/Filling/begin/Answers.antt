-- What a push leaves of a blank packet is what the model's leaves. Assumes nothing.
use Rattle.packing.proofs.Fillings.{empty_valid, empty_places, run_begins}
use Rattle.packing.proofs.Filling.begin.Goals as goal

pub take_run-requires : goal.take_run-requires
take_run-requires c = record { within = empty_valid _ c.empty-self.ensures; places = empty_places _ c.empty-self.ensures }

pub returns : goal.returns
returns c = run_begins _ _ _ _ c.take_run.new.packet c.empty-self.ensures c.take_run.ensures.state c.take_run.ensures.within c.take_run.ensures.places
