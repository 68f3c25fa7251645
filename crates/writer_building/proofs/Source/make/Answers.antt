-- `writer_building::Source::make` meets its contract. Assumes nothing.
use Rattle.writer_building.proofs.Builds.{built_at}
use Rattle.writer_building.proofs.Source.make.Goals as goal

pub returns : goal.returns
returns c = built_at _ _ _ _ _ _ _ _ c.turns_of-turns.ensures c.counted_of-counted.ensures c.build.ensures
