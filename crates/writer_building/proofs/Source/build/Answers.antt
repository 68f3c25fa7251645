-- `writer_building::Source::build` meets its contract: each call gives what it says, one after another. Assumes nothing.
use mathlib.Core.Path.{refl}
use Rattle.writer_building.proofs.Builds.{built_by_lem}
use Rattle.writer_building.proofs.Source.build.Goals as goal

pub returns : goal.returns
returns c = built_by_lem _ _ _ _ _ _ _ _ _ _ _ c.count_of-count.ensures c.start-empty.ensures c.take-t.ensures c.fill-s.ensures refl
