-- The packet tells whether it takes the run; where it does not, the next packet begins with it. Assumes nothing.
use Rattle.packing.proofs.Pushes.{part_blank}
use Rattle.packing.proofs.Fillings.{placed_here, placed_next}
use Rattle.packing.proofs.Filling.place.Goals as goal

pub returns-then-take_run : goal.returns-then-take_run
returns-then-take_run c =
    placed_here c.args.self.now c.args.service c.args.size _ (part_blank c.args.size 31 c.requires.size_bound) c.take_run.new.packet _ c.take_run.ensures.answer c.take_run.ensures.state
    c.if-take_run.true c.take_run.ensures.within c.take_run.ensures.places

pub returns : goal.returns
returns c =
    placed_next c.args.self.now c.args.service c.args.size _ (part_blank c.args.size 31 c.requires.size_bound) c.take_run.new.packet _ c.take_run.ensures.answer c.take_run.ensures.state
    c.if-take_run.false _ c.begin.ensures
