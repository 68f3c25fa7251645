-- `caption::Framerate::nearest` meets its contract: of fewer than 32 steps the cut tells both the whole ones and the rest. Assumes nothing.
use Rattle.caption.proofs.Rates.{goes_down, goes_up}
use Rattle.caption.proofs.Framerate.nearest.Goals as goal

pub returns-then-s-self : goal.returns-then-s-self
returns-then-s-self c = goes_down c.args.k c.args.self.numer c.args.self.denom c.requires c.cut-s.ensures c.if-s-self.true

pub returns : goal.returns
returns c = goes_up c.args.k c.args.self.numer c.args.self.denom c.requires c.cut-s.ensures c.if-s-self.false
