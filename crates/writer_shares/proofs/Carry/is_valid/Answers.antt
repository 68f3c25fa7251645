-- `writer_shares::Carry::is_valid` meets its contract: one law of `Shares` for each way out. Assumes nothing.
use Rattle.writer_shares.specs.Share.{carry_of}
use Rattle.writer_shares.proofs.Shares.{below_decides, zeros_decide}
use Rattle.writer_shares.proofs.Carry.is_valid.Goals as goal

pub returns-then-self : goal.returns-then-self
returns-then-self c = below_decides (carry_of c.args.self) c.if-self.true

pub returns : goal.returns
returns c = zeros_decide (carry_of c.args.self) c.if-self.false
