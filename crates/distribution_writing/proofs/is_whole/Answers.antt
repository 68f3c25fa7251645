-- A frame without bytes is not whole. Assumes nothing.
use Rattle.distribution_writing.proofs.Laid.{empty_broken}
use Rattle.distribution_writing.proofs.is_whole.Goals as goal

pub returns-else-n-ne0 : goal.returns-else-n-ne0
returns-else-n-ne0 c = rw c.if-n-ne0.false (empty_broken c.args.frame.now c.if-n-ne0.false)
